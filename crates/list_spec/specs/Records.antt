-- 01 "Listing": the records of a file's chunks, defined from its tree.
use Rattle.std.specs.Prelude.{ℕ, zero, suc, ◌+◌, List, [], ◌∷◌, ◌++◌, length}
use Rattle.iff_name.specs.Name.{kind_of}
use Rattle.iff_chunk.specs.Chunks.{Chunks, none, leaf, group, Chunk, before, bytes, count}
use Rattle.iff_tree.specs.Judge.{Found, found, refused, read_file}
use Rattle.list_spec.specs.declared.Record.{Record}
use Rattle.iff_refusal.specs.declared.Reason.TheVariants.{NoRecord}
use Rattle.iff_refusal.specs.Numbers.{Answer, refusing}
use Rattle.std.specs.Prelude.{Ok}

-- "Records stand in file order: number, level, kind (FORM, LIST, CAT, PROP, local, filler), name (the type for a group), place,
-- size." Of chunks in a row at level l, the first of which has number n and stands at p; "The outermost group has level 1, any
-- other chunk one more than its group."
unfoldable pub records_from : ℕ → ℕ → ℕ → Chunks → List Record
records_from l n p none = []
records_from l n p (leaf c d pad F) =
    record { number = n; level = l; kind = kind_of c; name = record { code = c }; place = p; size = length d } ∷
    records_from l (n + 1) (p + 8 + length d + length pad) F
records_from l n p (group c t G F) =
    record { number = n; level = l; kind = kind_of c; name = record { code = t }; place = p; size = 4 + length (bytes G) } ∷
    (records_from (l + 1) (n + 1) (p + 12) G ++ records_from l (n + 1 + count G) (p + 12 + length (bytes G)) F)

abbrev pub records_of : Chunk → List Record
records_of c = records_from 1 0 0 (before c none)

-- the record of number i in a list, "14 if there is none"
unfoldable pub pick_record : List Record → ℕ → Answer Record
pick_record [] i = refusing NoRecord 0
pick_record (r ∷ rs) zero = Ok r
pick_record (r ∷ rs) (suc i) = pick_record rs i

abbrev pub record_in : Found Chunk → ℕ → Answer Record
record_in (found c) i = pick_record (records_of c) i
record_in (refused k p) i = refusing k p

-- "one record asked by its number (14 if there is none)"; "1 to 12 come before 13, 14 and 15"
abbrev pub record_of : List ℕ → ℕ → Answer Record
record_of s i = record_in (read_file s) i

-- how many chunks a file has
abbrev pub count_in : Found Chunk → ℕ
count_in (found c) = count (before c none)
count_in (refused k p) = 0

abbrev pub count_of : List ℕ → ℕ
count_of s = count_in (read_file s)
