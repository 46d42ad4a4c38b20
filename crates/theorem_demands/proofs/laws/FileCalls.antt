-- The calls on a file tell what the file is refused with, or 13, 14, 15 or 32 of their own.
use Rattle.std.specs.Prelude.{ℕ, zero, suc, ◌≡◌, refl, Bool, true, false, List, [], ◌∷◌, leb, Ok, Err}
use Rattle.iff_name.specs.Name.{pick}
use Rattle.iff_rules.specs.Rules.{is_group}
use Rattle.iff_chunk.specs.Chunks.{Chunk}
use Rattle.iff_tree.specs.Judge.{Found, found, refused, read_file, verdict_of, check_of, accepting}
use Rattle.iff_copy.specs.Clean.{copy_answer, copy_of}
use Rattle.list_spec.specs.declared.Record.{Record}
use Rattle.list_spec.specs.Records.{records_of, pick_record, record_in, record_of}
use Rattle.list_spec.specs.Contents.{extent_at, extent_in, extent_of, data_answer}
use Rattle.list_capacity.specs.Capacity.{answer_of}
use Rattle.list_reader.specs.Reading.{opening_of}
use Rattle.ilbm_count.specs.Count.{count_in, count_of}
use Rattle.ilbm_spec.specs.Table.{PictureRow, rows_for, table_of, table_answer}
use Rattle.theorem_demands.specs.Numbers.{structural, of_record, of_data, of_table, of_copy, among, OneOf}
use Rattle.theorem_demands.proofs.laws.Numbers.{Refuses, within, one_of_more, AnswerBy, told, refusal_told}
use Rattle.theorem_demands.proofs.laws.Structure.{file_refuses}
use Rattle.iff_refusal.specs.declared.Reason.TheVariants.{TableTooShort, NoRoom}
use Rattle.iff_refusal.specs.declared.Reason.{Reason}
use Rattle.iff_refusal.specs.Numbers.{Answer, refusing, number_of, number_in, place_in}
use Rattle.iff_tree.specs.declared.Accepted.{Accepted}

-- ---- the check, the table and the reader

check_by : (s : List ℕ) (f : Found Chunk) → Refuses structural f → AnswerBy structural (verdict_of s f)
check_by s (found c) i = tt
check_by s (refused k p) i = i

checked : (s : List ℕ) → AnswerBy structural (check_of s)
checked s = check_by s (read_file s) (file_refuses s)

pub check : (s : List ℕ) (k : Reason) (p : ℕ) → check_of s ≡ refusing k p → OneOf structural (number_of k) p
check s k p = told structural (check_of s) k p (checked s)

table_by : (room : ℕ) (v : Answer Accepted) → AnswerBy structural v → AnswerBy of_table (answer_of room v)
unfolding within among
table_by room (Ok v) i = go (leb v.chunks room)
  where
    go : (b : Bool) → AnswerBy of_table (pick b (accepting v.chunks v.end v.trailing) (refusing TableTooShort 0))
    go true = tt
    go false = (refl, refl)
table_by room (Err r) i = one_of_more structural of_table refl (number_of r.reason) r.place i

pub table : (s : List ℕ) (room : ℕ) (k : Reason) (p : ℕ) → answer_of room (check_of s) ≡ refusing k p → OneOf of_table (number_of k) p
table s room k p = told of_table (answer_of room (check_of s)) k p (table_by room (check_of s) (checked s))

pub reader : (s : List ℕ) → let a = (opening_of s).refusal in OneOf (0 ∷ structural) (number_in a) (place_in a)
reader s = refusal_told structural (check_of s) (checked s)

-- ---- the clean copy and the count of pictures

copy_choice : (b : Bool) (n : ℕ) → AnswerBy of_copy (pick b (refusing NoRoom 0) (Ok n))
unfolding among
copy_choice true n = (refl, refl)
copy_choice false n = tt

copy_by : (f : Found Chunk) (room : ℕ) → Refuses structural f → AnswerBy of_copy (copy_answer f room)
unfolding within among
copy_by (found c) room i = search copy_choice
copy_by (refused k p) room i = one_of_more structural of_copy refl (number_of k) p i

pub clean_copy : (s : List ℕ) (room : ℕ) (k : Reason) (p : ℕ) → copy_of s room ≡ refusing k p → OneOf of_copy (number_of k) p
clean_copy s room k p = told of_copy (copy_of s room) k p (copy_by (read_file s) room (file_refuses s))

count_by : (f : Found Chunk) → Refuses structural f → AnswerBy structural (count_in f)
count_by (found c) i = tt
count_by (refused k p) i = i

pub picture_count : (s : List ℕ) (k : Reason) (p : ℕ) → count_of s ≡ refusing k p → OneOf structural (number_of k) p
picture_count s k p = told structural (count_of s) k p (count_by (read_file s) (file_refuses s))

-- ---- the table of pictures

pictures_choice :
    (b : Bool) (rs : List PictureRow) → AnswerBy of_table (table_answer (pick b (refused TableTooShort 0) (found rs)))
unfolding among
pictures_choice true rs = (refl, refl)
pictures_choice false rs = tt

pictures_by : (room : ℕ) (f : Found Chunk) → Refuses structural f → AnswerBy of_table (table_answer (rows_for room f))
unfolding within among
pictures_by room (found c) i = search pictures_choice
pictures_by room (refused k p) i = one_of_more structural of_table refl (number_of k) p i

pub picture_table :
    (s : List ℕ) (room : ℕ) (k : Reason) (p : ℕ) → table_answer (table_of s room) ≡ refusing k p → OneOf of_table (number_of k) p
picture_table s room k p = told of_table (table_answer (table_of s room)) k p (pictures_by room (read_file s) (file_refuses s))

-- ---- one record, and its data

pick_by : (rs : List Record) (i : ℕ) → AnswerBy of_record (pick_record rs i)
unfolding pick_record among
pick_by [] i = (refl, refl)
pick_by (r ∷ rs) zero = tt
pick_by (r ∷ rs) (suc i) = pick_by rs i

record_by : (f : Found Chunk) (i : ℕ) → Refuses structural f → AnswerBy of_record (record_in f i)
unfolding within among
record_by (found c) i j = pick_by (records_of c) i
record_by (refused k p) i j = one_of_more structural of_record refl (number_of k) p j

recorded : (s : List ℕ) (i : ℕ) → AnswerBy of_record (record_of s i)
recorded s i = record_by (read_file s) i (file_refuses s)

pub record_by_number : (s : List ℕ) (i : ℕ) (k : Reason) (p : ℕ) → record_of s i ≡ refusing k p → OneOf of_record (number_of k) p
record_by_number s i k p = told of_record (record_of s i) k p (recorded s i)

group_by : (b : Bool) (r : Record) → AnswerBy of_data (extent_at b r)
unfolding among
group_by true r = (refl, refl)
group_by false r = tt

data_by_lem : (l : Answer Record) → AnswerBy of_record l → AnswerBy of_data (extent_in l)
unfolding within among
data_by_lem (Ok r) i = group_by (is_group r.kind) r
data_by_lem (Err r) i = one_of_more of_record of_data refl (number_of r.reason) r.place i

extent_by : (s : List ℕ) (i : ℕ) → AnswerBy of_data (extent_of s i)
extent_by s i = data_by_lem (record_of s i) (recorded s i)

pub chunk_data : (s : List ℕ) (i : ℕ) → let a = data_answer s i in OneOf (0 ∷ of_data) (number_in a.refusal) (place_in a.refusal)
chunk_data s i = refusal_told of_data (extent_of s i) (extent_by s i)

pub chunk_extent : (s : List ℕ) (i : ℕ) (k : Reason) (p : ℕ) → extent_of s i ≡ refusing k p → OneOf of_data (number_of k) p
chunk_extent s i k p = told of_data (extent_of s i) k p (extent_by s i)
