-- 01 "Listing": "a lent table of records, one per chunk, is filled in order": which records go into a table of m places, and the answer.
use Rattle.std.specs.Prelude.{ℕ, ◌<◌, ◌≡◌, List, [], leb}
use Rattle.iff_name.specs.Name.{pick}
use Rattle.iff_chunk.specs.Chunks.{Chunk, before, none, count}
use Rattle.iff_tree.specs.Judge.{Found, found, refused}
use Rattle.list_spec.specs.declared.Record.{Record}
use Rattle.list_spec.specs.Records.{records_of, count_of}
use Rattle.list_cursor.specs.Cursors.{first_cursor, Located}
use Rattle.iff_refusal.specs.declared.Reason.TheVariants.{TableTooShort}
use Rattle.iff_refusal.specs.Numbers.{Answer, refusing}
use Rattle.iff_tree.specs.declared.Accepted.{Accepted}
use Rattle.std.specs.Prelude.{Ok, Err}

-- the records of a file, none if it is refused
abbrev pub records_in : Found Chunk → List Record
records_in (found c) = records_of c
records_in (refused k p) = []

-- The records that are put into a table of m places: none if the file is refused, 13 among the reasons.
abbrev pub records_for : ℕ → Found Chunk → List Record
records_for m (found c) = pick (leb (count (before c none)) m) (records_of c) []
records_for m (refused k p) = []

-- "13: accepted, but the lent table has fewer places than chunks"; "1 to 12 come before 13"
abbrev pub answer_of : ℕ → Answer Accepted → Answer Accepted
answer_of m (Ok v) = pick (leb v.chunks m) (Ok v) (refusing TableTooShort 0)
answer_of m (Err r) = Err r

-- how many records an answer puts into the table: none with a refusal
abbrev pub to_put : Answer Accepted → ℕ
to_put (Ok v) = v.chunks
to_put (Err r) = 0

-- Where n records are to be put, the file has n, and the cursor can go through them.
abbrev pub Ready : List ℕ → ℕ → Type 0
Ready s n = 0 < n → (Located s first_cursor) × (n ≡ count_of s)
