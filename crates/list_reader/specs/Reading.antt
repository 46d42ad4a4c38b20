-- 01 "Listing": "a reader that holds the lent file and its place, and gives the next record, then "end" for ever".
use Rattle.std.specs.Prelude.{ℕ, List, leb}
use Rattle.iff_name.specs.Name.{pick}
use Rattle.iff_tree.specs.Judge.{check_of}
use Rattle.list_cursor.specs.Cursors.{first_cursor}
use Rattle.list_checked_cursor.specs.Checked.{read_at, moved_at}
use Rattle.list_reader.specs.declared.Place.{Place}
use Rattle.list_reader.specs.declared.Opening.{Opening}
use Rattle.iff_refusal.specs.Numbers.{Answer, refusal_in}
use Rattle.iff_tree.specs.declared.Accepted.{Accepted}
use Rattle.list_spec.specs.declared.Record.{Record}
use Rattle.std.specs.Prelude.{Ok, Err, Some, None, Option}

-- how many chunks there are to read: in a refused file none, "and such a reader gives only "end""
abbrev pub chunks_in : Answer Accepted → ℕ
chunks_in (Ok v) = v.chunks
chunks_in (Err r) = 0

-- "The structure refusal, if any, is told when the reader is made"
abbrev pub opening_in : Answer Accepted → Opening
opening_in v = record { place = record { cursor = first_cursor; chunks = chunks_in v }; refusal = refusal_in v }

abbrev pub opening_of : List ℕ → Opening
opening_of s = opening_in (check_of s)

abbrev pub first_place : List ℕ → Place
first_place s = (opening_of s).place

-- a record that is there, and the end where there is none
abbrev pub step_in : Answer Record → Option Record
step_in (Ok r) = Some r
step_in (Err r) = None

-- What is given at any place, and the place after it: at the last record's end, and where no chunk lies, the place stays.
abbrev pub step_at : List ℕ → Place → Option Record
step_at s p = pick (leb p.chunks p.cursor.number) None (step_in (read_at s p.cursor))

abbrev pub place_after : List ℕ → Place → Place
place_after s p = pick (leb p.chunks p.cursor.number) p (record { cursor = moved_at s p.cursor; chunks = p.chunks })
