-- 01 "Listing": "It is given three ways that agree". The reader of an accepted file stands, after i steps, at record i or behind the
-- last one: its cursor is located there, since each step goes on from where the last one ended. So the record of a number, the
-- reader's answer after as many steps and the table's row of that number are the same.
use Rattle.std.specs.Prelude.{ℕ, zero, suc, ◌≤◌, min, ◌≡◌, List, length, get_or}
use Rattle.iff_tree.specs.Judge.{read_file}
use Rattle.list_spec.specs.declared.Record.{Record}
use Rattle.list_spec.specs.Records.{count_of}
use Rattle.list_cursor.specs.Cursors.{Located}
use Rattle.list_capacity.specs.Capacity.{records_for}
use Rattle.list_columns.specs.Columns.{column}
use Rattle.list_reader.specs.declared.Place.{Place}
use Rattle.list_reader.specs.Reading.{first_place, step_at, place_after}
use Rattle.std.specs.Prelude.{Some}

-- the reader's place after a number of steps

unfoldable pub place_before : List ℕ → ℕ → Place
place_before s zero = first_place s
place_before s (suc i) = place_after s (place_before s i)

-- where the reader of an accepted file stands after i steps
pub record Stood (s : List ℕ) (i : ℕ) (p : Place) : Type 0 where
  pub located : Located s p.cursor
  pub counted : p.chunks ≡ count_of s
  pub number : p.cursor.number ≡ min i (count_of s)

-- Record i of a file is what the reader gives after i steps, and what each column of a filled table has at i.
pub record Agrees (s : List ℕ) (i : ℕ) (r : Record) : Type 0 where
  pub by_reader : step_at s (place_before s i) ≡ Some r
  pub by_table :
      (f : Record → ℕ) (m : ℕ) (old : List ℕ) → count_of s ≤ m → m ≤ length old → get_or (column f (records_for m (read_file s)) old) i 0 ≡ f r
