-- A cursor that may stand anywhere, also where no walk of the file has led it: whether a chunk lies there, what its header gives,
-- and where the cursor goes from it. At a cursor that is located in an accepted file a chunk lies until the last is passed.
use Rattle.std.specs.Prelude.{ℕ, ◌+◌, ◌%◌, Bool, false, List, leb, length}
use Rattle.iff_name.specs.Name.{pick}
use Rattle.iff_chunk.specs.Chunks.{word}
use Rattle.list_cursor.specs.declared.Cursor.{Cursor}
use Rattle.list_cursor.specs.Cursors.{record_at, group_at, onward_at}
use Rattle.iff_refusal.specs.declared.Reason.TheVariants.{NoRecord}
use Rattle.iff_refusal.specs.Numbers.{Answer, refusing}
use Rattle.list_spec.specs.declared.Record.{Record}
use Rattle.std.specs.Prelude.{Ok}

-- A group of level l and size z at p lies in a file of n bytes, at a level that a group can have.
abbrev pub group_lies : ℕ → ℕ → ℕ → ℕ → Bool
group_lies n p l z = pick (leb (p + 12) n) (pick (leb (p + 8 + z) n) (pick (leb 1 l) (leb l 16) false) false) false

-- the same of a chunk that is no group and has z bytes of data
abbrev pub plain_lies : ℕ → ℕ → ℕ → ℕ → Bool
plain_lies n p l z = pick (leb (p + 8 + z + z % 2) n) (leb l 17) false

-- the chunk at the cursor does, if g tells whether it is a group
abbrev pub kind_lies : List ℕ → Cursor → Bool → Bool
kind_lies s cur g =
    pick g (group_lies (length s) cur.place cur.level (word s (cur.place + 4))) (plain_lies (length s) cur.place cur.level (word s (cur.place + 4)))

-- A chunk lies at the cursor, of a number that it can have.
abbrev pub lies_at : List ℕ → Cursor → Bool
lies_at s cur =
    pick (leb (length s) 16777216)
    (pick (leb cur.number cur.place)
    (pick (leb (cur.place + 8) (length s)) (kind_lies s cur (group_at s cur)) false) false) false

-- the record of the chunk there
abbrev pub read_at : List ℕ → Cursor → Answer Record
read_at s cur = pick (lies_at s cur) (Ok (record_at s cur.level cur.number cur.place)) (refusing NoRecord 0)

-- where the cursor goes: it stays where no chunk lies
abbrev pub moved_at : List ℕ → Cursor → Cursor
moved_at s cur = pick (lies_at s cur) (onward_at s cur) cur
