-- `lacks_room` meets its contract: room for the longest packed row of this length is room enough.
use Rattle.std.specs.Prelude.{◌≡◌, ◌≤◌, ℕ, List, length, false, ltb}
use Rattle.std.proofs.Common.{sym, le-ltb, arith}
use Rattle.byterun_pack.specs.Pack.{packed, most_for}
use Rattle.byterun_pack.proofs.laws.Packed.{packed_short}
use Rattle.byterun_pack.proofs.lacks_room.Goals as goal

room_enough : (row : List ℕ) (room : ℕ) → most_for (length row) ≤ room → false ≡ ltb room (length (packed row))
room_enough row room h = let z = packed_short row in sym (le-ltb room (length (packed row)) (omega arith))

pub returns-then-n-room : goal.returns-then-n-room
returns-then-n-room c = room_enough _ _ c.if-n-room.true
