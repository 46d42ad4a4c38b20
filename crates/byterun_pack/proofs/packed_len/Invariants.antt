-- `packed_len` meets its contract. The loop's invariant: the bytes counted, and the packed length of what is left of the row, are the whole
-- length; the measure is what is left of the row.
use Prim.Native.Nat.{◌+◌, ◌-◌, ◌≤◌}
use mathlib.Core.Path.{◌≡◌}
use lib.ListN.{length, drop}
use Rattle.byterun_pack.specs.Pack.{packed}
use Rattle.byterun_pack.proofs.packed_len.Given as goal

abbrev pub invariant-loop-i : goal.invariant-loop-i
invariant-loop-i l = (l.i ≤ length l.row) × (l.total ≤ l.i + l.i) × (l.total + length (packed (drop l.i l.row)) ≡ length (packed l.row))

abbrev pub decreases-loop-i : goal.decreases-loop-i
decreases-loop-i l = length l.row - l.i
