-- `plain_at` meets its contract. The loop's invariant: n bytes, and those that follow before three equal ones, are all; the measure is what
-- is left of the places with two bytes after them.
use Prim.Native.Nat.{◌+◌, ◌-◌, ◌≤◌}
use mathlib.Core.Path.{◌≡◌}
use lib.ListN.{length, drop}
use Rattle.byterun_pieces.specs.Pieces.{plain_for}
use Rattle.byterun_pieces.proofs.plain_at.Given as goal

abbrev pub invariant-loop-n : goal.invariant-loop-n
invariant-loop-n l = (l.n ≤ l.last) × (l.i + l.n ≤ length l.row) × (l.n + plain_for (128 - l.n) (drop (l.i + l.n) l.row) ≡ plain_for 128 (drop l.i l.row))

abbrev pub decreases-loop-n : goal.decreases-loop-n
decreases-loop-n l = l.last - l.n
