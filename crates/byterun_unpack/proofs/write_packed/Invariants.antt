-- `write_packed` meets its contract. The loop's invariant: the first `done` bytes of the row, before what is left of its n, read from
-- `next`, are the whole row; the measure is what is left of the BODY. The whole row is full, so no code is refused.
use Prim.Native.Nat.{◌-◌, ◌≤◌}
use mathlib.Core.Path.{◌≡◌}
use lib.ListN.{length, take}
use Rattle.byterun_row.specs.ByteRun.{unpack_row, prepend}
use Rattle.byterun_unpack.proofs.write_packed.Given as goal

abbrev pub invariant-loop-done : goal.invariant-loop-done
invariant-loop-done l =
    (l.done ≤ l.n) × (l.n ≤ length l.row) × (length l.row ≡ length l.initial.row)
    × (prepend (take l.done l.row) (unpack_row l.body l.next (l.n - l.done)) ≡ unpack_row l.body l.at l.n)

abbrev pub decreases-loop-done : goal.decreases-loop-done
decreases-loop-done l = length l.body - l.next
