-- `judge_packed` meets its contract. The loop's invariant: what is left of the row, read from i, has the answer of the whole row; the
-- measure is what is left of the BODY.
use Prim.Native.Nat.{◌-◌}
use mathlib.Core.Path.{◌≡◌}
use lib.ListN.{length}
use Rattle.byterun_row.specs.ByteRun.{unpack_row, answer_of}
use Rattle.byterun_row.proofs.judge_packed.Given as goal

abbrev pub invariant-loop-left : goal.invariant-loop-left
invariant-loop-left l = answer_of (unpack_row l.body l.i l.left) ≡ answer_of (unpack_row l.body l.at l.n)

abbrev pub decreases-loop-left : goal.decreases-loop-left
decreases-loop-left l = length l.body - l.i
