-- The loop's invariant: k is some eights, no more than there are whole ones, and the first k bytes are copied; the measure is what is
-- left of them.
use Prim.Native.Nat.{◌-◌, ◌%◌, ◌≤◌}
use mathlib.Core.Path.{◌≡◌}
use lib.ListN.{drop}
use lib.Seq.{paste}
use Rattle.byterun_copy.proofs.copy_eights.Given as goal

abbrev pub invariant-loop-k : goal.invariant-loop-k
invariant-loop-k l = (l.k ≤ l.whole) × (l.k % 8 ≡ 0) × (l.dst ≡ paste l.fn.dst l.at (drop l.from l.src) l.k)

abbrev pub decreases-loop-k : goal.decreases-loop-k
decreases-loop-k l = l.whole - l.k
