-- The loop's invariant: the bytes before at + k are those before the run and its first k; the measure is what is left of count.
use Prim.Native.Nat.{◌+◌, ◌-◌}
use mathlib.Core.Path.{◌≡◌}
use mathlib.Core.List.{◌++◌}
use lib.ListN.{take, drop}
use Rattle.byterun_overshoot.proofs.copy_over.Given as goal

abbrev pub invariant-loop-k : goal.invariant-loop-k
invariant-loop-k l = take (l.at + l.k) l.dst ≡ take l.at l.fn.dst ++ take l.k (drop l.from l.src)

abbrev pub decreases-loop-k : goal.decreases-loop-k
decreases-loop-k l = l.count - l.k
