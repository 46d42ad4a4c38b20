-- The loop's invariant: the bytes before at + k are those before the repeat and its first k; the measure is what is left of times.
use Prim.Native.Nat.{◌+◌, ◌-◌}
use mathlib.Core.Path.{◌≡◌}
use mathlib.Core.List.{◌++◌}
use lib.ListN.{take, replicate}
use Rattle.byterun_overshoot.proofs.fill_over.Given as goal

abbrev pub invariant-loop-k : goal.invariant-loop-k
invariant-loop-k l = take (l.at + l.k) l.dst ≡ take l.at l.fn.dst ++ replicate l.k l.b

abbrev pub decreases-loop-k : goal.decreases-loop-k
decreases-loop-k l = l.times - l.k
