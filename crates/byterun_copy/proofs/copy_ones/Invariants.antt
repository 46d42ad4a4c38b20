-- The loop's invariant: the first k bytes are copied.
use mathlib.Core.Path.{◌≡◌}
use lib.ListN.{drop}
use lib.Seq.{paste}
use Rattle.byterun_copy.proofs.copy_ones.Given as goal

abbrev pub invariant-loop-k : goal.invariant-loop-k
invariant-loop-k l = l.dst ≡ paste l.fn.dst l.at (drop l.from l.src) l.k
