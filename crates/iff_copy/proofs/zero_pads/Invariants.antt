-- Before each turn the buffer is clean up to p, and from there on the chunks still to come are as the file has them.
use Prim.Native.Nat.{◌-◌}
use mathlib.Core.Path.{◌≡◌}
use lib.ListN.{length}
use Rattle.iff_copy.specs.Clean.{copied_into}
use Rattle.iff_copy.proofs.Laws.{Cleaning}
use Rattle.iff_copy.proofs.zero_pads.Given as goal

abbrev pub invariant-loop-p : goal.invariant-loop-p
invariant-loop-p l = (length l.out ≡ length l.initial.out) × (Cleaning l.s l.p l.end l.out (copied_into l.s l.initial.out))

abbrev pub decreases-loop-p : goal.decreases-loop-p
decreases-loop-p l = l.end - l.p
