-- The loop keeps that the classes so far, and the last, hold no repeat before r; a type is of one of the 76 classes.
use Prim.Native.Nat.{◌-◌, ◌≤◌}
use lib.ListN.{length}
use Rattle.iff_repeated_props.proofs.RepeatLaws.{Covered}
use Rattle.iff_repeated_props.proofs.fresh_before.Given as goal

abbrev pub invariant-loop-class : goal.invariant-loop-class
invariant-loop-class l = (l.r ≤ length l.s - 11) × Covered l.class l.s l.from l.r
