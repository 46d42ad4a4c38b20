-- The loop keeps that each PROP of the class before q has set its flag and is the first of its type.
use Prim.Native.Nat.{◌-◌}
use mathlib.Core.Path.{◌≡◌}
use lib.ListN.{length}
use Rattle.iff_type_flags.proofs.FlagLaws.{Tracked}
use Rattle.iff_type_flags.proofs.fresh_in_class.Given as goal

abbrev pub invariant-loop-q : goal.invariant-loop-q
invariant-loop-q l = (length l.flags ≡ 27436) × Tracked l.class l.s l.from l.q l.flags

abbrev pub decreases-loop-q : goal.decreases-loop-q
decreases-loop-q l = l.limit - l.q
