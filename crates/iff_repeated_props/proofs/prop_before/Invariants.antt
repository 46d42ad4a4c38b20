-- The loop keeps what is still to come equal to the whole answer; one turn and the end are laws of ScanLaws.antt.
use Prim.Native.Nat.{◌-◌}
use Rattle.iff_rules.specs.Rules.{prop_before}
use Rattle.iff_repeated_props.proofs.ScanLaws.{Scans}
use Rattle.iff_repeated_props.proofs.prop_before.Given as goal

abbrev pub invariant-loop-q : goal.invariant-loop-q
invariant-loop-q l = Scans l.s l.q l.p l.t.code (prop_before l.s l.from l.p l.t.code)

abbrev pub decreases-loop-q : goal.decreases-loop-q
decreases-loop-q l = l.p - l.q
