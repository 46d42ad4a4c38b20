-- The loop keeps what is still to come equal to the whole answer; one turn and the end are laws of ScanLaws.antt.
use Prim.Native.Nat.{◌-◌}
use borrow.Author.Rules.{rules}
use Rattle.iff_repeated_props.proofs.ScanLaws.{scans_hit, scans_more, scans_end}
use Rattle.iff_repeated_props.proofs.prop_before.Goals as goal

pub returns-then-prop_at : goal.returns-then-prop_at
returns-then-prop_at c = search (scans_hit, rules)

pub loop-q-preserved : goal.loop-q-preserved
loop-q-preserved c = search (scans_more, rules)

pub returns : goal.returns
returns c = search (scans_end, rules)
