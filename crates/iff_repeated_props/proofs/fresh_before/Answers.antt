-- The loop keeps that the classes so far, and the last, hold no repeat before r; a type is of one of the 76 classes.
use Prim.Native.Nat.{◌-◌}
use Rattle.iff_repeated_props.proofs.RepeatLaws.{covered_more, covered_end}
use borrow.Author.Rules.{rules}
use Rattle.iff_repeated_props.proofs.fresh_before.Goals as goal

pub loop-class-preserved : goal.loop-class-preserved
loop-class-preserved c = search (covered_more, rules)

pub returns : goal.returns
returns c = search (covered_end, rules)
