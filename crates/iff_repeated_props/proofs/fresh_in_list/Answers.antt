-- The search over all classes says it of a long run; before place 0 there is no PROP.
use Rattle.iff_repeated_props.proofs.RepeatLaws.{fresh_none}
use Rattle.iff_repeated_props.proofs.fresh_in_list.Goals as goal

pub returns-then-e-lt12 : goal.returns-then-e-lt12
returns-then-e-lt12 c = fresh_none _ _

pub returns-then-run-lt128 : goal.returns-then-run-lt128
returns-then-run-lt128 c = fresh_none _ _
