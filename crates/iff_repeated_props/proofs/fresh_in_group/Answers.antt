-- The search says it of a LIST; before place 0 there is no PROP.
use Rattle.iff_repeated_props.proofs.RepeatLaws.{fresh_none}
use Rattle.iff_repeated_props.proofs.fresh_in_group.Goals as goal

pub returns-in_default : goal.returns-in_default
returns-in_default c = fresh_none _ _
