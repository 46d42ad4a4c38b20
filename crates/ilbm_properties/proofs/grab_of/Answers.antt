-- The part has the right size, so that `grab_fields` may read it; an absent property's fields are 0.
use Rattle.std.proofs.Common.{rules}
use Rattle.ilbm_properties.proofs.Laws.{grab_none, grab_some}
use Rattle.ilbm_properties.proofs.grab_of.Goals as goal

pub returns-in-None : goal.returns-in-None
returns-in-None c = search (grab_none, rules)

pub returns-in-Some : goal.returns-in-Some
returns-in-Some c = search (grab_some, rules)
