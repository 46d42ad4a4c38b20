-- The part has the right size, so that `dest_fields` may read it; an absent property's fields are 0.
use Rattle.std.proofs.Common.{rules}
use Rattle.ilbm_properties.proofs.Laws.{destination_none, destination_some}
use Rattle.ilbm_properties.proofs.destination_of.Goals as goal

pub returns-in-None : goal.returns-in-None
returns-in-None c = search (destination_none, rules)

pub returns-in-Some : goal.returns-in-Some
returns-in-Some c = search (destination_some, rules)
