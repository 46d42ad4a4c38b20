-- A CAMG that counts has four bytes, so that `long_at` may read them; where none counts the number is 0.
use Rattle.std.proofs.Common.{rules}
use Rattle.ilbm_properties.proofs.Laws.{long_none, long_some}
use Rattle.ilbm_properties.proofs.view_mode.Goals as goal

pub returns-in-None : goal.returns-in-None
returns-in-None c = search (long_none, rules)

pub returns-in-Some : goal.returns-in-Some
returns-in-Some c = search (long_some, rules)
