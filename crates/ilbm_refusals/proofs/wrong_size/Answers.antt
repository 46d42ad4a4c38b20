-- The six tests are those of the definition, each on its own property.
use borrow.Author.Rules.{rules}
use Rattle.ilbm_refusals.proofs.Laws.{any_wrong}
use Rattle.ilbm_refusals.proofs.wrong_size.Goals as goal

pub returns : goal.returns
returns c = search (any_wrong, rules)
