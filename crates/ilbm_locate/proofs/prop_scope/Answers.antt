-- The members of the PROP are a row; of each name one pass gathers the place, and where there is none the outer one is kept.
use Rattle.ilbm_locate.proofs.Laws.{group_laws}
use borrow.Author.Rules.{rules}
use Rattle.ilbm_locate.proofs.prop_scope.Goals as goal

pub size_at-requires : goal.size_at-requires
size_at-requires c = search (group_laws, rules)

pub gather-g-requires : goal.gather-g-requires
gather-g-requires c = search (group_laws, rules)
