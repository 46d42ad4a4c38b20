-- Only a LIST has PROPs: its members are a row, in which `list_scope` looks. In any other group the scope stays.
use Rattle.ilbm_locate.proofs.Laws.{group_laws}
use Rattle.ilbm_locate.proofs.ScopeLaws.{scope_list, scope_same}
use borrow.Author.Rules.{rules}
use Rattle.ilbm_locate.proofs.inner_scope.Goals as goal

pub name_at-requires : goal.name_at-requires
name_at-requires c = search (group_laws, rules)

pub size_at-requires : goal.size_at-requires
size_at-requires c = search (group_laws, rules)

pub list_scope-requires : goal.list_scope-requires
list_scope-requires c = search (group_laws, rules)

pub returns-then-name_at : goal.returns-then-name_at
returns-then-name_at c = search (scope_list, rules)

pub returns : goal.returns
returns c = search (scope_same, rules)
