-- Before each turn the members still to come give the scope that all give: a PROP ILBM decides, and at the end the scope around is left.
use native.Mathlib.Omega.{arith}
use Rattle.ilbm_locate.proofs.ScopeLaws.{sharing_laws, sharing_end}
use borrow.Author.Rules.{rules}
use Rattle.ilbm_locate.proofs.list_scope.Goals as goal

pub prop_scope-requires : goal.prop_scope-requires
prop_scope-requires c = search (sharing_laws, rules)

pub returns-then-shared_prop_at : goal.returns-then-shared_prop_at
returns-then-shared_prop_at c = search (sharing_laws, rules)

pub loop-q-preserved : goal.loop-q-preserved
loop-q-preserved c = search (sharing_laws, rules)

pub returns : goal.returns
returns c = rw c.same_scope.ensures (sharing_end _ _ _ _ _ (omega arith) c.loop-q.invariant.3)
