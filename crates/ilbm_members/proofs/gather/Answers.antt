-- Before each turn what the members so far and those still to come give is what all of them give. The measure is the bytes left.
use native.Mathlib.Omega.{arith}
use borrow.Author.Rules.{rules}
use Rattle.ilbm_members.proofs.Laws.{row_next}
use Rattle.ilbm_members.proofs.PassLaws.{gathering_more, gathering_end}
use Rattle.ilbm_members.proofs.gather.Goals as goal

pub loop-q-preserved : goal.loop-q-preserved
loop-q-preserved c = search (row_next, gathering_more, rules)

pub returns : goal.returns
returns c = gathering_end _ _ _ _ _ _ (omega arith) c.loop-q.invariant.2
