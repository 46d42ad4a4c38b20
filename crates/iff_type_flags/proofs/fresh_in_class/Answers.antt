-- The loop keeps that each PROP of the class before q has set its flag and is the first of its type.
use Prim.Native.Nat.{ℕ, ◌-◌}
use lib.ListN.{length-replicate}
use Rattle.iff_type_flags.proofs.FlagLaws.{flag_laws}
use borrow.Author.Rules.{rules}
use Rattle.iff_type_flags.proofs.fresh_in_class.Goals as goal

pub loop-q-init : goal.loop-q-init
loop-q-init c = (length-replicate {A = ℕ} 27436 0, search (flag_laws, rules))

pub returns-then-flagged-clause-fresh : goal.returns-then-flagged-clause-fresh
returns-then-flagged-clause-fresh c = search (flag_laws, rules)

pub loop-q-preserved : goal.loop-q-preserved
loop-q-preserved c = search (flag_laws, rules)

pub returns-clause-fresh : goal.returns-clause-fresh
returns-clause-fresh c = search (flag_laws, rules)
