-- The first byte gives the class, and the half of the second adds 38.
use Rattle.iff_type_flags.proofs.FlagLaws.{flag_laws}
use borrow.Author.Rules.{rules}
use Rattle.iff_type_flags.proofs.class_of.Goals as goal

pub returns : goal.returns
returns c = search (flag_laws, rules)
