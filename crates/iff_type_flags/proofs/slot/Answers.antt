-- The three digits, each below 38, make the slot, which is below 19 * 38 * 38.
use Rattle.iff_type_flags.proofs.FlagLaws.{flag_laws}
use borrow.Author.Rules.{rules}
use Rattle.iff_type_flags.proofs.slot.Goals as goal

pub returns : goal.returns
returns c = search (flag_laws, rules)
