-- A property of the FORM's own counts, and else the shared one, if there is one.
use Rattle.ilbm_content.proofs.Laws.{shared_marked}
use borrow.Author.Rules.{rules}
use Rattle.ilbm_content.proofs.property.Goals as goal

pub part_at-requires-in-Some : goal.part_at-requires-in-Some
part_at-requires-in-Some c = search (shared_marked, rules)
