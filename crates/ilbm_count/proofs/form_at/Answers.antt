-- A chunk at p has its name, and a group its type, inside the file; the test is that of the definition.
use Rattle.ilbm_count.proofs.Laws.{header_room, type_room, form_none}
use borrow.Author.Rules.{rules}
use Rattle.ilbm_count.proofs.form_at.Goals as goal

pub name_at-n-requires : goal.name_at-n-requires
name_at-n-requires c = search (header_room, rules)

pub name_at-requires : goal.name_at-requires
name_at-requires c = search (type_room, rules)

pub returns-else-is_group : goal.returns-else-is_group
returns-else-is_group c = search (form_none, rules)
