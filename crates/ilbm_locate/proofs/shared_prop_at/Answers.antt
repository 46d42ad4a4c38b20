-- Only a group has a type, 8 bytes behind its place; name and type are then tested.
use Rattle.ilbm_locate.proofs.Laws.{name_room, type_room, group_tested, leaf_tested}
use borrow.Author.Rules.{rules}
use Rattle.ilbm_locate.proofs.shared_prop_at.Goals as goal

pub name_at-n-requires : goal.name_at-n-requires
name_at-n-requires c = search (name_room, rules)

pub name_at-requires : goal.name_at-requires
name_at-requires c = search (type_room, rules)

pub returns-then-is_group : goal.returns-then-is_group
returns-then-is_group c = search (group_tested, rules)

pub returns : goal.returns
returns c = search (leaf_tested, rules)
