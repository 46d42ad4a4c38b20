-- The name and the type tell whether the group is a picture.
use borrow.Author.Rules.{rules}
use Rattle.ilbm_locate.proofs.Laws.{group_laws}
use Rattle.ilbm_table.proofs.Laws.{own_form, own_put, own_none}
use Rattle.ilbm_table.proofs.put_own.Goals as goal

pub name_at-requires : goal.name_at-requires
name_at-requires c = search (group_laws, rules)

pub name_at-requires-2 : goal.name_at-requires-2
name_at-requires-2 c = search (group_laws, rules)

pub put_form-requires : goal.put_form-requires
put_form-requires c = search (own_form, rules)

pub returns-then-is_picture : goal.returns-then-is_picture
returns-then-is_picture c =
    let put = c.put_form.ensures in
    let group = c.requires.0 in
    let name = c.name_at.ensures in
    let type = c.name_at-2.ensures in
    (own_put _ _ _ _ _ _ _ _ _ group name type c.is_picture.ensures _ _ c.if-is_picture.true put.0, put.1)

pub returns : goal.returns
returns c =
    let group = c.requires.0 in
    let name = c.name_at.ensures in
    let type = c.name_at-2.ensures in
    (own_none _ _ _ _ _ _ _ _ _ group name type c.is_picture.ensures c.if-is_picture.false, search rules)
