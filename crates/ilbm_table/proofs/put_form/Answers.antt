-- A row is put where 30 numbers have room; otherwise the table stays.
use borrow.Author.Rules.{rules}
use Rattle.ilbm_table.proofs.Laws.{form_full, form_put, form_room}
use Rattle.ilbm_table.proofs.put_form.Goals as goal

pub returns-then-table-at-lt30 : goal.returns-then-table-at-lt30
returns-then-table-at-lt30 c = (form_full _ _ _ _ _ c.if-table-at-lt30.true, search rules)

pub returns : goal.returns
returns c =
    (form_put _ _ _ _ _ _ c.if-table-at-lt30.false c.put_picture.ensures, search (form_room, rules))
