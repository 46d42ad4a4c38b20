-- The members of the FORM are a row, whose content is judged; it is seen if the judgement passes.
use borrow.Author.Rules.{rules}
use Rattle.std.proofs.lemmas.Result.{err_from_is_err_and}
use Rattle.ilbm_find.proofs.ViewLaws.{form_full, form_seen, form_refused}
use Rattle.ilbm_find.proofs.view_form.Goals as goal

pub judge-requires : goal.judge-requires
judge-requires c = search (form_full, rules)

pub returns-in_err-header : goal.returns-in_err-header
returns-in_err-header c =
    let p = err_from_is_err_and c.from_residual.result c.from_residual.ensures.1 in
    rw (p.1, p.2) (search (form_refused, rules))

pub returns : goal.returns
returns c = search (form_seen, rules)
