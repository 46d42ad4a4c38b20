-- By the cases of the view: the parts of a picture that is seen, or none beside its refusal.
use Rattle.ilbm_table_row.proofs.Rows.{seen_put, refused_put}
use Rattle.ilbm_table_row.proofs.put_picture.Goals as goal

pub returns-in-Ok : goal.returns-in-Ok
returns-in-Ok c = seen_put _ _ _ _ c.view_form.ensures _ _ _ _ _ c.in-Ok.is c.put_row.ensures

pub returns-in-Err : goal.returns-in-Err
returns-in-Err c =
    refused_put _ _ _ _ c.view_form.ensures _ _ _ _ _ _ c.in-Err.is c.number.ensures c.no_parts.ensures c.put_row-in-Err.ensures
