-- By the cases of the check's answer: its values are stored, or 0 beside a refusal.
use Rattle.export_file.proofs.Numbers.{check_accepted, check_refused}
use Rattle.export_file.proofs.iff_check.Goals as goal

pub returns-in-Ok : goal.returns-in-Ok
returns-in-Ok c = check_accepted _ _ c.check-v.ensures _ c.in-Ok.is

pub returns-in-Err : goal.returns-in-Err
returns-in-Err c = check_refused _ _ c.check-v.ensures _ _ c.in-Err.is c.number.ensures
