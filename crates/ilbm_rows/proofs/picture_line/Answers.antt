-- Without a BODY it is 25; with one, `line_in_body` has the answer, for the header that counts.
use borrow.Author.Rules.{rules}
use Rattle.ilbm_rows.proofs.Body.{line_done}
use Rattle.ilbm_rows.proofs.picture_line.Goals as goal

pub returns-in-Some : goal.returns-in-Some
returns-in-Some c = search (line_done, rules)
