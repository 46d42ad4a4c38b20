-- The buffer holds the plane row, whose packed length is told.
use Rattle.write_body.proofs.Rows.{made_laws}
use borrow.Author.Rules.{rules}
use Rattle.write_body.proofs.packed_row_len.Goals as goal

pub returns : goal.returns
returns c = search (made_laws, rules)
