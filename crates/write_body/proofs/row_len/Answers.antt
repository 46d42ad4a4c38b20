-- A plain row has its n bytes; any other is packed, in a buffer that is small for a narrow picture.
use Rattle.write_body.proofs.Rows.{written_laws}
use borrow.Author.Rules.{rules}
use Rattle.write_body.proofs.row_len.Goals as goal

pub returns-then-compression-eq0 : goal.returns-then-compression-eq0
returns-then-compression-eq0 c = search (written_laws, rules)
