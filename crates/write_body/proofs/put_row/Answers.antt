-- A plain row is put as it is, any other packed, in a buffer that is small for a narrow picture.
use Rattle.write_body.proofs.Rows.{written_laws}
use borrow.Author.Rules.{rules}
use Rattle.write_body.proofs.put_row.Goals as goal

pub plane_row-requires : goal.plane_row-requires
plane_row-requires c = search (written_laws, rules)

pub returns-then-compression-eq0-clause-is : goal.returns-then-compression-eq0-clause-is
returns-then-compression-eq0-clause-is c = search (written_laws, rules)
