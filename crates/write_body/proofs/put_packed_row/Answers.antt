-- The buffer holds the plane row, which is packed to its place.
use Rattle.write_body.proofs.Rows.{made_room, made_laws}
use borrow.Author.Rules.{rules}
use Rattle.write_body.proofs.put_packed_row.Goals as goal

pub pack_at-requires : goal.pack_at-requires
pack_at-requires c = search (made_room, c.plane_row.ensures, c.requires, rules)

pub returns-clause-is : goal.returns-clause-is
returns-clause-is c = search (made_laws, rules)

pub returns-clause-bytes : goal.returns-clause-bytes
returns-clause-bytes c = search (made_laws, rules)
