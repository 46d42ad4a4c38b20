-- The line ends among the eight pixels, or has them all.
use Rattle.write_plane_row.proofs.Planes.{byte_is}
use borrow.Author.Rules.{rules}
use Rattle.write_plane_row.proofs.plane_byte.Goals as goal

pub returns-then-line-x : goal.returns-then-line-x
returns-then-line-x c = search (byte_is, rules)

pub returns : goal.returns
returns c = search (byte_is, rules)
