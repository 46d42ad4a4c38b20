-- The loop's invariant: the first j bytes of the row stand at their place.
use borrow.Author.Rules.{rules}
use Rattle.write_plane_row.proofs.Planes.{row_laws}
use Rattle.write_plane_row.proofs.plane_row.Goals as goal

pub loop-j-init : goal.loop-j-init
loop-j-init c = search (row_laws, rules)

pub loop-j-preserved : goal.loop-j-preserved
loop-j-preserved c = search (row_laws, rules)
