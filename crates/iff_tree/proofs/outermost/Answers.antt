-- The walk begins at the first byte.
use Rattle.std.proofs.Common.{rules}
use Rattle.iff_tree.proofs.WayLaws.{way_laws}
use Rattle.iff_tree.proofs.outermost.Goals as goal

pub member-requires : goal.member-requires
member-requires c = search (way_laws, rules)
