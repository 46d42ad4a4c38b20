-- `with_plane` meets its contract: the table has the byte's bits, each beside the colour number that it is the lowest bit of.
use borrow.Author.Rules.{rules}
use Rattle.ilbm_gather.proofs.Eights.{planing}
use Rattle.ilbm_gather.proofs.with_plane.Goals as goal

pub overflow_mul-result : goal.overflow_mul-result
overflow_mul-result c = search (planing, rules)

pub overflow_add-result : goal.overflow_add-result
overflow_add-result c = search (planing, rules)

pub returns-then-k-planes : goal.returns-then-k-planes
returns-then-k-planes c = search (planing, rules)

pub returns-else-k-planes : goal.returns-else-k-planes
returns-else-k-planes c = search (planing, rules)
