-- `eight_at` meets its contract: plane by plane from the last one down, each adds to what the planes after it gave.
use borrow.Author.Rules.{rules}
use Rattle.ilbm_gather.proofs.Eights.{planing}
use Rattle.ilbm_gather.proofs.eight_at.Goals as goal

pub with_plane-h-requires-clause-v_value : goal.with_plane-h-requires-clause-v_value
with_plane-h-requires-clause-v_value c = search (planing, rules)
