-- `same_at` meets its contract: the bytes that pass the test, of the 128 or fewer, are those that the definition counts.
use Rattle.byterun_pieces.proofs.Scan.{same_counted}
use Rattle.byterun_pieces.proofs.same_at.Goals as goal

pub returns : goal.returns
returns c = same_counted _ _ _ _ _ c.most.ensures c.same_first.ensures
