-- `piece_at` meets its contract: each way out is one law.
use Rattle.byterun_pieces.proofs.Scan.{pieces}
use borrow.Author.Rules.{rules}
use Rattle.byterun_pieces.proofs.piece_at.Goals as goal

pub returns-then-three_at : goal.returns-then-three_at
returns-then-three_at c = search (pieces, rules)

pub returns : goal.returns
returns c = search (pieces, rules)
