-- `three_at` meets its contract: fewer than three bytes are no three.
use Rattle.byterun_pieces.proofs.Scan.{threes}
use borrow.Author.Rules.{rules}
use Rattle.byterun_pieces.proofs.three_at.Goals as goal

pub returns-then-row-i-lt3 : goal.returns-then-row-i-lt3
returns-then-row-i-lt3 c = search (threes, rules)
