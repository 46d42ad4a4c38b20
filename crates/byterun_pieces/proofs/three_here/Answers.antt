-- `three_here` meets its contract: each way out is one law.
use Rattle.byterun_pieces.proofs.Scan.{three_same, three_other}
use Rattle.byterun_pieces.proofs.three_here.Goals as goal

pub returns-then-row-i : goal.returns-then-row-i
returns-then-row-i c =
    three_same _ _ c.requires c.if-row-i.true

pub returns : goal.returns
returns c = three_other _ _ c.requires c.if-row-i.false
