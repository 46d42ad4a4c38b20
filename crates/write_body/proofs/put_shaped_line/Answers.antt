-- The rows of the planes are put first and the mask row behind them; each has room since the line has.
use Rattle.write_body.proofs.Shapes.{line_put}
use Rattle.write_body.proofs.put_shaped_line.Goals as goal

pub returns-clause-bytes : goal.returns-clause-bytes
returns-clause-bytes c =
    let w = c.put_line-q.ensures in
    let v = c.put_line.ensures in
    let d = c.plane_row_len-n.ensures.is in
    let e = c.mask_rows-masks.ensures.is in
    (line_put c.args.b _ _ _ _ d e _ _ c.requires.1 _ _ w.ends w.bytes _ _ v.ends v.bytes).1
