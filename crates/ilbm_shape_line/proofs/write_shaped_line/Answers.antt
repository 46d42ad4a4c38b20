-- `write_shaped_line` meets its contract: the rows stand in the BODY or in the buffer, and colours and shape are gathered from them.
use native.Mathlib.Omega.{arith}
use borrow.Author.Rules.{rules}
use Rattle.ilbm_plane_rows.proofs.Plain.{plain_read, plain_room}
use Rattle.ilbm_shape_line.proofs.Lines.{row_narrow, read_rows, count_back}
use Rattle.ilbm_shape_line.proofs.Lines.{colours_written, shape_written}
use Rattle.ilbm_shape_line.proofs.write_shaped_line.Goals as goal

pub put_pixels-requires-clause-planes_bound : goal.put_pixels-requires-clause-planes_bound
put_pixels-requires-clause-planes_bound c =
    let n = c.row_length-n.ensures in
    let rows = c.row_count-rows.ensures.0 in
    let read = read_rows c.args.planes c.args.masking _ _ _ n.0 rows _ _ _ c.requires.read in
    let room = plain_room _ _ _ _ _ c.if-compression-eq0.true c.if-at-body.true read c.row_count-rows.result (omega arith) in
    let narrow = row_narrow _ _ _ n.2 c.requires.row_len.0 in
    (search rules, count_back _ _ _ _ rows room, narrow)

pub returns-then-at-body-clause-colours : goal.returns-then-at-body-clause-colours
returns-then-at-body-clause-colours c =
    let n = c.row_length-n.ensures in
    let rows = c.row_count-rows.ensures.0 in
    let read = read_rows c.args.planes c.args.masking _ _ _ n.0 rows _ _ _ c.requires.read in
    let found = plain_read _ _ _ _ _ c.if-compression-eq0.true c.if-at-body.true read in
    let put = c.put_pixels.ensures in
    let wide = c.requires.row_len in colours_written _ _ _ c.args.planes c.args.masking _ _ _ n.0 rows _ _ found _ _ wide.0 put.colours

pub returns-then-at-body-clause-shape : goal.returns-then-at-body-clause-shape
returns-then-at-body-clause-shape c =
    let n = c.row_length-n.ensures in
    let rows = c.row_count-rows.ensures.0 in
    let read = read_rows c.args.planes c.args.masking _ _ _ n.0 rows _ _ _ c.requires.read in
    let found = plain_read _ _ _ _ _ c.if-compression-eq0.true c.if-at-body.true read in
    let put = c.put_pixels.ensures in
    let wide = c.requires.row_len in
    shape_written _ _ _ c.args.planes c.args.masking _ _ _ n.0 rows _ _ found _ _ wide.0 put.colours _ _ _ wide.1 put.shape

pub returns-clause-colours : goal.returns-clause-colours
returns-clause-colours c =
    let n = c.row_length-n.ensures in
    let rows = c.row_count-rows.ensures.0 in
    let wide = c.requires.row_len in
    let found = c.write_rows-next.ensures in
    let put = c.put_pixels-2.ensures in colours_written _ _ _ c.args.planes c.args.masking _ _ _ n.0 rows _ _ found _ _ wide.0 put.colours

pub returns-clause-shape : goal.returns-clause-shape
returns-clause-shape c =
    let n = c.row_length-n.ensures in
    let rows = c.row_count-rows.ensures.0 in
    let wide = c.requires.row_len in
    let found = c.write_rows-next.ensures in
    let put = c.put_pixels-2.ensures in
    shape_written _ _ _ c.args.planes c.args.masking _ _ _ n.0 rows _ _ found _ _ wide.0 put.colours _ _ _ wide.1 put.shape
