-- `scan_shaped_frame` meets its contract: a frame whose rows were all judged sound may be written, and a refusal leaves both frames.
use Rattle.std.proofs.lemmas.Result.{err_from_is_err_and}
use Rattle.ilbm_shape_frame.proofs.Frames.{frame_sound, frame_done, frame_refused}
use Rattle.ilbm_shape_frame.proofs.scan_shaped_frame.Goals as goal

pub returns-in_err-end-clause-is : goal.returns-in_err-end-clause-is
returns-in_err-end-clause-is c =
    let rows = c.row_count-rows.ensures.0 in
    let refused = frame_refused _ _ _ _ c.args.transparent _ _ _ _ _ c.judge_rows.ensures c.row_length-n.ensures.0 rows in
    let p = err_from_is_err_and c.from_residual.result c.from_residual.ensures.1 in
    rw (p.1, p.2) (refused c.args.frame.now c.args.shape.now _ c.in_err-end.was).0

pub returns-in_err-end-clause-colours : goal.returns-in_err-end-clause-colours
returns-in_err-end-clause-colours c =
    let rows = c.row_count-rows.ensures.0 in
    (frame_refused _ _ _ _ _ _ _ _ _ _ c.judge_rows.ensures c.row_length-n.ensures.0 rows _ c.args.shape.now _ c.in_err-end.was).1

pub returns-in_err-end-clause-shape : goal.returns-in_err-end-clause-shape
returns-in_err-end-clause-shape c =
    let rows = c.row_count-rows.ensures.0 in
    (frame_refused _ _ _ _ _ _ _ _ _ _ c.judge_rows.ensures c.row_length-n.ensures.0 rows c.args.frame.now _ _ c.in_err-end.was).2

pub write_shaped_frame-requires-clause-read : goal.write_shaped_frame-requires-clause-read
write_shaped_frame-requires-clause-read c =
    frame_sound _ _ _ _ _ _ _ _ _ _ c.judge_rows.ensures c.row_length-n.ensures.0 c.row_count-rows.ensures.0 _ c.in_ok-end.was

pub returns-clause-is : goal.returns-clause-is
returns-clause-is c =
    let rows = c.row_count-rows.ensures.0 in
    let put = c.write_shaped_frame.ensures in
    let done = frame_done _ _ _ _ _ _ _ _ _ _ c.judge_rows.ensures c.row_length-n.ensures.0 rows c.args.frame.now c.args.shape.now in
    (done _ _ _ _ _ c.in_ok-end.was put.colours put.shape).0
