-- The start is tested first (29), then lengths and masking (28, 44); otherwise `scan_shaped_row` has the answer.
use Rattle.std.proofs.Common.{length}
use Rattle.ilbm_body_shapes.proofs.Laws.{right_lengths}
use Rattle.ilbm_body_shapes.proofs.sound_shape_line.Goals as goal

pub scan_shaped_row-requires-clause-row_len : goal.scan_shaped_row-requires-clause-row_len
scan_shaped_row-requires-clause-row_len c =
    let s = c.args in
    let both = c.both_right-right.ensures in
    right_lengths _ (length s.row.now) (length s.shape.now) s.w _ _ _ both c.shape_refusal.ensures c.in_ok-shape_refusal.was
