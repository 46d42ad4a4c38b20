-- Lengths and masking are tested first (28, 44); otherwise what `scan_shaped_frame` answers is told, with the count of what is left.
use Rattle.std.proofs.Common.{◌*◌, length}
use Rattle.ilbm_body_shapes.proofs.Laws.{right_lengths}
use Rattle.ilbm_body_shapes.proofs.sound_shape_frame.Goals as goal

pub scan_shaped_frame-requires-clause-frame_len : goal.scan_shaped_frame-requires-clause-frame_len
scan_shaped_frame-requires-clause-frame_len c =
    let s = c.args in
    let both = c.both_right-right.ensures in
    right_lengths _ (length s.frame.now) (length s.shape.now) (s.w * s.h) _ _ _ both c.shape_refusal.ensures c.in_ok-shape_refusal.was
