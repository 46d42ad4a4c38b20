-- `write_shaped_lines` meets its contract. The loop's invariant: the first y lines stand in the frame and their shapes in the other, and
-- those from q on are the rest of both.
use Rattle.ilbm_spec.specs.Rows.{row_length, rows_in_line, colour_numbers}
use Rattle.ilbm_spec.specs.Shapes.{shape_bits}
use Rattle.ilbm_scan_frame.proofs.Frame.{Drawn}
use Rattle.ilbm_shape_frame.proofs.write_shaped_lines.Given as goal

abbrev pub invariant-loop-y : goal.invariant-loop-y
invariant-loop-y l =
    let n = row_length l.w in
    let rows = rows_in_line l.planes l.masking in
    Drawn (colour_numbers l.w l.planes) l.compression n l.w rows l.body l.h l.y l.q l.frame ×
    Drawn (shape_bits l.w l.planes l.masking l.transparent) l.compression n l.w rows l.body l.h l.y l.q l.shape
