-- `write_lines` meets its contract. The loop's invariant: the first y lines stand in the frame, and those from q on are the others.
use Rattle.ilbm_spec.specs.Rows.{row_length, colour_numbers}
use Rattle.ilbm_scan_frame.proofs.Frame.{Drawn}
use Rattle.ilbm_scan_frame.proofs.write_lines.Given as goal

abbrev pub invariant-loop-y : goal.invariant-loop-y
invariant-loop-y l = Drawn (colour_numbers l.w l.planes) l.compression (row_length l.w) l.w l.rows l.body l.h l.y l.q l.frame
