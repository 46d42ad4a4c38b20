-- `write_colour_lines` meets its contract. The loop's invariant: the first y lines stand in the frame, and those from q on are the others.
use Prim.Native.Nat.{◌*◌}
use Rattle.ilbm_spec.specs.Rows.{row_length}
use Rattle.ilbm_colour_words.specs.Words.{word_pixels}
use Rattle.ilbm_colour_pixels.specs.Steps.{step_by}
use Rattle.ilbm_scan_frame.proofs.Frame.{Drawn}
use Rattle.ilbm_colour_frame.proofs.write_colour_lines.Given as goal

abbrev pub invariant-loop-y : goal.invariant-loop-y
invariant-loop-y l =
    Drawn (word_pixels l.w l.planes (step_by l.hold l.keep l.set)) l.compression (row_length l.w) (3 * l.w) l.rows l.body l.h l.y l.q l.frame
