-- `scan_colour_frame` meets its contract: a frame whose rows were all judged sound may be written, and a refusal leaves the frame.
use Prim.Native.Nat.{ℕ, ◌*◌}
use mathlib.Core.Path.{refl, ap}
use Rattle.std.proofs.lemmas.Result.{err_from_is_err_and}
use Rattle.ilbm_colour_words.specs.Words.{word_pixels}
use Rattle.ilbm_colour_pixels.specs.Steps.{step_by}
use Rattle.ilbm_scan_frame.proofs.Frame.{frame_judged, frame_told, frame_stands}
use Rattle.ilbm_colour_frame.proofs.scan_colour_frame.Goals as goal

pub returns-in_err-end-clause-is : goal.returns-in_err-end-clause-is
returns-in_err-end-clause-is c =
    let s = c.args in
    let rows = ap (λ (m : ℕ). s.h * m) c.row_count-rows.ensures.0 in
    let pixels = word_pixels s.w s.planes (step_by s.hold s.keep.now s.set.now) in
    let told = frame_told pixels _ _ _ _ _ _ _ _ c.judge_rows.ensures c.row_length-n.ensures.0 rows in
    let p = err_from_is_err_and c.from_residual.result c.from_residual.ensures.1 in
    rw (p.1, p.2) (told _ c.in_err-end.was)

pub returns-in_err-end-clause-bytes : goal.returns-in_err-end-clause-bytes
returns-in_err-end-clause-bytes c =
    let s = c.args in
    let rows = ap (λ (m : ℕ). s.h * m) c.row_count-rows.ensures.0 in
    let pixels = word_pixels s.w s.planes (step_by s.hold s.keep.now s.set.now) in
    frame_stands pixels _ _ _ _ _ _ _ _ c.judge_rows.ensures c.row_length-n.ensures.0 rows _ c.in_err-end.was _

pub write_colour_frame-requires-clause-read : goal.write_colour_frame-requires-clause-read
write_colour_frame-requires-clause-read c =
    frame_judged _ _ _ _ _ _ _ _ _ c.judge_rows.ensures c.row_length-n.ensures.0 refl _ c.in_ok-end.was

pub returns-clause-is : goal.returns-clause-is
returns-clause-is c =
    let s = c.args in
    let rows = ap (λ (m : ℕ). s.h * m) c.row_count-rows.ensures.0 in
    let pixels = word_pixels s.w s.planes (step_by s.hold s.keep.now s.set.now) in
    frame_told pixels _ _ _ _ _ _ _ _ c.judge_rows.ensures c.row_length-n.ensures.0 rows _ c.in_ok-end.was
