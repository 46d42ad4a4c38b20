-- What was judged of the rows holds for colours and shape: either may be read, or the frame is refused with its shape by the same number
-- and place.
use Prim.Native.Nat.{ℕ, ◌*◌}
use mathlib.Core.Path.{◌≡◌, ap}
use mathlib.Core.List.{List}
use Rattle.ilbm_spec.specs.Rows.{row_length, rows_in_line, Read, IsRead, rows_from, Pixels, colour_numbers, lines_with, line_answer}
use Rattle.ilbm_spec.specs.Shapes.{shape_bits, shaped_lines}
use Rattle.ilbm_scan_frame.proofs.Frame.{frame_answered, frame_judged}
use Rattle.ilbm_shape_line.proofs.Together.{Done, both_read, both_refused}
use Rattle.iff_tree.specs.Judge.{found}
use Rattle.iff_refusal.specs.declared.Refusal.{Refusal}
use Rattle.iff_refusal.specs.Numbers.{Answer}
use Rattle.std.specs.Prelude.{Ok, Err}

module _
    (compression w planes masking transparent : ℕ) (body : List ℕ) (h rows n : ℕ) (r : Answer ℕ)
    (j : r ≡ line_answer (rows_from compression body n (h * rows) 0)) (e : n ≡ row_length w) (f : rows ≡ rows_in_line planes masking)
  where
    abbrev pub all : Pixels → Read (List ℕ)
    all pixels = lines_with pixels compression (row_length w) (rows_in_line planes masking) body h 0

    number : h * rows ≡ h * rows_in_line planes masking
    number = ap (λ (m : ℕ). h * m) f

    answered : r ≡ line_answer (all (colour_numbers w planes))
    answered = frame_answered (colour_numbers w planes) _ _ _ _ _ _ _ r j e number

    pub frame_sound : (q : ℕ) → r ≡ Ok q → IsRead (all (colour_numbers w planes)) × IsRead (all (shape_bits w planes masking transparent))
    frame_sound q d =
        let read = λ (pixels : Pixels). frame_judged pixels _ _ _ _ _ _ _ r j e number q d in
        (read (colour_numbers w planes), read (shape_bits w planes masking transparent))

    module _ (frame shape : List ℕ) where
      pub frame_done :
          (new told : List ℕ) (q a b : ℕ) → r ≡ Ok q → all (colour_numbers w planes) ≡ found (new, a) →
          all (shape_bits w planes masking transparent) ≡ found (told, b) →
          Done (shaped_lines compression w planes masking transparent body h 0) (Ok q) new told frame shape
      frame_done new told q a b d c s = both_read _ _ r answered new told frame shape q a b d c s

      pub frame_refused :
          (o : Refusal) → r ≡ Err o →
          Done (shaped_lines compression w planes masking transparent body h 0) (Err o) frame shape frame shape
      frame_refused o d =
          both_refused (all (colour_numbers w planes)) (all (shape_bits w planes masking transparent)) r answered frame shape o d
