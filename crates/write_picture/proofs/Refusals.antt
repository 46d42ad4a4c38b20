-- The tests of 33 and 45, each by itself since any of them is enough, and the search for a colour number that is too high.
use Prim.Native.Nat.{ℕ, ◌*◌, ◌%◌, ◌≤◌, ◌<◌}
use mathlib.Core.Path.{◌≡◌, refl, sym, ◌∙◌}
use mathlib.Core.Bool.{Bool, true, false, not, ◌||◌}
use mathlib.Core.List.{List, [], ◌∷◌}
use lib.Dec.{leb, ltb, eqb}
use Rattle.std.specs.List.{list_any}
use lib.ListN.{length}
use borrow.Author.Tests.{lt-ltb, le-ltb, lt-leb, le-leb, ltb-true, ltb-false, eq-eqb, ne_eqb}
use Rattle.iff_name.specs.Name.{either}
use Rattle.ilbm_spec.specs.declared.BitmapHeader.{BitmapHeader}
use Rattle.write_body.specs.Body.{shape_width}
use Rattle.write_picture.specs.Write.{wrong_fields, colour_over, wrong_shape}

either_true : (a : Bool) → either a true ≡ true
either_true true = refl
either_true false = refl

module _ (b : BitmapHeader) (palette frame : ℕ) where
  pub wrong_width : b.w ≡ 0 → true ≡ wrong_fields b palette frame
  unfolding wrong_fields
  wrong_width e = sym (simp (eq-eqb b.w 0 e))

  pub wrong_height : b.h ≡ 0 → true ≡ wrong_fields b palette frame
  unfolding wrong_fields
  wrong_height e = sym (simp (eq-eqb b.h 0 e, either_true))

  pub no_planes : b.planes ≡ 0 → true ≡ wrong_fields b palette frame
  unfolding wrong_fields
  no_planes e = sym (simp (eq-eqb b.planes 0 e, either_true))

  pub many_planes : 8 < b.planes → true ≡ wrong_fields b palette frame
  unfolding wrong_fields
  many_planes e = sym (simp (lt-ltb 8 b.planes e, either_true))

  pub wrong_masking : 3 < b.masking → true ≡ wrong_fields b palette frame
  unfolding wrong_fields
  wrong_masking e = sym (simp (lt-ltb 3 b.masking e, either_true))

  pub wrong_compression : 1 < b.compression → true ≡ wrong_fields b palette frame
  unfolding wrong_fields
  wrong_compression e = sym (simp (lt-ltb 1 b.compression e, either_true))

  pub no_triples : (palette % 3 ≡ 0 → ⊥) → true ≡ wrong_fields b palette frame
  unfolding wrong_fields
  no_triples e = sym (simp (ne_eqb (palette % 3) 0 e, either_true))

  pub long_palette : 768 < palette → true ≡ wrong_fields b palette frame
  unfolding wrong_fields
  long_palette e = sym (simp (lt-ltb 768 palette e, either_true))

  pub wrong_frame :
      (b.w ≡ 0 → ⊥) → (b.h ≡ 0 → ⊥) → (b.planes ≡ 0 → ⊥) → b.planes ≤ 8 → b.masking ≤ 3 → b.compression ≤ 1 →
      palette % 3 ≡ 0 → palette ≤ 768 → not (eqb frame (b.w * b.h)) ≡ wrong_fields b palette frame
  unfolding wrong_fields
  wrong_frame e₁ e₂ e₃ e₄ e₅ e₆ e₇ e₈ =
      sym
      (simp (
        ne_eqb b.w 0 e₁,
        ne_eqb b.h 0 e₂,
        ne_eqb b.planes 0 e₃,
        le-ltb 8 b.planes e₄,
        le-ltb 3 b.masking e₅,
        le-ltb 1 b.compression e₆,
        eq-eqb (palette % 3) 0 e₇,
        le-ltb 768 palette e₈,
      ))

-- the tests of 45, where u is the shape's width
module _ (b : BitmapHeader) (shape : List ℕ) (u : ℕ) (d : u ≡ shape_width b) where
  pub wrong_length : (length shape ≡ u * b.h → ⊥) → true ≡ wrong_shape b shape
  unfolding wrong_shape
  wrong_length e = sym (rw (← d, ne_eqb (length shape) (u * b.h) e))

  pub wrong_bits : (r : Bool) → length shape ≡ u * b.h → r ≡ colour_over 2 shape → r ≡ wrong_shape b shape
  unfolding wrong_shape
  wrong_bits r e f = f ∙ sym (rw (← d, eq-eqb (length shape) (u * b.h) e))

-- a colour number is too high exactly if some number of the frame is
pub over_any : (most : ℕ) (frame : List ℕ) → list_any (leb most) frame ≡ colour_over most frame
unfolding colour_over
over_any most [] = refl
over_any most (c ∷ cs) = rw (over_any most cs) (here (ltb c most) refl)
  where
    here : (b : Bool) → ltb c most ≡ b → leb most c || colour_over most cs ≡ either (not (ltb c most)) (colour_over most cs)
    here true e = rw (lt-leb most c (ltb-true c most e), e)
    here false e = rw (le-leb most c (ltb-false c most e), e)
