-- What fields and a shape that are not refused are, the room of a file that fits, and the number of colours.
use Prim.Native.Nat.{ℕ, ◌*◌, ◌%◌, ◌^◌, ◌≤◌, ◌<◌}
use mathlib.Core.Path.{◌≡◌, refl, sym, ◌∙◌}
use mathlib.Core.Bool.{Bool, true, false, not}
use mathlib.Core.List.{List}
use lib.Dec.{ltb, eqb}
use lib.ListN.{length}
use borrow.Author.Tests.{ltb-false, eqb-true, not-false}
use native.Mathlib.Nat.{mul_comm, pow-le-pow_right}
use native.Mathlib.Omega.{arith}
use Rattle.iff_name.specs.Name.{either}
use Rattle.ilbm_spec.specs.declared.BitmapHeader.{BitmapHeader}
use Rattle.write_plane_row.specs.Put.{Room}
use Rattle.write_body.specs.Body.{shape_width}
use Rattle.write_picture.specs.Write.{wrong_fields, wrong_shape}

either_false : (a c : Bool) → either a c ≡ false → (a ≡ false) × (c ≡ false)
either_false true c e = (e, let z : ◌≡◌ {A = ℕ} 0 1 = cc in absurd (omega arith))
either_false false c e = (refl, e)

pub fields_right : (b : BitmapHeader) (palette frame : ℕ) (t : Bool) → t ≡ wrong_fields b palette frame → t ≡ false → (b.planes ≤ 8) × (palette ≤ 768) × (frame ≡ b.h * b.w)
unfolding wrong_fields
fields_right b palette frame t d e =
    let g : wrong_fields b palette frame ≡ false = sym d ∙ e in
    let a₁ = either_false (eqb b.w 0) _ g in
    let a₂ = either_false (eqb b.h 0) _ a₁.1 in
    let a₃ = either_false (eqb b.planes 0) _ a₂.1 in
    let a₄ = either_false (ltb 8 b.planes) _ a₃.1 in
    let a₅ = either_false (ltb 3 b.masking) _ a₄.1 in
    let a₆ = either_false (ltb 1 b.compression) _ a₅.1 in
    let a₇ = either_false (not (eqb (palette % 3) 0)) _ a₆.1 in
    let a₈ = either_false (ltb 768 palette) _ a₇.1 in
    let whole = eqb-true frame (b.w * b.h) (not-false (eqb frame (b.w * b.h)) a₈.1) in
    (ltb-false 8 b.planes a₄.0, ltb-false 768 palette a₈.0, whole ∙ mul_comm b.w b.h)

-- the number of colours of at most eight planes
pub colours_fit : (k : ℕ) → k ≤ 8 → 2 ^ k < 2 ^ 64
colours_fit k h = let p : 2 ^ k ≤ 2 ^ 8 = pow-le-pow_right (omega arith) h in omega arith

pub shape_right : (b : BitmapHeader) (shape : List ℕ) (t : Bool) → t ≡ wrong_shape b shape → t ≡ false → length shape ≡ b.h * shape_width b
unfolding wrong_shape
shape_right b shape t d e =
    let a = either_false (not (eqb (length shape) (shape_width b * b.h))) _ (sym d ∙ e) in
    let n : ℕ = shape_width b * b.h in
    eqb-true (length shape) n (not-false (eqb (length shape) n) a.0) ∙ mul_comm (shape_width b) b.h

pub room_0 : (file out : List ℕ) (size : ℕ) → length file ≡ size → size ≤ 16777216 → size ≤ length out → Room file out 0
room_0 file out size z g h = record { fits = omega arith; short = omega arith }
