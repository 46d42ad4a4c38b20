-- What an answer that is no refusal tells of the header, the palette, the frame and the shape.
use Rattle.std.specs.Prelude.{ℕ, ◌*◌, ◌%◌, ◌^◌, ◌≤◌, ◌≡◌, refl, Bool, true, false, not, List, [], ◌∷◌, ltb, eqb, length, Ok, Err}
use borrow.Author.Tests.{ltb-true, ltb-false, eqb-true, not-false}
use Rattle.std.proofs.Common.{arith}
use Rattle.iff_name.specs.Name.{either, pick}
use Rattle.ilbm_spec.specs.declared.BitmapHeader.{BitmapHeader}
use Rattle.write_body.specs.Body.{shape_width}
use Rattle.write_form.specs.File.{picture_file}
use Rattle.write_picture.specs.Write.{wrong_fields, colour_over, wrong_shape, write_of}
use Rattle.theorem_roundtrip.proofs.laws.Planes.{Below}
use Rattle.iff_refusal.specs.declared.Reason.TheVariants.{NoRoom, WrongFields, ColourTooGreat, ResultTooLong, WrongShape}

-- not 33, 34, 45, 35 or 32, and the length that is told
pub record Writable (b : BitmapHeader) (palette frame shape : List ℕ) (room n : ℕ) : Type 0 where
  pub wide : eqb b.w 0 ≡ false
  pub high : eqb b.h 0 ≡ false
  pub deep : eqb b.planes 0 ≡ false
  pub shallow : ltb 8 b.planes ≡ false
  pub masking : ltb 3 b.masking ≡ false
  pub compression : ltb 1 b.compression ≡ false
  pub triples : length palette % 3 ≡ 0
  pub few : length palette ≤ 768
  pub whole : length frame ≡ b.w * b.h
  pub colours : Below (2 ^ b.planes) frame
  pub shape_whole : length shape ≡ shape_width b * b.h
  pub bits : Below 2 shape
  pub short : length (picture_file b palette frame shape) ≤ 16777216
  pub fits : n ≤ room
  pub size : length (picture_file b palette frame shape) ≡ n

either_false : (a c : Bool) → either a c ≡ false → (a ≡ false) × (c ≡ false)
either_false true c e = absurd cc
either_false false c e = (refl, e)

below_all : (most : ℕ) (cs : List ℕ) → colour_over most cs ≡ false → Below most cs
unfolding colour_over Below
below_all most [] e = tt
below_all most (c ∷ cs) e =
    let u = either_false (not (ltb c most)) (colour_over most cs) e in
    (ltb-true c most (not-false (ltb c most) u.0), below_all most cs u.1)

module _ (b : BitmapHeader) (palette frame shape : List ℕ) (room n : ℕ) where
  abbrev size : ℕ
  size = length (picture_file b palette frame shape)

  right_fields :
      wrong_fields b (length palette) (length frame) ≡ false → colour_over (2 ^ b.planes) frame ≡ false → wrong_shape b shape ≡ false →
      size ≤ 16777216 → size ≤ room → size ≡ n → Writable b palette frame shape room n
  unfolding wrong_fields wrong_shape
  right_fields e c d s f z =
      let a₁ = either_false _ _ e in
      let a₂ = either_false _ _ a₁.1 in
      let a₃ = either_false _ _ a₂.1 in
      let a₄ = either_false _ _ a₃.1 in
      let a₅ = either_false _ _ a₄.1 in
      let a₆ = either_false _ _ a₅.1 in
      let a₇ = either_false _ _ a₆.1 in
      let a₈ = either_false _ _ a₇.1 in
      let m = either_false _ _ d in
      record {
        wide = a₁.0;
        high = a₂.0;
        deep = a₃.0;
        shallow = a₄.0;
        masking = a₅.0;
        compression = a₆.0;
        triples = eqb-true (length palette % 3) 0 (not-false _ a₇.0);
        few = ltb-false 768 (length palette) a₈.0;
        whole = eqb-true (length frame) (b.w * b.h) (not-false _ a₈.1);
        colours = below_all (2 ^ b.planes) frame c;
        shape_whole = eqb-true (length shape) (shape_width b * b.h) (not-false _ m.0);
        bits = below_all 2 shape m.1;
        short = s;
        fits = omega arith;
        size = z;
      }

  pub written_writable : write_of b palette frame shape room ≡ Ok n → Writable b palette frame shape room n
  written_writable e =
      go (wrong_fields b (length palette) (length frame)) refl (colour_over (2 ^ b.planes) frame) refl (wrong_shape b shape) refl
      (ltb 16777216 size) refl (ltb room size) refl e
    where
      go :
          (p : Bool) → wrong_fields b (length palette) (length frame) ≡ p → (q : Bool) → colour_over (2 ^ b.planes) frame ≡ q → (m : Bool) →
          wrong_shape b shape ≡ m → (r : Bool) → ltb 16777216 size ≡ r → (t : Bool) → ltb room size ≡ t →
          pick p (Err WrongFields)
          (pick q (Err ColourTooGreat) (pick m (Err WrongShape) (pick r (Err ResultTooLong) (pick t (Err NoRoom) (Ok size))))) ≡ Ok n →
          Writable b palette frame shape room n
      go true ep q eq m em r er t et d = absurd cc
      go false ep true eq m em r er t et d = absurd cc
      go false ep false eq true em r er t et d = absurd cc
      go false ep false eq false em true er t et d = absurd cc
      go false ep false eq false em false er true et d = absurd cc
      go false ep false eq false em false er false et d = right_fields ep eq em (ltb-false 16777216 _ er) (ltb-false room _ et) cc
