-- The one picture of the written file: its properties, and that it is not refused.
use Rattle.std.specs.Prelude.{ℕ, ◌+◌, ◌%◌, ◌≡◌, refl, true, false, List, [], ◌∷◌, length, Ok}
use Rattle.std.proofs.Common.{eq-eqb}
use Rattle.iff_chunk.specs.Chunks.{word}
use Rattle.ilbm_spec.specs.declared.BitmapHeader.{BitmapHeader}
use Rattle.ilbm_spec.specs.Contents.{located, last_named, property_of, bodies_from, Property, own, absent, Content, contents_from, contents_of}
use Rattle.ilbm_spec.specs.Pictures.{header_in, hot_spot_in, destination_in, origin_of, size_not_triples, wrong_size, fields_refusal, header_refusal}
use Rattle.ilbm_spec.specs.Pictures.{picture_refusal, picture_from, palette_of_property}
use Rattle.write_body.specs.Body.{body_bytes}
use Rattle.write_form.specs.File.{header_bytes, pad_of, picture_form}
use Rattle.theorem_roundtrip.specs.Header.{InRange}
use Rattle.theorem_roundtrip.proofs.laws.Header.{header_back}
use Rattle.theorem_roundtrip.proofs.laws.Writable.{Writable}
use Rattle.theorem_roundtrip.specs.Expected.{palette_origin, picture_for}

-- where CMAP stands, and where BODY stands behind it
abbrev cmap_place : BitmapHeader → ℕ
cmap_place b = 12 + (8 + length (header_bytes b) + 0)

abbrev body_place : BitmapHeader → List ℕ → ℕ
body_place b [] = cmap_place b
body_place b (x ∷ xs) = cmap_place b + (8 + length (x ∷ xs) + length (pad_of (x ∷ xs)))

-- CMAP is the FORM's own, or absent if the palette is empty
abbrev palette_property : ℕ → List ℕ → Property
palette_property p [] = absent
palette_property p (x ∷ xs) = own (located p (x ∷ xs))

abbrev pub content_for : BitmapHeader → List ℕ → List ℕ → List ℕ → Content
content_for b palette frame shape =
    record {
      place = 0;
      bmhd = own (located 12 (header_bytes b));
      cmap = palette_property (cmap_place b) palette;
      grab = absent;
      dest = absent;
      sprt = absent;
      camg = absent;
      bodies = located (body_place b palette) (body_bytes b frame shape) ∷ [];
    }

pub one_content :
    (b : BitmapHeader) (palette frame shape : List ℕ) →
    contents_of (picture_form b palette frame shape) ≡ content_for b palette frame shape ∷ []
unfolding contents_from property_of last_named bodies_from
one_content b [] frame shape = refl
one_content b (x ∷ xs) frame shape = refl

palette_origin_lem : (p : ℕ) (palette : List ℕ) → origin_of (palette_property p palette) ≡ palette_origin palette
palette_origin_lem p [] = refl
palette_origin_lem p (x ∷ xs) = refl

pub picture_answered : (b : BitmapHeader) (palette frame shape : List ℕ) → InRange b →
    picture_from (content_for b palette frame shape) ≡ picture_for b palette
unfolding picture_from hot_spot_in destination_in word
picture_answered b palette frame shape r = rw (header_back b r, palette_origin_lem (cmap_place b) palette)

pub palette_answered : (b : BitmapHeader) (palette frame shape : List ℕ) → palette_of_property (content_for b palette frame shape).cmap [] ≡ palette
palette_answered b [] frame shape = refl
palette_answered b (x ∷ xs) frame shape = refl

triples_right : (p : ℕ) (palette : List ℕ) → length palette % 3 ≡ 0 → size_not_triples (palette_property p palette) ≡ false
triples_right p [] e = refl
triples_right p (x ∷ xs) e = rw (eq-eqb (length (x ∷ xs) % 3) 0 e)

sizes_right :
    (b : BitmapHeader) (palette frame shape : List ℕ) →
    length palette % 3 ≡ 0 → wrong_size (content_for b palette frame shape) ≡ false
unfolding wrong_size header_bytes
sizes_right b palette frame shape e = rw (triples_right (cmap_place b) palette e)

module _
    (b : BitmapHeader) (palette frame shape : List ℕ) (room n : ℕ) (range : InRange b)
    (may : Writable b palette frame shape room n) where
  fields_right : header_refusal (header_in (header_bytes b)) true ≡ Ok tt
  unfolding header_refusal fields_refusal
  fields_right = rw (header_back b range) (simp (may.shallow, may.masking, may.compression, may.wide, may.high, may.deep))

  pub no_refusal : picture_refusal (content_for b palette frame shape) ≡ Ok tt
  unfolding picture_refusal
  no_refusal = rw (sizes_right b palette frame shape may.triples) fields_right
