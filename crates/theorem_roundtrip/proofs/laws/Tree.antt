-- The written file is a chunk file of the grammar with nothing trailing, so it is accepted and its tree is found.
use Rattle.std.specs.Prelude.{ℕ, ◌≤◌, ◌≡◌, refl, length}
use Rattle.std.proofs.Math.Path.{sym, ap}
use Rattle.std.proofs.Common.{◌∙◌, arith}
use mathlib.Core.List.{List, [], ◌∷◌, append-nil}
use Rattle.std.proofs.lemmas.List.{length-replicate}
use Rattle.iff_name.specs.Name.{well_formed, version_name, type_bytes, reserved_name, type_name, kind_of}
use Rattle.iff_rules.specs.declared.Position.TheVariants.{Outermost, InForm}
use Rattle.iff_chunk.specs.Chunks.{Chunks, none, leaf, before, bytes, count}
use Rattle.iff_tree.specs.Judge.{found, read_file, check_of, accepting}
use Rattle.iff_grammar.specs.Grammar.{Members, height, ChunkFile}
use Rattle.iff_grammar.proofs.Accept.{complete, ends}
use Rattle.ilbm_spec.specs.declared.BitmapHeader.{BitmapHeader}
use Rattle.ilbm_spec.specs.Names.{BODY}
use Rattle.write_body.specs.Body.{body_bytes}
use Rattle.write_form.specs.File.{header_bytes, pad_of, palette_then, picture_form, picture_file}
use Rattle.theorem_roundtrip.specs.Expected.{chunks_for}

body_stands : (body : List ℕ) → Members InForm [] (leaf BODY body (pad_of body) none)
unfolding kind_of well_formed version_name
body_stands body = (refl, refl, refl, length-replicate _ 0, tt)

palette_stands : (palette : List ℕ) (F : Chunks) → Members InForm [] F → Members InForm [] (palette_then palette F)
unfolding kind_of well_formed version_name
palette_stands [] F m = m
palette_stands (x ∷ xs) F m = (refl, refl, refl, length-replicate _ 0, m)

form_stands : (b : BitmapHeader) (palette frame shape : List ℕ) → Members Outermost [] (before (picture_form b palette frame shape) none)
unfolding kind_of well_formed version_name type_name type_bytes reserved_name header_bytes
form_stands b palette frame shape =
    (refl, refl, refl, refl, (refl, refl, refl, refl, palette_stands palette _ (body_stands (body_bytes b frame shape))), tt)

form_height : (b : BitmapHeader) (palette frame shape : List ℕ) → height (before (picture_form b palette frame shape) none) ≤ 16
form_height b [] frame shape = omega arith
form_height b (x ∷ xs) frame shape = omega arith

form_count : (b : BitmapHeader) (palette frame shape : List ℕ) → count (before (picture_form b palette frame shape) none) ≡ chunks_for palette
unfolding count
form_count b [] frame shape = refl
form_count b (x ∷ xs) frame shape = refl

module _ (b : BitmapHeader) (palette frame shape : List ℕ) (short : length (picture_file b palette frame shape) ≤ 16777216) where
  pub chunk_file : ChunkFile (picture_file b palette frame shape) (picture_form b palette frame shape) []
  unfolding picture_file
  chunk_file =
      record {
        whole = sym (append-nil (bytes (before (picture_form b palette frame shape) none)));
        tree = form_stands b palette frame shape;
        nesting = form_height b palette frame shape;
        short = short;
      }

  pub file_read : read_file (picture_file b palette frame shape) ≡ found (picture_form b palette frame shape)
  file_read = complete (picture_file b palette frame shape) (picture_form b palette frame shape) [] chunk_file

  pub file_answered :
      check_of (picture_file b palette frame shape)
      ≡ accepting (chunks_for palette) (length (picture_file b palette frame shape)) 0
  unfolding picture_file
  file_answered = (ends (picture_file b palette frame shape) (picture_form b palette frame shape) [] chunk_file).1 ∙
      ap (λ (k : ℕ). accepting k (length (picture_file b palette frame shape)) 0) (form_count b palette frame shape)
