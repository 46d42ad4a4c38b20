-- The file is its parts one behind the other, and its length the sum of theirs.
use Rattle.std.specs.Prelude.{ℕ, ◌+◌, ◌%◌, ◌≡◌, length}
use Rattle.std.proofs.Math.Path.{refl}
use Rattle.std.proofs.Common.{◌∙◌, length-append, ne_eqb, arith}
use mathlib.Core.List.{List, [], ◌∷◌, ◌++◌, append_assoc, append-nil}
use Rattle.std.proofs.lemmas.List.{length-replicate}
use Rattle.iff_chunk.specs.Chunks.{Chunks, none, group, put_word, bytes}
use Rattle.ilbm_spec.specs.declared.BitmapHeader.{BitmapHeader}
use Rattle.iff_name.specs.Codes.{FORM}
use Rattle.ilbm_spec.specs.Names.{ILBM, BMHD, CMAP, BODY}
use Rattle.write_body.specs.Body.{body_bytes}
use Rattle.write_form.specs.File.{header_bytes, members_for, picture_file}
use Rattle.write_form.specs.Parts.{chunk_bytes, palette_chunk, file_head, palette_size, form_size}

pub header_length : (b : BitmapHeader) → length (header_bytes b) ≡ 20
unfolding header_bytes
header_length b = refl

pub chunk_length : (name : ℕ) (d : List ℕ) → length (chunk_bytes name d) ≡ 8 + length d + length d % 2
chunk_length name d = simp (length-append, length-replicate) (omega arith)

pub palette_length : (palette : List ℕ) → length (palette_chunk palette) ≡ palette_size (length palette)
palette_length [] = refl
palette_length (x ∷ xs) = rw (ne_eqb (length (x ∷ xs)) 0 (λ e. omega arith)) (chunk_length CMAP (x ∷ xs))

members_are :
    (b : BitmapHeader) (palette body : List ℕ) → bytes (members_for b palette body) ≡ put_word BMHD (put_word 20 (header_bytes b ++ (palette_chunk palette ++ chunk_bytes BODY body)))
unfolding bytes header_bytes
members_are b [] body = simp append-nil
members_are b (x ∷ xs) body = simp (append-nil, append_assoc)

members_length : (b : BitmapHeader) (palette body : List ℕ) → 4 + length (bytes (members_for b palette body)) ≡ form_size (length palette) (length body)
members_length b palette body =
    rw (members_are b palette body)
    (simp (length-append, header_length b, palette_length palette, length-replicate) (omega arith))

form_bytes : (G : Chunks) → bytes (group FORM ILBM G none) ≡ put_word FORM (put_word (4 + length (bytes G)) (put_word ILBM (bytes G)))
unfolding bytes
form_bytes G = simp append-nil

-- the file is its head, CMAP and BODY
module _ (b : BitmapHeader) (palette frame shape : List ℕ) where
  abbrev body : List ℕ
  body = body_bytes b frame shape

  pub file_parts :
      picture_file b palette frame shape
      ≡ file_head b (form_size (length palette) (length body)) ++ (palette_chunk palette ++ chunk_bytes BODY body)
  unfolding picture_file
  file_parts =
      form_bytes (members_for b palette body) ∙ rw (members_length b palette body, members_are b palette body) (head-joins (header_bytes b) _)
    where
      head-joins :
          (h r : List ℕ) →
          put_word FORM (put_word (form_size (length palette) (length body)) (put_word ILBM (put_word BMHD (put_word 20 (h ++ r)))))
          ≡ put_word FORM (put_word (form_size (length palette) (length body)) (put_word ILBM (put_word BMHD (put_word 20 h)))) ++ r
      head-joins h r = refl

  pub file_length : length (picture_file b palette frame shape) ≡ 8 + form_size (length palette) (length body)
  file_length =
      rw file_parts
      (simp (length-append, header_length b, palette_length palette, length-replicate) (omega arith))
