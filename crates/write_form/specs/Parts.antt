-- The parts of the written file in their order, and their lengths: what the code settles before it writes, and what it writes.
use Rattle.std.specs.Prelude.{ℕ, ◌+◌, ◌%◌, List, [], ◌∷◌, ◌++◌, eqb, length}
use Rattle.iff_name.specs.Name.{pick}
use Rattle.iff_chunk.specs.Chunks.{put_word}
use Rattle.ilbm_spec.specs.declared.BitmapHeader.{BitmapHeader}
use Rattle.iff_name.specs.Codes.{FORM}
use Rattle.ilbm_spec.specs.Names.{ILBM, BMHD, CMAP}
use Rattle.write_form.specs.File.{header_bytes, pad_of}

-- the header of a chunk
abbrev pub chunk_head : ℕ → ℕ → List ℕ
chunk_head name size = put_word name (put_word size [])

-- a chunk with its pad
abbrev pub chunk_bytes : ℕ → List ℕ → List ℕ
chunk_bytes name d = put_word name (put_word (length d) (d ++ pad_of d))

-- CMAP, or nothing
abbrev pub palette_chunk : List ℕ → List ℕ
palette_chunk [] = []
palette_chunk (x ∷ xs) = chunk_bytes CMAP (x ∷ xs)

-- the type of the FORM, and BMHD
abbrev pub type_and_header : BitmapHeader → List ℕ
type_and_header b = put_word ILBM (put_word BMHD (put_word 20 (header_bytes b)))

-- FORM with a size, its type, and BMHD
abbrev pub file_head : BitmapHeader → ℕ → List ℕ
file_head b size = put_word FORM (put_word size (put_word ILBM (put_word BMHD (put_word 20 (header_bytes b)))))

-- the length of CMAP for a palette of so many bytes
abbrev pub palette_size : ℕ → ℕ
palette_size n = pick (eqb n 0) 0 (8 + n + n % 2)

-- the length of the file after FORM's own header, for a palette and a BODY of so many bytes
abbrev pub form_size : ℕ → ℕ → ℕ
form_size palette body = 40 + palette_size palette + body + body % 2
