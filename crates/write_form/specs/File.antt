-- 01 "Writing": the bytes of one picture as a FORM ILBM.
use Rattle.std.specs.Prelude.{ℕ, ◌-◌, ◌/◌, ◌%◌, List, [], ◌∷◌, ℤ, pos, negsuc, length, replicate}
use Rattle.iff_chunk.specs.Chunks.{Chunks, none, leaf, Chunk, a_group, before, bytes}
use Rattle.ilbm_spec.specs.declared.BitmapHeader.{BitmapHeader}
use Rattle.iff_name.specs.Codes.{FORM}
use Rattle.ilbm_spec.specs.Names.{ILBM, BMHD, CMAP, BODY}
use Rattle.write_body.specs.Body.{body_bytes}

-- ---- the header

-- a 16-bit number as two bytes, the higher first, before others
abbrev pub put_short : ℕ → List ℕ → List ℕ
put_short n xs = n / 256 ∷ n % 256 ∷ xs

-- the 16-bit number that is read as this signed one: x, or x + 65536 if x is under 0
abbrev pub unsigned : ℤ → ℕ
unsigned (pos n) = n
unsigned (negsuc n) = 65535 - n

-- "BMHD is 20 bytes": the fields in their order; "pad1 .. 0", whatever the field says
unfoldable pub header_bytes : BitmapHeader → List ℕ
header_bytes b =
    put_short b.w (put_short b.h (put_short (unsigned b.x) (put_short (unsigned b.y)
    (b.planes ∷ b.masking ∷ b.compression ∷ 0 ∷
    put_short b.transparent (b.x_aspect ∷ b.y_aspect ∷
    put_short (unsigned b.page_width) (put_short (unsigned b.page_height) []))))))

-- ---- the file

-- the pad of a chunk, "one pad byte if the size is odd", which is 0
abbrev pub pad_of : List ℕ → List ℕ
pad_of d = replicate (length d % 2) 0

-- "CMAP (absent if the palette is empty)"
abbrev pub palette_then : List ℕ → Chunks → Chunks
palette_then [] F = F
palette_then (x ∷ xs) F = leaf CMAP (x ∷ xs) (pad_of (x ∷ xs)) F

-- "writes FORM ILBM with BMHD, CMAP (absent if the palette is empty), BODY"
abbrev pub members_for : BitmapHeader → List ℕ → List ℕ → Chunks
members_for b palette body = leaf BMHD (header_bytes b) [] (palette_then palette (leaf BODY body (pad_of body) none))

abbrev pub picture_form : BitmapHeader → List ℕ → List ℕ → List ℕ → Chunk
picture_form b palette frame shape = a_group FORM ILBM (members_for b palette (body_bytes b frame shape))

unfoldable pub picture_file : BitmapHeader → List ℕ → List ℕ → List ℕ → List ℕ
picture_file b palette frame shape = bytes (before (picture_form b palette frame shape) none)
