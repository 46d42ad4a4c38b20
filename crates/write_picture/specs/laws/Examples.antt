-- The worked picture of 01, its BODY and its refusals: one computed table. Its lengths stand in theorem_demands/specs/Examples.
use Rattle.std.specs.Prelude.{ℕ, ◌≡◌, refl, List, [], ◌∷◌, pos}
use Rattle.iff_chunk.specs.Chunks.{bytes}
use Rattle.byterun_pieces.specs.Pieces.{three, same_for, plain_for, piece_of}
use Rattle.byterun_pack.specs.Pack.{pack_by, packed}
use Rattle.ilbm_spec.specs.declared.BitmapHeader.{BitmapHeader}
use Rattle.write_plane_row.specs.Planes.{plane_byte, plane_row}
use Rattle.write_body.specs.Body.{line_rows, body_lines, body_bytes}
use Rattle.write_form.specs.File.{header_bytes, picture_file}
use Rattle.write_picture.specs.Write.{wrong_fields, colour_over, wrong_shape, write_of, write_number}
use Rattle.std.specs.Prelude.{Ok}

-- three pixels wide and one high, two planes, so masked and compressed
abbrev small : ℕ → ℕ → BitmapHeader
small masking compression =
    record {
      w = 3;
      h = 1;
      x = pos 0;
      y = pos 0;
      planes = 2;
      masking = masking;
      compression = compression;
      pad1 = 7;
      transparent = 0;
      x_aspect = 1;
      y_aspect = 1;
      page_width = pos 3;
      page_height = pos 1;
    }

abbrev colours : List ℕ
colours = 1 ∷ 2 ∷ 3 ∷ []

-- "w 3, two planes A0 00 and 60 00: colours 1, 2, 3." Packed it takes 54 bytes: a byte less of room is 32; a colour 4 is 34, and with a
-- pixel too few besides 33.
pub examples :
    (body_bytes (small 0 0) colours [] ≡ 0xA0 ∷ 0 ∷ 0x60 ∷ 0 ∷ [])
    × (write_number (write_of (small 0 1) [] colours [] 53) ≡ 32)
    × (write_number (write_of (small 0 0) [] (1 ∷ 4 ∷ 3 ∷ []) [] 60) ≡ 34)
    × (write_number (write_of (small 0 0) [] (1 ∷ 4 ∷ []) [] 60) ≡ 33)
unfolding
    header_bytes plane_byte plane_row line_rows body_lines picture_file wrong_fields colour_over wrong_shape bytes packed pack_by piece_of three
    same_for plain_for
examples = (refl, refl, refl, refl)

-- With masking 1 and the shape 1, 0, 1 a mask row A0 00 stands behind the planes. A shape of 2 bytes is 45, so is one with a byte 2, and
-- one of 3 bytes for masking 0; a colour 4 besides is 34.
pub shapes :
    (body_bytes (small 1 0) colours (1 ∷ 0 ∷ 1 ∷ []) ≡ 0xA0 ∷ 0 ∷ 0x60 ∷ 0 ∷ 0xA0 ∷ 0 ∷ [])
    × (write_of (small 1 0) [] colours (1 ∷ 0 ∷ 1 ∷ []) 54 ≡ Ok 54)
    × (write_number (write_of (small 1 0) [] colours (1 ∷ 0 ∷ []) 60) ≡ 45)
    × (write_number (write_of (small 1 0) [] colours (1 ∷ 0 ∷ 2 ∷ []) 60) ≡ 45)
    × (write_number (write_of (small 0 0) [] colours (1 ∷ 0 ∷ 1 ∷ []) 60) ≡ 45)
    × (write_number (write_of (small 1 0) [] (1 ∷ 4 ∷ 3 ∷ []) (1 ∷ 0 ∷ 2 ∷ []) 60) ≡ 34)
unfolding header_bytes plane_byte plane_row line_rows body_lines picture_file wrong_fields colour_over wrong_shape bytes
shapes = (refl, refl, refl, refl, refl, refl)
