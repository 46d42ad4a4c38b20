-- The examples of 01 that are marked to be proved: one table, one statement, by computing. A sentence without a mark that follows a marked
-- one in its line stands here too.
use Rattle.std.specs.Prelude.{ℕ, ◌≡◌, refl, List, [], ◌∷◌, map, pos, replicate, Ok}
use Rattle.iff_name.specs.Name.{well_formed, version_name, kind_of, type_bytes, reserved_name, type_name}
use Rattle.iff_chunk.specs.Chunks.{word, count, bytes}
use Rattle.iff_rules.specs.Rules.{prop_within}
use Rattle.iff_header.specs.Checks.{group_header_of, header_of}
use Rattle.iff_tree.specs.Judge.{found, refused, run, chunk_at, read_file, check_of, accepting}
use Rattle.byterun_row.specs.ByteRun.{code_of, unpack_by, unpack_row, plain_row, row_of}
use Rattle.byterun_pieces.specs.Pieces.{three, same_for, plain_for, piece_of}
use Rattle.byterun_pack.specs.Pack.{pack_by, packed}
use Rattle.ilbm_spec.specs.declared.BitmapHeader.{BitmapHeader}
use Rattle.ilbm_spec.specs.Contents.{last_named, property_of, bodies_from, contents_from}
use Rattle.ilbm_spec.specs.Pictures.{picture_refusal, pick_content, picture_of}
use Rattle.ilbm_spec.specs.Rows.{Read, row_read, rows_from, colour_by, colours_from, body_line}
use Rattle.write_plane_row.specs.Planes.{plane_byte, plane_row}
use Rattle.write_body.specs.Body.{line_rows, body_lines}
use Rattle.write_form.specs.File.{header_bytes, picture_file}
use Rattle.write_picture.specs.Write.{wrong_fields, colour_over, wrong_shape, write_of}
use Rattle.iff_refusal.specs.declared.Reason.TheVariants.{FileTooLong, NotIff, VersionName, HeaderCut, BadName, Misplaced, SizeTooGreat, NoPad}
use Rattle.iff_refusal.specs.declared.Reason.TheVariants.{TooDeep, GroupTooShort, BadType, SecondProp, TableTooShort, NoRecord, IsGroup}
use Rattle.iff_refusal.specs.declared.Reason.TheVariants.{NoPicture, NoHeader, SecondBody, WrongSize, EmptyPicture, NoBody, BodyEnds}
use Rattle.iff_refusal.specs.declared.Reason.TheVariants.{RowOverstepped, WrongLength, BeyondBody, RowLength, NoRoom, WrongFields}
use Rattle.iff_refusal.specs.declared.Reason.TheVariants.{ColourTooGreat, ResultTooLong, InputTooLong, TooManyPlanes, UnknownMasking}
use Rattle.iff_refusal.specs.declared.Reason.TheVariants.{UnknownCompression, NoShape, WrongShape, HoldPlanes}
use Rattle.iff_refusal.specs.Numbers.{number_of, refusing, reason_of}

-- Theorems and definitions name the reasons of refusals; these are their numbers, as the tables of 01 and 02 have them.
numbers_of_reasons :
    map number_of
    (FileTooLong ∷ NotIff ∷ VersionName ∷ HeaderCut ∷ BadName ∷ Misplaced ∷ SizeTooGreat ∷ NoPad ∷ TooDeep ∷ GroupTooShort ∷ BadType ∷
    SecondProp ∷ TableTooShort ∷ NoRecord ∷ IsGroup ∷ NoPicture ∷ NoHeader ∷ SecondBody ∷ WrongSize ∷ EmptyPicture ∷ NoBody ∷
    BodyEnds ∷ RowOverstepped ∷ WrongLength ∷ BeyondBody ∷ RowLength ∷ NoRoom ∷ WrongFields ∷ ColourTooGreat ∷ ResultTooLong ∷
    InputTooLong ∷ TooManyPlanes ∷ UnknownMasking ∷ UnknownCompression ∷ NoShape ∷ WrongShape ∷ HoldPlanes ∷ [])
    ≡ 1 ∷ 2 ∷ 3 ∷ 4 ∷ 5 ∷ 6 ∷ 7 ∷ 8 ∷ 9 ∷ 10 ∷ 11 ∷ 12 ∷ 13 ∷ 14 ∷ 15 ∷ 20 ∷ 21 ∷ 22 ∷ 23 ∷ 24 ∷ 25 ∷ 26 ∷ 27 ∷ 28 ∷ 29 ∷ 31 ∷ 32 ∷
    33 ∷ 34 ∷ 35 ∷ 40 ∷ 41 ∷ 42 ∷ 43 ∷ 44 ∷ 45 ∷ 46 ∷ []
numbers_of_reasons = refl

-- FORM, size 4, ILBM
abbrev form : List ℕ
form = 70 ∷ 79 ∷ 82 ∷ 77 ∷ 0 ∷ 0 ∷ 0 ∷ 4 ∷ 73 ∷ 76 ∷ 66 ∷ 77 ∷ []

-- a packed row of n bytes, from the start of a BODY: its bytes and the next place, or the number and the place of a refusal
abbrev row : ℕ → List ℕ → Read (List ℕ)
row n body = row_read (row_of 1 body 0 n)

-- w 3, h 1, two planes, so compressed
abbrev three_pixels : ℕ → BitmapHeader
three_pixels compression =
    record {
      w = 3;
      h = 1;
      x = pos 0;
      y = pos 0;
      planes = 2;
      masking = 0;
      compression = compression;
      pad1 = 0;
      transparent = 0;
      x_aspect = 0;
      y_aspect = 0;
      page_width = pos 0;
      page_height = pos 0;
    }

-- colours 1, 2, 3
abbrev colours : List ℕ
colours = 1 ∷ 2 ∷ 3 ∷ []

pub record Table : Type 0 where
  pub empty_file : check_of [] ≡ refusing (reason_of 2) 0
  pub empty_form : check_of form ≡ accepting 1 12 0
  pub no_header : picture_of form 0 ≡ refusing (reason_of 21) 0
  pub version : check_of (70 ∷ 79 ∷ 82 ∷ 49 ∷ 0 ∷ 0 ∷ 0 ∷ 4 ∷ 73 ∷ 76 ∷ 66 ∷ 77 ∷ []) ≡ refusing (reason_of 3) 0
  pub cut_short : check_of (70 ∷ 79 ∷ 82 ∷ 77 ∷ 0 ∷ 0 ∷ 0 ∷ 4 ∷ 73 ∷ 76 ∷ 66 ∷ []) ≡ refusing (reason_of 7) 0
  pub one_byte_inside : check_of (70 ∷ 79 ∷ 82 ∷ 77 ∷ 0 ∷ 0 ∷ 0 ∷ 5 ∷ 73 ∷ 76 ∷ 66 ∷ 77 ∷ 0 ∷ 0 ∷ []) ≡ refusing (reason_of 4) 12
  pub second_prop_lem :
      check_of
      (76 ∷ 73 ∷ 83 ∷ 84 ∷ 0 ∷ 0 ∷ 0 ∷ 28 ∷ 74 ∷ 74 ∷ 74 ∷ 74 ∷
      80 ∷ 82 ∷ 79 ∷ 80 ∷ 0 ∷ 0 ∷ 0 ∷ 4 ∷ 73 ∷ 76 ∷ 66 ∷ 77 ∷
      80 ∷ 82 ∷ 79 ∷ 80 ∷ 0 ∷ 0 ∷ 0 ∷ 4 ∷ 73 ∷ 76 ∷ 66 ∷ 77 ∷ [])
      ≡ refusing (reason_of 12) 24
  pub repeated_zeros : row 4 (0xFD ∷ 0x00 ∷ []) ≡ found ((0 ∷ 0 ∷ 0 ∷ 0 ∷ []), 2)
  pub after_nothing : row 4 (0x80 ∷ 0xFD ∷ 0x00 ∷ []) ≡ found ((0 ∷ 0 ∷ 0 ∷ 0 ∷ []), 3)
  pub repeat_too_long : row 2 (0xFE ∷ 0x07 ∷ []) ≡ refused (reason_of 27) 0
  pub copy_cut_short : row 2 (0x01 ∷ 0x07 ∷ []) ≡ refused (reason_of 26) 0
  pub two_equal : packed (0x07 ∷ 0x07 ∷ []) ≡ 0x01 ∷ 0x07 ∷ 0x07 ∷ []
  pub equal_128 : packed (replicate 128 0x07) ≡ 0x81 ∷ 0x07 ∷ []
  pub equal_129 : packed (replicate 129 0x07) ≡ 0x81 ∷ 0x07 ∷ 0x00 ∷ 0x07 ∷ []
  pub equal_131 : packed (replicate 131 0x07) ≡ 0x81 ∷ 0x07 ∷ 0xFE ∷ 0x07 ∷ []
  pub three_colours : body_line (0xA0 ∷ 0x00 ∷ 0x60 ∷ 0x00 ∷ []) 3 2 0 0 0 3 ≡ found (colours, 4)
  pub written_plain : write_of (three_pixels 0) [] colours [] 52 ≡ Ok 52
  pub written_packed : write_of (three_pixels 1) [] colours [] 54 ≡ Ok 54

no_header_counts : picture_of form 0 ≡ refusing (reason_of 21) 0
unfolding
    read_file chunk_at run header_of group_header_of word well_formed version_name kind_of type_bytes reserved_name type_name contents_from property_of
    last_named bodies_from picture_refusal pick_content reason_of
no_header_counts = refl

pub examples : Table
unfolding
    read_file chunk_at run header_of group_header_of prop_within word count well_formed version_name kind_of type_bytes reserved_name type_name
    unpack_row unpack_by code_of plain_row packed pack_by piece_of three same_for plain_for rows_from colours_from colour_by header_bytes plane_byte
    plane_row line_rows body_lines picture_file wrong_fields colour_over wrong_shape bytes reason_of
examples =
    record {
      empty_file = refl;
      empty_form = refl;
      no_header = no_header_counts;
      version = refl;
      cut_short = refl;
      one_byte_inside = refl;
      second_prop_lem = refl;
      repeated_zeros = refl;
      after_nothing = refl;
      repeat_too_long = refl;
      copy_cut_short = refl;
      two_equal = refl;
      equal_128 = refl;
      equal_129 = refl;
      equal_131 = refl;
      three_colours = refl;
      written_plain = refl;
      written_packed = refl;
    }
