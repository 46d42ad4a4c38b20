-- 02's Asks 1, 2 and 4, and the table of pictures, computed.
-- Ask 1, "the outer PROP ILBM has BMHD and CMAP, the inner PROP ILBM only a CMAP", and the rules beside it: each property
-- comes from the nearest PROP that has it, of several there the last, and a FORM's own properties stay its own.
use Rattle.std.specs.Prelude.{ℕ, ◌≡◌, refl, true, false, List, [], ◌∷◌, ◌++◌, replicate}
use Rattle.iff_name.specs.Codes.{FORM, LIST, PROP, JJJJ}
use Rattle.iff_chunk.specs.Chunks.{none, leaf, group, Chunk, a_group, bytes}
use Rattle.iff_tree.specs.Judge.{found, refused}
use Rattle.byterun_row.specs.ByteRun.{plain_row}
use Rattle.ilbm_spec.specs.Names.{ILBM, BMHD, CMAP, GRAB, SPRT, BODY}
use Rattle.ilbm_spec.specs.Contents.{located, own, shared, absent, last_named, list_scope, property_of, bodies_from, Content}
use Rattle.ilbm_spec.specs.Contents.{contents_from, contents_of}
use Rattle.ilbm_spec.specs.declared.BitmapHeader.{BitmapHeader}
use Rattle.ilbm_spec.specs.Pictures.{header_in, wrong_size, fields_refusal, header_refusal, picture_refusal}
use Rattle.ilbm_spec.specs.Rows.{Read, rows_from, colour_by, colours_from, lines_with, line_in_body, frame_in_body}
use Rattle.ilbm_spec.specs.Shapes.{opaque, shape_by, Shaped, shaped, shape_line_in_body, shape_frame_in_body}
use Rattle.ilbm_spec.specs.Table.{picture_row, picture_rows, rows_for, row_numbers, table_numbers, table_after}
use Rattle.iff_refusal.specs.Numbers.{number_unless, reason_of}

-- data by which a chunk is known
abbrev mark : ℕ → List ℕ
mark x = x ∷ x ∷ []

-- each group beside the place where it stands
abbrev tree : Chunk
tree =
    a_group LIST JJJJ  -- 0
    (group PROP ILBM (leaf BMHD (mark 1) [] (leaf CMAP (mark 2) [] none))  -- 12
    (group LIST JJJJ  -- 44
    (group PROP ILBM (leaf CMAP (mark 3) [] (leaf CMAP (mark 4) [] none))  -- 56
    (group FORM ILBM (leaf SPRT (mark 5) []  -- 88
    (group LIST JJJJ  -- 110
    (group PROP ILBM (leaf GRAB (mark 6) [] none)  -- 122
    (group FORM ILBM none none))  -- 144
    none)) none)) none))

abbrev outer : Content
outer =
    record {
      place = 88;
      bmhd = shared 12 (located 24 (mark 1));
      cmap = shared 56 (located 78 (mark 4));
      grab = absent;
      dest = absent;
      sprt = own (located 100 (mark 5));
      camg = absent;
      bodies = [];
    }

abbrev inner : Content
inner =
    record {
      place = 144;
      bmhd = shared 12 (located 24 (mark 1));
      cmap = shared 56 (located 78 (mark 4));
      grab = shared 122 (located 134 (mark 6));
      dest = absent;
      sprt = absent;
      camg = absent;
      bodies = [];
    }

each_property_by_itself : contents_of tree ≡ outer ∷ inner ∷ []
unfolding contents_from list_scope property_of last_named bodies_from bytes
each_property_by_itself = refl

-- Ask 2, "checked in the order 41, 42, 43, 24": each header has one fault less than the one before; the last has no BODY beside it.
abbrev with_fields : ℕ → ℕ → ℕ → BitmapHeader
with_fields planes masking compression =
    header_in
    (0 ∷ 0 ∷ 0 ∷ 2 ∷ 0 ∷ 0 ∷ 0 ∷ 0 ∷ planes ∷ masking ∷ compression ∷ 0 ∷ 0 ∷ 0 ∷ 0 ∷ 0 ∷ 0 ∷ 0 ∷ 0 ∷ 0 ∷ [])

abbrev refusals : List ℕ
refusals =
    number_unless (header_refusal (with_fields 9 4 2) true) ∷
    number_unless (header_refusal (with_fields 8 4 2) true) ∷
    number_unless (header_refusal (with_fields 8 3 2) true) ∷
    number_unless (header_refusal (with_fields 8 3 1) true) ∷
    number_unless (header_refusal (with_fields 8 3 1) false) ∷ []

header_in_order : refusals ≡ 41 ∷ 42 ∷ 43 ∷ 24 ∷ 0 ∷ []
unfolding header_in fields_refusal header_refusal
header_in_order = refl

-- The table of two pictures: the first shares BMHD and CMAP, has a SPRT and a BODY of its own, and is shown; the second is refused, for its
-- own CMAP has a wrong size, so that nothing is told of its BODY.
abbrev sheet : Chunk
sheet =
    a_group LIST JJJJ  -- 0
    (group PROP ILBM  -- 12
    (leaf BMHD (0 ∷ 16 ∷ 0 ∷ 1 ∷ 0 ∷ 0 ∷ 0 ∷ 0 ∷ 1 ∷ 0 ∷ 0 ∷ 0 ∷ 0 ∷ 0 ∷ 1 ∷ 1 ∷ 0 ∷ 16 ∷ 0 ∷ 1 ∷ []) []  -- 24
    (leaf CMAP (1 ∷ 2 ∷ 3 ∷ 4 ∷ 5 ∷ 6 ∷ []) [] none))  -- 52
    (group FORM ILBM (leaf SPRT (mark 7) [] (leaf BODY (mark 8) [] none))  -- 66, 78, 88
    (group FORM ILBM (leaf CMAP (mark 9) [] (leaf BODY (mark 10) [] none))  -- 98, 110, 120
    none)))

abbrev sheet_numbers : List ℕ
sheet_numbers =
    0 ∷ 66 ∷ ILBM ∷
    2 ∷ 12 ∷ 32 ∷ 52 ∷  -- BMHD
    2 ∷ 12 ∷ 60 ∷ 66 ∷  -- CMAP
    0 ∷ 0 ∷ 0 ∷ 0 ∷  -- GRAB
    0 ∷ 0 ∷ 0 ∷ 0 ∷  -- DEST
    1 ∷ 0 ∷ 86 ∷ 88 ∷  -- SPRT
    0 ∷ 0 ∷ 0 ∷ 0 ∷  -- CAMG
    1 ∷ 96 ∷ 98 ∷  -- BODY
    23 ∷ 98 ∷ ILBM ∷ replicate 27 0

-- "later places as found": the call in a table of 61 numbers, with 9 in each place
two_rows : table_after (rows_for 61 (found sheet)) (replicate 61 9) ≡ sheet_numbers ++ (9 ∷ [])
unfolding
    contents_from list_scope property_of last_named bodies_from bytes picture_rows picture_row picture_refusal wrong_size header_refusal fields_refusal
    header_in table_numbers row_numbers
two_rows = refl

-- "13 if the table has fewer places than pictures"
room_for_one : rows_for 59 (found sheet) ≡ refused (reason_of 13) 0
unfolding contents_from reason_of
room_for_one = refl

-- Rows of a BODY by itself: a line of two pixels and the frame that is this line; 24 for planes or w that are 0, and for h only in a frame.
abbrev alone : List (Read (List ℕ))
alone =
    line_in_body (128 ∷ 0 ∷ []) 2 1 0 0 0 2 ∷
    frame_in_body (128 ∷ 0 ∷ []) 2 1 1 0 0 2 ∷
    line_in_body (128 ∷ 0 ∷ []) 2 0 0 0 0 2 ∷
    line_in_body (128 ∷ 0 ∷ []) 0 1 0 0 0 0 ∷
    frame_in_body (128 ∷ 0 ∷ []) 2 0 1 0 0 0 ∷ []

body_alone :
    alone ≡ found (1 ∷ 0 ∷ [], 2) ∷ found (1 ∷ 0 ∷ [], 0) ∷ refused (reason_of 24) 0 ∷ refused (reason_of 24) 0 ∷ refused (reason_of 24) 0 ∷ []
unfolding fields_refusal rows_from colours_from colour_by lines_with plain_row reason_of
body_alone = refl

-- Ask 4: 01's three pixels with a mask row that has the first two; all three, those of the mask, and all but colour 2; a frame of one line;
-- 44 for masking 3, but after 28, and before 26, which a line from the BODY's end gives.
abbrev three_shaped : ℕ → ℕ → ℕ → ℕ → Read Shaped
three_shaped masking start room shapeRoom =
    shape_line_in_body (0xA0 ∷ 0x00 ∷ 0x60 ∷ 0x00 ∷ 0xC0 ∷ 0x00 ∷ []) 3 2 masking 0 2 start room shapeRoom

abbrev shapes : List (Read Shaped)
shapes =
    three_shaped 0 0 3 3 ∷
    three_shaped 1 0 3 3 ∷
    three_shaped 2 0 3 3 ∷
    shape_frame_in_body (0xA0 ∷ 0x00 ∷ 0x60 ∷ 0x00 ∷ 0xC0 ∷ 0x00 ∷ []) 3 1 2 1 0 2 3 3 ∷
    three_shaped 3 7 3 2 ∷
    three_shaped 3 6 3 2 ∷
    three_shaped 3 6 2 3 ∷
    three_shaped 3 6 3 3 ∷
    three_shaped 2 6 3 3 ∷ []

which_pixels :
    shapes ≡
    found (shaped (1 ∷ 2 ∷ 3 ∷ []) (1 ∷ 1 ∷ 1 ∷ []), 4) ∷
    found (shaped (1 ∷ 2 ∷ 3 ∷ []) (1 ∷ 1 ∷ 0 ∷ []), 6) ∷
    found (shaped (1 ∷ 2 ∷ 3 ∷ []) (1 ∷ 0 ∷ 1 ∷ []), 4) ∷
    found (shaped (1 ∷ 2 ∷ 3 ∷ []) (1 ∷ 1 ∷ 0 ∷ []), 0) ∷
    refused (reason_of 29) 0 ∷ refused (reason_of 28) 0 ∷ refused (reason_of 28) 0 ∷ refused (reason_of 44) 0 ∷ refused (reason_of 26) 6 ∷ []
unfolding fields_refusal rows_from colours_from colour_by lines_with plain_row opaque shape_by reason_of
which_pixels = refl
