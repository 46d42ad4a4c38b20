-- 02's Ask 5, computed.
use Rattle.std.specs.Prelude.{ℕ, ◌≡◌, refl, List, [], ◌∷◌, ◌++◌, eqb, replicate}
use Rattle.iff_name.specs.Name.{pick}
use Rattle.iff_chunk.specs.Chunks.{word}
use Rattle.iff_tree.specs.Judge.{found, refused}
use Rattle.byterun_row.specs.ByteRun.{plain_row}
use Rattle.ilbm_spec.specs.Names.{CAMG}
use Rattle.ilbm_spec.specs.Contents.{Located, located, own, absent, Content, content_by}
use Rattle.ilbm_spec.specs.Pictures.{header_in, fields_refusal}
use Rattle.ilbm_spec.specs.Rows.{Read, rows_from, colour_by, colours_from, lines_with}
use Rattle.ilbm_spec.specs.Colours.{black, entry_at, holds, is_half_bright, number_colour, modified, pixel_colour, carried}
use Rattle.ilbm_spec.specs.Colours.{colour_line_in_body, colour_frame_in_body, colour_line_read}
use Rattle.ilbm_spec.specs.Triples.{triples_from, triples_by}
use Rattle.iff_refusal.specs.Numbers.{reason_of}

-- A palette of two entries and a cut one. Hold-and-modify by 6 planes and by 8, from black on; half-bright, and not with bit 11.
abbrev two_and_cut : List ℕ
two_and_cut = 1 ∷ 2 ∷ 3 ∷ 4 ∷ 5 ∷ 7 ∷ 8 ∷ 9 ∷ []

abbrev colours : List (List ℕ)
colours =
    carried (pixel_colour 0x800 6 two_and_cut) black (0x2A ∷ 0x01 ∷ 0x1F ∷ 0x2A ∷ 0x31 ∷ 0x02 ∷ 0x30 ∷ []) ∷
    carried (pixel_colour 0x800 8 two_and_cut) black (0xBF ∷ 0x4F ∷ 0xD0 ∷ 0x00 ∷ []) ∷
    carried (pixel_colour 0x80 6 two_and_cut) black (1 ∷ 33 ∷ 34 ∷ []) ∷
    carried (pixel_colour 0x880 6 two_and_cut) black (1 ∷ 33 ∷ []) ∷
    carried (pixel_colour 0 6 two_and_cut) black (1 ∷ 33 ∷ 2 ∷ []) ∷ []

true_colours :
    colours ≡
    (170 ∷ 0 ∷ 0 ∷ 4 ∷ 5 ∷ 7 ∷ 4 ∷ 5 ∷ 255 ∷ 170 ∷ 5 ∷ 255 ∷ 170 ∷ 17 ∷ 255 ∷ 0 ∷ 0 ∷ 0 ∷ 0 ∷ 0 ∷ 0 ∷ []) ∷
    (255 ∷ 0 ∷ 0 ∷ 255 ∷ 0 ∷ 60 ∷ 255 ∷ 65 ∷ 60 ∷ 1 ∷ 2 ∷ 3 ∷ []) ∷
    (4 ∷ 5 ∷ 7 ∷ 2 ∷ 2 ∷ 3 ∷ 0 ∷ 0 ∷ 0 ∷ []) ∷
    (4 ∷ 5 ∷ 7 ∷ 17 ∷ 5 ∷ 7 ∷ []) ∷
    (4 ∷ 5 ∷ 7 ∷ 0 ∷ 0 ∷ 0 ∷ 0 ∷ 0 ∷ 0 ∷ []) ∷ []
unfolding carried pixel_colour modified number_colour entry_at holds is_half_bright
true_colours = refl

-- Two lines of one pixel, the second of which does not go on from the first. 46 for 5 planes, before 29; then 28 for a row of two bytes,
-- and 26. Of a picture 46 comes after 25.
abbrev two_lines : List ℕ
two_lines = 0 ∷ 0 ∷ 128 ∷ 0 ∷ 0 ∷ 0 ∷ 128 ∷ 0 ∷ 0 ∷ 0 ∷ 128 ∷ 0 ∷ 128 ∷ 0 ∷ 128 ∷ 0 ∷ 128 ∷ 0 ∷ 128 ∷ 0 ∷ 128 ∷ 0 ∷ 0 ∷ 0 ∷ []

abbrev holding : List Located → Content
holding bodies = content_by 0 (λ name. pick (eqb name CAMG) (own (located 0 (0 ∷ 0 ∷ 8 ∷ 0 ∷ []))) absent) bodies

abbrev calls : List (Read (List ℕ))
calls =
    colour_frame_in_body two_lines 1 2 6 0 0 0x800 two_and_cut 6 ∷
    colour_line_in_body two_lines 1 5 0 0 0x800 two_and_cut 99 2 ∷
    colour_line_in_body two_lines 1 6 0 0 0x800 two_and_cut 99 2 ∷
    colour_line_in_body two_lines 1 6 0 0 0x800 two_and_cut 24 2 ∷
    colour_line_in_body two_lines 1 6 0 0 0x800 two_and_cut 24 3 ∷
    colour_line_read (found (holding [])) two_and_cut 0 3 ∷
    colour_line_read (found (holding (located 0 two_lines ∷ []))) two_and_cut 0 3 ∷ []

colours_in_order :
    calls ≡
    found (170 ∷ 0 ∷ 0 ∷ 0 ∷ 0 ∷ 255 ∷ [], 0) ∷
    refused (reason_of 46) 0 ∷ refused (reason_of 29) 0 ∷ refused (reason_of 28) 0 ∷ refused (reason_of 26) 24 ∷ refused (reason_of 25) 0 ∷ refused (reason_of 46) 0 ∷ []
unfolding
    fields_refusal header_in rows_from colours_from colour_by lines_with plain_row carried pixel_colour modified number_colour entry_at holds
    is_half_bright word reason_of
colours_in_order = refl

-- The triples of a half-bright picture: its two entries, black ones, and from 32 on their halves. With bit 11, or with 5 planes, the
-- palette's own.
abbrev entries : List (List ℕ) → List (List ℕ)
entries others = (1 ∷ 2 ∷ 3 ∷ []) ∷ (4 ∷ 5 ∷ 7 ∷ []) ∷ others

half_bright_triples :
    triples_by 0x80 6 two_and_cut ≡
    entries (replicate 30 (0 ∷ 0 ∷ 0 ∷ []) ++ ((0 ∷ 1 ∷ 1 ∷ []) ∷ (2 ∷ 2 ∷ 3 ∷ []) ∷ replicate 30 (0 ∷ 0 ∷ 0 ∷ [])))
unfolding triples_from number_colour entry_at is_half_bright holds
half_bright_triples = refl

holding_triples : triples_by 0x880 6 two_and_cut ≡ entries (replicate 62 (0 ∷ 0 ∷ 0 ∷ []))
unfolding triples_from number_colour entry_at is_half_bright holds
holding_triples = refl

five_plane_triples : triples_by 0x80 5 two_and_cut ≡ entries (replicate 62 (0 ∷ 0 ∷ 0 ∷ []))
unfolding triples_from number_colour entry_at is_half_bright holds
five_plane_triples = refl
