-- 02, Ask 5, "True colour for Amiga modes": "Give red, green, blue for each pixel."
use Rattle.std.specs.Prelude.{ℕ, ◌+◌, ◌-◌, ◌*◌, ◌/◌, ◌%◌, ◌^◌, Bool, not, List, [], ◌∷◌, ◌++◌, ltb, eqb, length, get_or}
use Rattle.iff_name.specs.Name.{both, either, pick}
use Rattle.iff_chunk.specs.Chunks.{word}
use Rattle.iff_tree.specs.Judge.{refused}
use Rattle.ilbm_spec.specs.declared.BitmapHeader.{BitmapHeader}
use Rattle.ilbm_spec.specs.declared.Colour.{Colour}
use Rattle.ilbm_spec.specs.Contents.{Content}
use Rattle.ilbm_spec.specs.Pictures.{Viewed, view_of, data_of, header_in, palette_of_property, empty_fields, fields_refusal, passing}
use Rattle.ilbm_spec.specs.Rows.{row_length, rows_in_line, Read, Pixels, colour_numbers, line_with, lines_with, leftover, start_inside}
use Rattle.ilbm_spec.specs.Rows.{right_length, ask_body}
use Rattle.iff_refusal.specs.declared.Reason.TheVariants.{HoldPlanes}

abbrev pub colour : ℕ → ℕ → ℕ → Colour
colour r g b = record { red = r; green = g; blue = b }

-- "(0, 0, 0)"
abbrev pub black : Colour
black = colour 0 0 0

-- the three bytes of a pixel or an entry
abbrev pub colour_bytes : Colour → List ℕ
colour_bytes c = c.red ∷ c.green ∷ c.blue ∷ []

-- Entry i of a palette: "An entry not there whole is (0, 0, 0)."
unfoldable pub entry_at : List ℕ → ℕ → Colour
entry_at palette i =
    pick (ltb (3 * i + 2) (length palette)) (colour (get_or palette (3 * i) 0) (get_or palette (3 * i + 1) 0) (get_or palette (3 * i + 2) 0))
    black

-- a bit of the number that CAMG holds
abbrev pub has_bit : ℕ → ℕ → Bool
has_bit mode k = eqb (mode / 2 ^ k % 2) 1

-- "CAMG bit 11"
unfoldable pub holds : ℕ → Bool
holds mode = has_bit mode 11

-- "CAMG bit 7 with 6 planes and no bit 11 is half-bright"
unfoldable pub is_half_bright : ℕ → ℕ → Bool
is_half_bright mode planes = both (has_bit mode 7) (both (eqb planes 6) (not (holds mode)))

-- "each part halved, rounded down"
abbrev pub halved : Colour → Colour
halved c = colour (c.red / 2) (c.green / 2) (c.blue / 2)

-- The colour that a palette gives to number i, in a half-bright picture "entry 32 + i being entry i" halved: "Other pictures go through
-- their palette."
unfoldable pub number_colour : Bool → List ℕ → ℕ → Colour
number_colour halfBright palette i =
    pick (both halfBright (not (ltb i 32))) (halved (entry_at palette (i - 32))) (entry_at palette i)

-- "Four data bits v become 17v, six become 4v + floor(v/16)": of 6 planes and of 8
abbrev pub level : ℕ → ℕ → ℕ
level planes v = pick (eqb planes 6) (17 * v) (4 * v + v / 16)

-- 003: "codes that are divided into a mode in the high two bits and data in the other bits"
abbrev pub chosen : ℕ → ℕ → ℕ
chosen planes code = code / 2 ^ (planes - 2)

abbrev pub given : ℕ → ℕ → ℕ
given planes code = code % 2 ^ (planes - 2)

-- The colour of a pixel by hold-and-modify: "the two high bits choose 00 palette, 01 blue, 10 red, 11 green; the rest of the colour is held
-- from the left".
unfoldable pub modified : ℕ → List ℕ → Colour → ℕ → Colour
modified planes palette held code =
    let v : ℕ = given planes code in
    pick (eqb (chosen planes code) 0) (entry_at palette v)
    (pick (eqb (chosen planes code) 1) (colour held.red held.green (level planes v))
    (pick (eqb (chosen planes code) 2) (colour (level planes v) held.green held.blue)
    (colour held.red (level planes v) held.blue)))

-- What makes a pixel's colour of the colour to its left and its colour number.
abbrev pub Step : Type 0
Step = Colour → ℕ → Colour

-- by the number that CAMG holds, the planes and the palette
unfoldable pub pixel_colour : ℕ → ℕ → List ℕ → Step
pixel_colour mode planes palette held code =
    pick (holds mode) (modified planes palette held code) (number_colour (is_half_bright mode planes) palette code)

-- The bytes of pixels with these colour numbers, each colour carried to the next one.
unfoldable pub carried : Step → Colour → List ℕ → List ℕ
carried step held [] = []
carried step held (code ∷ codes) = colour_bytes (step held code) ++ carried step (step held code) codes

-- The same where no colour is held: those of these numbers, each by itself.
abbrev pub each_colour : (ℕ → Colour) → List ℕ → List ℕ
each_colour colourOf codes = carried (λ left code. colourOf code) black codes

-- of the plane rows of a scan line: "each line starts from (0, 0, 0)"
abbrev pub coloured : ℕ → ℕ → Step → Pixels
coloured w planes step plane_rows = carried step black (colour_numbers w planes plane_rows)

-- "46 for bit 11 with other plane counts"
abbrev pub wrong_planes : ℕ → ℕ → Bool
wrong_planes mode planes = both (holds mode) (not (either (eqb planes 6) (eqb planes 8)))

abbrev pub mode_shown : {A : Type 0} → ℕ → ℕ → Read A → Read A
mode_shown mode planes rows = pick (wrong_planes mode planes) (refused HoldPlanes 0) rows

-- A scan line of a BODY in colours, by its header's numbers, the number that CAMG holds and the palette: 29; "28 if the lent row isn't 3w
-- bytes"; then 27 and 26.
abbrev pub body_colour_line : List ℕ → ℕ → ℕ → ℕ → ℕ → ℕ → List ℕ → ℕ → ℕ → Read (List ℕ)
body_colour_line body w planes masking compression mode palette start room =
    start_inside body start
    (right_length (eqb room (3 * w))
    (line_with (coloured w planes (pixel_colour mode planes palette)) compression (row_length w) (rows_in_line planes masking) body start))

-- A frame likewise.
abbrev pub body_colour_frame : List ℕ → ℕ → ℕ → ℕ → ℕ → ℕ → ℕ → List ℕ → ℕ → Read (List ℕ)
body_colour_frame body w h planes masking compression mode palette room =
    right_length (eqb room (3 * w * h))
    (leftover (length body)
    (lines_with (coloured w planes (pixel_colour mode planes palette)) compression (row_length w) (rows_in_line planes masking) body h 0))

-- Of any bytes as a BODY, with the header's fields as numbers: 46 behind the refusals of the fields.
abbrev pub colour_line_in_body : List ℕ → ℕ → ℕ → ℕ → ℕ → ℕ → List ℕ → ℕ → ℕ → Read (List ℕ)
colour_line_in_body body w planes masking compression mode palette start room =
    passing (fields_refusal planes masking compression (empty_fields w 1 planes))
    (mode_shown mode planes
    (body_colour_line body w planes masking compression mode palette start room))

abbrev pub colour_frame_in_body : List ℕ → ℕ → ℕ → ℕ → ℕ → ℕ → ℕ → List ℕ → ℕ → Read (List ℕ)
colour_frame_in_body body w h planes masking compression mode palette room =
    passing (fields_refusal planes masking compression (empty_fields w h planes))
    (mode_shown mode planes
    (body_colour_frame body w h planes masking compression mode palette room))

-- the number that a picture's CAMG holds, 0 where none counts
abbrev pub mode_of_view : Content → ℕ
mode_of_view c = word (data_of c.camg) 0

-- Of a picture, "with the caller's default palette where no CMAP counts": 46 "after 25".
abbrev pub colour_line_read : Viewed → List ℕ → ℕ → ℕ → Read (List ℕ)
colour_line_read v default start room =
    ask_body v (λ c body.
    let b : BitmapHeader = header_in (data_of c.bmhd) in
    mode_shown (mode_of_view c) b.planes
    (body_colour_line body b.w b.planes b.masking b.compression (mode_of_view c) (palette_of_property c.cmap default) start room))

abbrev pub colour_frame_read : Viewed → List ℕ → ℕ → Read (List ℕ)
colour_frame_read v default room =
    ask_body v (λ c body.
    let b : BitmapHeader = header_in (data_of c.bmhd) in
    mode_shown (mode_of_view c) b.planes
    (body_colour_frame body b.w b.h b.planes b.masking b.compression (mode_of_view c) (palette_of_property c.cmap default) room))

-- The scan line of picture i from a place, and its frame, for a lent row or frame.
abbrev pub colour_line_of : List ℕ → ℕ → List ℕ → ℕ → ℕ → Read (List ℕ)
colour_line_of s i default start room = colour_line_read (view_of s i) default start room

abbrev pub colour_frame_of : List ℕ → ℕ → List ℕ → ℕ → Read (List ℕ)
colour_frame_of s i default room = colour_frame_read (view_of s i) default room
