-- 02, Ask 4, "Which pixels are there": the colours of a scan line or frame with their shape, "1 where the pixel shows, 0 where not".
use Rattle.std.specs.Prelude.{ℕ, ◌*◌, List, [], ◌∷◌, eqb, length, drop, replicate}
use Rattle.iff_name.specs.Name.{both, pick}
use Rattle.iff_tree.specs.Judge.{found, refused}
use Rattle.ilbm_spec.specs.Pictures.{Viewed, view_of, empty_fields, fields_refusal, passing}
use Rattle.ilbm_spec.specs.Rows.{row_length, rows_in_line, Read, then_read, colours_from, Pixels, colour_numbers, line_with, lines_with}
use Rattle.ilbm_spec.specs.Rows.{leftover, start_inside, right_length, ask_rows}
use Rattle.iff_refusal.specs.declared.Reason.TheVariants.{NoShape}

-- "Masking 2: 0 exactly where the colour number equals transparentColor."
unfoldable pub opaque : ℕ → List ℕ → List ℕ
opaque transparent [] = []
opaque transparent (c ∷ cs) = pick (eqb c transparent) 0 1 ∷ opaque transparent cs

-- The shape of pixels with these colour numbers and these bits in the mask, by the masking: "Masking 0: all 1. Masking 1: the mask row's
-- bit".
unfoldable pub shape_by : ℕ → ℕ → List ℕ → List ℕ → List ℕ
shape_by masking transparent colours mask =
    pick (eqb masking 1) mask
    (pick (eqb masking 2) (opaque transparent colours)
    (replicate (length colours) 1))

-- of the plane rows of a scan line: the mask row stands behind those of the planes and is read as one of them is, "same bit order"
abbrev pub shape_bits : ℕ → ℕ → ℕ → ℕ → Pixels
shape_bits w planes masking transparent plane_rows =
    shape_by masking transparent (colour_numbers w planes plane_rows) (colours_from 0 w (drop planes plane_rows))

-- Colours, and "beside the colours" their shape.
pub record Shaped : Type 0 where
  pub colours : List ℕ
  pub shape : List ℕ

abbrev pub shaped : List ℕ → List ℕ → Shaped
shaped cs bits = record { colours = cs; shape = bits }

-- two readings of the same rows, the first for the colours
abbrev pub together : Read (List ℕ) → Read (List ℕ) → Read Shaped
together colours shape = then_read colours (λ cs q. then_read shape (λ bits r. found (shaped cs bits, q)))

-- a scan line from a place of the BODY, and so many of them
abbrev pub shaped_line : ℕ → ℕ → ℕ → ℕ → ℕ → List ℕ → ℕ → Read Shaped
shaped_line compression w planes masking transparent body at =
    let line : Pixels → Read (List ℕ) = λ pixels. line_with pixels compression (row_length w) (rows_in_line planes masking) body at in
    together (line (colour_numbers w planes)) (line (shape_bits w planes masking transparent))

abbrev pub shaped_lines : ℕ → ℕ → ℕ → ℕ → ℕ → List ℕ → ℕ → ℕ → Read Shaped
shaped_lines compression w planes masking transparent body lines at =
    let all : Pixels → Read (List ℕ) = λ pixels. lines_with pixels compression (row_length w) (rows_in_line planes masking) body lines at in
    together (all (colour_numbers w planes)) (all (shape_bits w planes masking transparent))

-- "Masking 3 isn't worked out.": "44, only where the shape is asked, for masking 3, after 28"
abbrev pub shape_asked : ℕ → Read Shaped → Read Shaped
shape_asked masking rows = pick (eqb masking 3) (refused NoShape 0) rows

-- A scan line of a BODY, for a lent row and a lent shape: 29; 28 "also if the shape row isn't w bytes"; 44; then 27 and 26.
abbrev pub body_shape_line : List ℕ → ℕ → ℕ → ℕ → ℕ → ℕ → ℕ → ℕ → ℕ → Read Shaped
body_shape_line body w planes masking compression transparent start room shapeRoom =
    start_inside body start
    (right_length (both (eqb room w) (eqb shapeRoom w))
    (shape_asked masking (shaped_line compression w planes masking transparent body start)))

-- A frame likewise, into two lent frames.
abbrev pub body_shape_frame : List ℕ → ℕ → ℕ → ℕ → ℕ → ℕ → ℕ → ℕ → ℕ → Read Shaped
body_shape_frame body w h planes masking compression transparent room shapeRoom =
    right_length (both (eqb room (w * h)) (eqb shapeRoom (w * h)))
    (shape_asked masking (leftover (length body) (shaped_lines compression w planes masking transparent body h 0)))

-- Of any bytes as a BODY, with the header's fields as numbers.
abbrev pub shape_line_in_body : List ℕ → ℕ → ℕ → ℕ → ℕ → ℕ → ℕ → ℕ → ℕ → Read Shaped
shape_line_in_body body w planes masking compression transparent start room shapeRoom =
    passing (fields_refusal planes masking compression (empty_fields w 1 planes))
    (body_shape_line body w planes masking compression transparent start room shapeRoom)

abbrev pub shape_frame_in_body : List ℕ → ℕ → ℕ → ℕ → ℕ → ℕ → ℕ → ℕ → ℕ → Read Shaped
shape_frame_in_body body w h planes masking compression transparent room shapeRoom =
    passing (fields_refusal planes masking compression (empty_fields w h planes))
    (body_shape_frame body w h planes masking compression transparent room shapeRoom)

-- Of a picture.
abbrev pub shape_line_read : Viewed → ℕ → ℕ → ℕ → Read Shaped
shape_line_read v start room shapeRoom =
    ask_rows v (λ b body.
    body_shape_line body b.w b.planes b.masking b.compression b.transparent start room shapeRoom)

abbrev pub shape_frame_read : Viewed → ℕ → ℕ → Read Shaped
shape_frame_read v room shapeRoom =
    ask_rows v (λ b body.
    body_shape_frame body b.w b.h b.planes b.masking b.compression b.transparent room shapeRoom)

-- The scan line of picture i from a place, and its frame, for two lent rows or frames.
abbrev pub shape_line_of : List ℕ → ℕ → ℕ → ℕ → ℕ → Read Shaped
shape_line_of s i start room shapeRoom = shape_line_read (view_of s i) start room shapeRoom

abbrev pub shape_frame_of : List ℕ → ℕ → ℕ → ℕ → Read Shaped
shape_frame_of s i room shapeRoom = shape_frame_read (view_of s i) room shapeRoom

-- what stands in the lent rows or frames afterwards: a refusal changes nothing
abbrev pub colours_after : Read Shaped → List ℕ → List ℕ
colours_after (found (x, q)) old = x.colours
colours_after (refused k p) old = old

abbrev pub shape_after : Read Shaped → List ℕ → List ℕ
shape_after (found (x, q)) old = x.shape
shape_after (refused k p) old = old
