-- The colours of a picture beside its colour numbers.
use Prim.Native.Nat.{ℕ, zero, suc, ◌*◌}
use Rattle.std.specs.Prelude.{◌≡◌, false, List, [], ◌++◌, take, drop}
use Rattle.iff_tree.specs.Judge.{found}
use Rattle.ilbm_spec.specs.declared.Colour.{Colour}
use Rattle.ilbm_spec.specs.Rows.{Read, then_read, line_in_body, frame_in_body, ask_body, line_of, frame_of}
use Rattle.ilbm_spec.specs.Colours.{black, holds, is_half_bright, number_colour, Step, pixel_colour, carried, each_colour, mode_shown}
use Rattle.ilbm_spec.specs.Colours.{colour_line_in_body, colour_frame_in_body, mode_of_view, colour_line_of, colour_frame_of}
use Rattle.ilbm_spec.specs.declared.BitmapHeader.{BitmapHeader}
use Rattle.ilbm_spec.specs.Contents.{Content}
use Rattle.ilbm_spec.specs.Pictures.{view_of, data_of, header_in, palette_of_property, empty_fields, fields_refusal, passing}

-- what is read, and something made of it
abbrev pub read_as : (List ℕ → List ℕ) → Read (List ℕ) → Read (List ℕ)
read_as made x = then_read x (λ cs q. found (made cs, q))

-- the colours of so many lines of w numbers each: "each line starts from (0, 0, 0)"
unfoldable pub carried_lines : Step → ℕ → ℕ → List ℕ → List ℕ
carried_lines step w zero cs = []
carried_lines step w (suc lines) cs = carried step black (take w cs) ++ carried_lines step w lines (drop w cs)

abbrev pub header_of : Content → BitmapHeader
header_of c = header_in (data_of c.bmhd)

-- what a picture makes of a colour number, by the colour to its left, and where nothing is held
abbrev pub step_of : Content → List ℕ → Step
step_of c default = pixel_colour (mode_of_view c) (header_of c).planes (palette_of_property c.cmap default)

abbrev pub plain_colour : Content → List ℕ → ℕ → Colour
plain_colour c default = number_colour (is_half_bright (mode_of_view c) (header_of c).planes) (palette_of_property c.cmap default)

-- For a line and a frame, into three times as many bytes: after the refusals of the picture, or of the fields, 46; and otherwise what the
-- colour numbers come to, each refusal too, and where they are read their colours. Those of a picture that is not hold-and-modify are the
-- colours of the numbers, each by itself.
pub record ColoursOfNumbers : Type 0 where
  pub line :
      (s : List ℕ) (i : ℕ) (default : List ℕ) (start room : ℕ) →
      colour_line_of s i default start (3 * room)
      ≡ ask_body (view_of s i) (λ c body.
      mode_shown (mode_of_view c) (header_of c).planes (read_as (carried (step_of c default) black) (line_of s i start room)))
  pub frame :
      (s : List ℕ) (i : ℕ) (default : List ℕ) (room : ℕ) →
      colour_frame_of s i default (3 * room)
      ≡ ask_body (view_of s i) (λ c body.
      let b : BitmapHeader = header_of c in
      mode_shown (mode_of_view c) b.planes (read_as (carried_lines (step_of c default) b.w b.h) (frame_of s i room)))
  pub body_line_lem :
      (body : List ℕ) (w planes masking compression mode : ℕ) (palette : List ℕ) (start room : ℕ) →
      colour_line_in_body body w planes masking compression mode palette start (3 * room)
      ≡ passing (fields_refusal planes masking compression (empty_fields w 1 planes))
      (mode_shown mode planes
      (read_as (carried (pixel_colour mode planes palette) black) (line_in_body body w planes masking compression start room)))
  pub body_frame_lem :
      (body : List ℕ) (w h planes masking compression mode : ℕ) (palette : List ℕ) (room : ℕ) →
      colour_frame_in_body body w h planes masking compression mode palette (3 * room)
      ≡ passing (fields_refusal planes masking compression (empty_fields w h planes))
      (mode_shown mode planes
      (read_as (carried_lines (pixel_colour mode planes palette) w h) (frame_in_body body w h planes masking compression room)))
  pub plain_line :
      (s : List ℕ) (i : ℕ) (c : Content) → view_of s i ≡ found c → holds (mode_of_view c) ≡ false → (default : List ℕ) (start room : ℕ) →
      colour_line_of s i default start (3 * room) ≡ read_as (each_colour (plain_colour c default)) (line_of s i start room)
  pub plain_frame :
      (s : List ℕ) (i : ℕ) (c : Content) → view_of s i ≡ found c → holds (mode_of_view c) ≡ false → (default : List ℕ) (room : ℕ) →
      colour_frame_of s i default (3 * room) ≡ read_as (each_colour (plain_colour c default)) (frame_of s i room)
