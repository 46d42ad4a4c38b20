-- Colours with a shape beside those without it.
use Prim.Native.Nat.{ℕ}
use Rattle.std.specs.Prelude.{◌≡◌, List}
use Rattle.iff_tree.specs.Judge.{found}
use Rattle.ilbm_spec.specs.Rows.{line_in_body, frame_in_body, line_of, frame_of}
use Rattle.ilbm_spec.specs.Shapes.{Shaped, shape_line_in_body, shape_frame_in_body, shape_line_of, shape_frame_of}

-- For a line and a frame, of a picture and of any bytes as a BODY: the colours and the next place, or the leftover, that come with a shape
-- come without it.
pub record ShapeBesideColours : Type 0 where
  pub line :
      (s : List ℕ) (i start room shapeRoom q : ℕ) (x : Shaped) → shape_line_of s i start room shapeRoom ≡ found (x, q) →
      line_of s i start room ≡ found (x.colours, q)
  pub frame :
      (s : List ℕ) (i room shapeRoom q : ℕ) (x : Shaped) → shape_frame_of s i room shapeRoom ≡ found (x, q) →
      frame_of s i room ≡ found (x.colours, q)
  pub body_line_lem :
      (body : List ℕ) (w planes masking compression transparent start room shapeRoom q : ℕ) (x : Shaped) →
      shape_line_in_body body w planes masking compression transparent start room shapeRoom ≡ found (x, q) →
      line_in_body body w planes masking compression start room ≡ found (x.colours, q)
  pub body_frame_lem :
      (body : List ℕ) (w h planes masking compression transparent room shapeRoom q : ℕ) (x : Shaped) →
      shape_frame_in_body body w h planes masking compression transparent room shapeRoom ≡ found (x, q) →
      frame_in_body body w h planes masking compression room ≡ found (x.colours, q)
