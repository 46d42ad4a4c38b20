-- Demand 1: "Any bytes may be handed to any public call. It .. answers or refuses with a number of document 01". For the definition that
-- each call's contract cites: the numbers that it can refuse with, and that the place is 0 unless the number has one.
use Rattle.std.specs.Prelude.{ℕ, ◌≡◌, List, ◌∷◌, Err}
use Rattle.iff_tree.specs.Judge.{check_of}
use Rattle.iff_copy.specs.Clean.{copy_of}
use Rattle.list_spec.specs.Records.{record_of}
use Rattle.list_spec.specs.Contents.{extent_of, data_answer}
use Rattle.list_capacity.specs.Capacity.{answer_of}
use Rattle.list_reader.specs.Reading.{opening_of}
use Rattle.ilbm_count.specs.Count.{count_of}
use Rattle.ilbm_spec.specs.declared.BitmapHeader.{BitmapHeader}
use Rattle.ilbm_spec.specs.Pictures.{picture_of}
use Rattle.ilbm_spec.specs.Palette.{palette_answer}
use Rattle.ilbm_spec.specs.Rows.{line_answer, line_of, line_in_body, frame_answer, frame_of, frame_in_body}
use Rattle.ilbm_spec.specs.Shapes.{shape_line_of, shape_frame_of, shape_line_in_body, shape_frame_in_body}
use Rattle.ilbm_spec.specs.Colours.{colour_line_of, colour_frame_of, colour_line_in_body, colour_frame_in_body}
use Rattle.ilbm_spec.specs.Triples.{triples_of}
use Rattle.ilbm_spec.specs.Table.{table_of, table_answer}
use Rattle.byterun_pack.specs.Pack.{pack_number, pack_of}
use Rattle.write_picture.specs.Write.{write_of}
use Rattle.theorem_demands.specs.Numbers.{OneOf, structural, of_record, of_data, of_table, of_copy, of_picture, of_line, of_frame}
use Rattle.theorem_demands.specs.Numbers.{of_body_line, of_body_frame, and_shape, and_colours, of_packing, of_writing}
use Rattle.iff_refusal.specs.declared.Reason.{Reason}
use Rattle.iff_refusal.specs.Numbers.{refusing, number_of, number_in, place_in}

-- The exported calls on a file or a chunk each have a line here, those on a picture's properties one together (`ilbm_header`, `ilbm_grab`,
-- `ilbm_dest`, `ilbm_sprite`, `ilbm_view_mode`): they tell the number and the place of this answer, and 0 where it is no refusal. The
-- lines on the palette, its triples and the reader are of what is told, so 0 is among their numbers. A chunk's data and the packer have
-- both: `chunk_extent` and `pack_refused` of the answer that the contract cites, `chunk_data` and `pack` of what is told. The table of
-- pictures has a line, and so have a scan line and a frame of a BODY by itself, and each of the four that gives the shape too or gives
-- colours.
pub record Refusals : Type 0 where
  pub check : (s : List ℕ) (k : Reason) (p : ℕ) → check_of s ≡ refusing k p → OneOf structural (number_of k) p
  pub clean_copy : (s : List ℕ) (room : ℕ) (k : Reason) (p : ℕ) → copy_of s room ≡ refusing k p → OneOf of_copy (number_of k) p
  pub record_by_number : (s : List ℕ) (i : ℕ) (k : Reason) (p : ℕ) → record_of s i ≡ refusing k p → OneOf of_record (number_of k) p
  pub chunk_data : (s : List ℕ) (i : ℕ) → let a = data_answer s i in OneOf (0 ∷ of_data) (number_in a.refusal) (place_in a.refusal)
  pub chunk_extent : (s : List ℕ) (i : ℕ) (k : Reason) (p : ℕ) → extent_of s i ≡ refusing k p → OneOf of_data (number_of k) p
  pub table : (s : List ℕ) (room : ℕ) (k : Reason) (p : ℕ) → answer_of room (check_of s) ≡ refusing k p → OneOf of_table (number_of k) p
  pub reader : (s : List ℕ) → let a = (opening_of s).refusal in OneOf (0 ∷ structural) (number_in a) (place_in a)
  pub picture_count : (s : List ℕ) (k : Reason) (p : ℕ) → count_of s ≡ refusing k p → OneOf structural (number_of k) p
  pub properties : (s : List ℕ) (i : ℕ) (k : Reason) (p : ℕ) → picture_of s i ≡ refusing k p → OneOf of_picture (number_of k) p
  pub palette :
      (s : List ℕ) (i : ℕ) (default : List ℕ) →
      let a = palette_answer s i default in OneOf (0 ∷ of_picture) (number_in a.refusal) (place_in a.refusal)
  pub line :
      (s : List ℕ) (i start room : ℕ) (k : Reason) (p : ℕ) → line_answer (line_of s i start room) ≡ refusing k p →
      OneOf of_line (number_of k) p
  pub frame :
      (s : List ℕ) (i room : ℕ) (k : Reason) (p : ℕ) → frame_answer (frame_of s i room) ≡ refusing k p → OneOf of_frame (number_of k) p
  pub picture_table :
      (s : List ℕ) (room : ℕ) (k : Reason) (p : ℕ) → table_answer (table_of s room) ≡ refusing k p → OneOf of_table (number_of k) p
  pub body_line_lem :
      (body : List ℕ) (w planes masking compression start room : ℕ) (k : Reason) (p : ℕ) →
      line_answer (line_in_body body w planes masking compression start room) ≡ refusing k p → OneOf of_body_line (number_of k) p
  pub body_frame_lem :
      (body : List ℕ) (w h planes masking compression room : ℕ) (k : Reason) (p : ℕ) →
      frame_answer (frame_in_body body w h planes masking compression room) ≡ refusing k p → OneOf of_body_frame (number_of k) p
  pub shape_line :
      (s : List ℕ) (i start room shapeRoom : ℕ) (k : Reason) (p : ℕ) → line_answer (shape_line_of s i start room shapeRoom) ≡ refusing k p →
      OneOf (and_shape of_line) (number_of k) p
  pub shape_frame :
      (s : List ℕ) (i room shapeRoom : ℕ) (k : Reason) (p : ℕ) → frame_answer (shape_frame_of s i room shapeRoom) ≡ refusing k p →
      OneOf (and_shape of_frame) (number_of k) p
  pub body_shape_line_lem :
      (body : List ℕ) (w planes masking compression transparent start room shapeRoom : ℕ) (k : Reason) (p : ℕ) →
      line_answer (shape_line_in_body body w planes masking compression transparent start room shapeRoom) ≡ refusing k p →
      OneOf (and_shape of_body_line) (number_of k) p
  pub body_shape_frame_lem :
      (body : List ℕ) (w h planes masking compression transparent room shapeRoom : ℕ) (k : Reason) (p : ℕ) →
      frame_answer (shape_frame_in_body body w h planes masking compression transparent room shapeRoom) ≡ refusing k p →
      OneOf (and_shape of_body_frame) (number_of k) p
  pub colour_line :
      (s : List ℕ) (i : ℕ) (default : List ℕ) (start room : ℕ) (k : Reason) (p : ℕ) →
      line_answer (colour_line_of s i default start room) ≡ refusing k p → OneOf (and_colours of_line) (number_of k) p
  pub colour_frame :
      (s : List ℕ) (i : ℕ) (default : List ℕ) (room : ℕ) (k : Reason) (p : ℕ) →
      frame_answer (colour_frame_of s i default room) ≡ refusing k p → OneOf (and_colours of_frame) (number_of k) p
  pub body_colour_line_lem :
      (body : List ℕ) (w planes masking compression mode : ℕ) (palette : List ℕ) (start room : ℕ) (k : Reason) (p : ℕ) →
      line_answer (colour_line_in_body body w planes masking compression mode palette start room) ≡ refusing k p →
      OneOf (and_colours of_body_line) (number_of k) p
  pub body_colour_frame_lem :
      (body : List ℕ) (w h planes masking compression mode : ℕ) (palette : List ℕ) (room : ℕ) (k : Reason) (p : ℕ) →
      frame_answer (colour_frame_in_body body w h planes masking compression mode palette room) ≡ refusing k p →
      OneOf (and_colours of_body_frame) (number_of k) p
  pub triples :
      (s : List ℕ) (i : ℕ) (default : List ℕ) →
      let a = triples_of s i default in OneOf (0 ∷ of_picture) (number_in a.refusal) (place_in a.refusal)
  pub pack : (row : List ℕ) (room : ℕ) → OneOf (0 ∷ of_packing) (pack_number (pack_of row room)) 0
  pub pack_refused : (row : List ℕ) (room : ℕ) (k : Reason) → pack_of row room ≡ Err k → OneOf of_packing (number_of k) 0
  pub write :
      (b : BitmapHeader) (palette frame shape : List ℕ) (room : ℕ) (k : Reason) → write_of b palette frame shape room ≡ Err k →
      OneOf of_writing (number_of k) 0
