-- The calls on a picture tell what the picture or its rows are refused with, and those that write choose among the numbers of their own.
use Rattle.std.specs.Prelude.{ℕ, ◌≡◌, Bool, true, false, List, ◌∷◌, Ok, Err, Result}
use Rattle.std.proofs.Common.{subst}
use Rattle.iff_name.specs.Name.{pick}
use Rattle.iff_tree.specs.Judge.{found, refused}
use Rattle.ilbm_spec.specs.declared.BitmapHeader.{BitmapHeader}
use Rattle.ilbm_spec.specs.Pictures.{Viewed, view_of, picture_answer, picture_of}
use Rattle.ilbm_spec.specs.Palette.{answer_in, palette_answer}
use Rattle.ilbm_spec.specs.Rows.{Read, line_answer, line_of, line_in_body, frame_answer, frame_of, frame_in_body}
use Rattle.ilbm_spec.specs.Shapes.{shape_line_of, shape_frame_of, shape_line_in_body, shape_frame_in_body}
use Rattle.ilbm_spec.specs.Colours.{colour_line_of, colour_frame_of, colour_line_in_body, colour_frame_in_body}
use Rattle.ilbm_spec.specs.Triples.{triples_in, triples_of}
use Rattle.byterun_pack.specs.Pack.{pack_number, pack_of}
use Rattle.write_picture.specs.Write.{write_of}
use Rattle.theorem_demands.specs.Numbers.{of_picture, of_line, of_frame, of_body_line, of_body_frame, and_shape, and_colours, of_packing}
use Rattle.theorem_demands.specs.Numbers.{of_writing, among, OneOf}
use Rattle.theorem_demands.proofs.laws.Numbers.{Refuses, without_place, none_told, or_none, AnswerBy, told}
use Rattle.theorem_demands.proofs.laws.Pictures.{view_refuses, scan_line_refuses, frame_refuses, body_line_refuses, body_frame_refuses}
use Rattle.theorem_demands.proofs.laws.Pictures.{shape_line_refuses, shape_frame_refuses, body_shape_line_refuses}
use Rattle.theorem_demands.proofs.laws.Pictures.{body_shape_frame_refuses, colour_line_refuses, colour_frame_refuses}
use Rattle.theorem_demands.proofs.laws.Pictures.{body_colour_line_refuses, body_colour_frame_refuses}
use Rattle.iff_refusal.specs.declared.Reason.{Reason}
use Rattle.iff_refusal.specs.Numbers.{refusing, number_of, number_in, place_in}

-- ---- a picture

picture_by_lem : (v : Viewed) → Refuses of_picture v → AnswerBy of_picture (picture_answer v)
picture_by_lem (found c) i = tt
picture_by_lem (refused k p) i = i

pub properties : (s : List ℕ) (i : ℕ) (k : Reason) (p : ℕ) → picture_of s i ≡ refusing k p → OneOf of_picture (number_of k) p
properties s i k p = told of_picture (picture_of s i) k p (picture_by_lem (view_of s i) (view_refuses s i))

palette_by_lem :
    (v : Viewed) (default : List ℕ) → Refuses of_picture v →
    let a = answer_in v default in OneOf (0 ∷ of_picture) (number_in a.refusal) (place_in a.refusal)
palette_by_lem (found c) default i = none_told of_picture
palette_by_lem (refused k p) default i = or_none of_picture (number_of k) p i

pub palette :
    (s : List ℕ) (i : ℕ) (default : List ℕ) →
    let a = palette_answer s i default in OneOf (0 ∷ of_picture) (number_in a.refusal) (place_in a.refusal)
palette s i default = palette_by_lem (view_of s i) default (view_refuses s i)

triples_by_lem :
    (v : Viewed) (default : List ℕ) → Refuses of_picture v →
    let a = triples_in v default in OneOf (0 ∷ of_picture) (number_in a.refusal) (place_in a.refusal)
triples_by_lem (found c) default i = none_told of_picture
triples_by_lem (refused k p) default i = or_none of_picture (number_of k) p i

pub triples :
    (s : List ℕ) (i : ℕ) (default : List ℕ) →
    let a = triples_of s i default in OneOf (0 ∷ of_picture) (number_in a.refusal) (place_in a.refusal)
triples s i default = triples_by_lem (view_of s i) default (view_refuses s i)

-- ---- its rows

read_by : {A : Type 0} (numbers : List ℕ) (r : Read A) → Refuses numbers r → AnswerBy numbers (line_answer r)
read_by numbers (found (a, q)) i = tt
read_by numbers (refused k p) i = i

read_told :
    {A : Type 0} (numbers : List ℕ) (r : Read A) (k : Reason) (p : ℕ) → Refuses numbers r → line_answer r ≡ refusing k p →
    OneOf numbers (number_of k) p
read_told numbers r k p i = told numbers (line_answer r) k p (read_by numbers r i)

pub line :
    (s : List ℕ) (i start room : ℕ) (k : Reason) (p : ℕ) → line_answer (line_of s i start room) ≡ refusing k p →
    OneOf of_line (number_of k) p
line s i start room k p = read_told of_line _ k p (scan_line_refuses s i start room)

pub frame :
    (s : List ℕ) (i room : ℕ) (k : Reason) (p : ℕ) → frame_answer (frame_of s i room) ≡ refusing k p → OneOf of_frame (number_of k) p
frame s i room k p = read_told of_frame _ k p (frame_refuses s i room)

pub body_line_lem :
    (body : List ℕ) (w planes masking compression start room : ℕ) (k : Reason) (p : ℕ) →
    line_answer (line_in_body body w planes masking compression start room) ≡ refusing k p → OneOf of_body_line (number_of k) p
body_line_lem body w planes masking compression start room k p =
    read_told of_body_line _ k p (body_line_refuses body w planes masking compression start room)

pub body_frame_lem :
    (body : List ℕ) (w h planes masking compression room : ℕ) (k : Reason) (p : ℕ) →
    frame_answer (frame_in_body body w h planes masking compression room) ≡ refusing k p → OneOf of_body_frame (number_of k) p
body_frame_lem body w h planes masking compression room k p =
    read_told of_body_frame _ k p (body_frame_refuses body w h planes masking compression room)

-- ---- with the shape

pub shape_line :
    (s : List ℕ) (i start room shapeRoom : ℕ) (k : Reason) (p : ℕ) → line_answer (shape_line_of s i start room shapeRoom) ≡ refusing k p →
    OneOf (and_shape of_line) (number_of k) p
shape_line s i start room shapeRoom k p = read_told (and_shape of_line) _ k p (shape_line_refuses s i start room shapeRoom)

pub shape_frame :
    (s : List ℕ) (i room shapeRoom : ℕ) (k : Reason) (p : ℕ) → frame_answer (shape_frame_of s i room shapeRoom) ≡ refusing k p →
    OneOf (and_shape of_frame) (number_of k) p
shape_frame s i room shapeRoom k p = read_told (and_shape of_frame) _ k p (shape_frame_refuses s i room shapeRoom)

pub body_shape_line_lem :
    (body : List ℕ) (w planes masking compression transparent start room shapeRoom : ℕ) (k : Reason) (p : ℕ) →
    line_answer (shape_line_in_body body w planes masking compression transparent start room shapeRoom) ≡ refusing k p →
    OneOf (and_shape of_body_line) (number_of k) p
body_shape_line_lem body w planes masking compression transparent start room shapeRoom k p =
    read_told (and_shape of_body_line) _ k p (body_shape_line_refuses body w planes masking compression transparent start room shapeRoom)

pub body_shape_frame_lem :
    (body : List ℕ) (w h planes masking compression transparent room shapeRoom : ℕ) (k : Reason) (p : ℕ) →
    frame_answer (shape_frame_in_body body w h planes masking compression transparent room shapeRoom) ≡ refusing k p →
    OneOf (and_shape of_body_frame) (number_of k) p
body_shape_frame_lem body w h planes masking compression transparent room shapeRoom k p =
    read_told (and_shape of_body_frame) _ k p (body_shape_frame_refuses body w h planes masking compression transparent room shapeRoom)

-- ---- in colours

pub colour_line :
    (s : List ℕ) (i : ℕ) (default : List ℕ) (start room : ℕ) (k : Reason) (p : ℕ) →
    line_answer (colour_line_of s i default start room) ≡ refusing k p → OneOf (and_colours of_line) (number_of k) p
colour_line s i default start room k p = read_told (and_colours of_line) _ k p (colour_line_refuses s i default start room)

pub colour_frame :
    (s : List ℕ) (i : ℕ) (default : List ℕ) (room : ℕ) (k : Reason) (p : ℕ) →
    frame_answer (colour_frame_of s i default room) ≡ refusing k p → OneOf (and_colours of_frame) (number_of k) p
colour_frame s i default room k p = read_told (and_colours of_frame) _ k p (colour_frame_refuses s i default room)

pub body_colour_line_lem :
    (body : List ℕ) (w planes masking compression mode : ℕ) (palette : List ℕ) (start room : ℕ) (k : Reason) (p : ℕ) →
    line_answer (colour_line_in_body body w planes masking compression mode palette start room) ≡ refusing k p →
    OneOf (and_colours of_body_line) (number_of k) p
body_colour_line_lem body w planes masking compression mode palette start room k p =
    read_told (and_colours of_body_line) _ k p (body_colour_line_refuses body w planes masking compression mode palette start room)

pub body_colour_frame_lem :
    (body : List ℕ) (w h planes masking compression mode : ℕ) (palette : List ℕ) (room : ℕ) (k : Reason) (p : ℕ) →
    frame_answer (colour_frame_in_body body w h planes masking compression mode palette room) ≡ refusing k p →
    OneOf (and_colours of_body_frame) (number_of k) p
body_colour_frame_lem body w h planes masking compression mode palette room k p =
    read_told (and_colours of_body_frame) _ k p (body_colour_frame_refuses body w h planes masking compression mode palette room)

-- ---- writing

abbrev WrittenBy : List ℕ → Result ℕ Reason → Type 0
WrittenBy numbers (Ok n) = Unit {0}
WrittenBy numbers (Err k) = OneOf numbers (number_of k) 0

write_choice :
    (numbers : List ℕ) (b : Bool) (k : Reason) (a : Result ℕ Reason) → among (number_of k) numbers ≡ true → WrittenBy numbers a →
    WrittenBy numbers (pick b (Err k) a)
write_choice numbers true k a i j = without_place numbers (number_of k) i
write_choice numbers false k a i j = j

pack_by : (row : List ℕ) (room : ℕ) → WrittenBy of_packing (pack_of row room)
unfolding among
pack_by row room = search write_choice

pack_number_lem : (a : Result ℕ Reason) → WrittenBy of_packing a → OneOf (0 ∷ of_packing) (pack_number a) 0
pack_number_lem (Ok n) i = none_told of_packing
pack_number_lem (Err k) i = or_none of_packing (number_of k) 0 i

pub pack : (row : List ℕ) (room : ℕ) → OneOf (0 ∷ of_packing) (pack_number (pack_of row room)) 0
pack row room = pack_number_lem (pack_of row room) (pack_by row room)

pub pack_refused : (row : List ℕ) (room : ℕ) (k : Reason) → pack_of row room ≡ Err k → OneOf of_packing (number_of k) 0
pack_refused row room k e = subst (WrittenBy of_packing) e (pack_by row room)

write_by : (b : BitmapHeader) (palette frame shape : List ℕ) (room : ℕ) → WrittenBy of_writing (write_of b palette frame shape room)
unfolding among
write_by b palette frame shape room = search write_choice depth 6

pub write :
    (b : BitmapHeader) (palette frame shape : List ℕ) (room : ℕ) (k : Reason) → write_of b palette frame shape room ≡ Err k →
    OneOf of_writing (number_of k) 0
write b palette frame shape room k e = subst (WrittenBy of_writing) e (write_by b palette frame shape room)
