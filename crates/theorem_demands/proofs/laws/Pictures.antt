-- A picture is refused by the file's numbers and by those of pictures: its checks pass or have one of these. Rows are asked of such a
-- picture, and each row that is read is whole or refused by 27 or 26, so are rows and scan lines one after the other, whatever is made of
-- them, read once, or twice for the shape too. Of a BODY by itself they are asked after its header's fields, whose check passes or has one
-- of four.
use Rattle.std.specs.Prelude.{ℕ, zero, suc, ◌≡◌, refl, Bool, true, false, List, [], ◌∷◌, Result, Ok, Err}
use Rattle.iff_name.specs.Name.{pick}
use Rattle.iff_chunk.specs.Chunks.{Chunk}
use Rattle.iff_tree.specs.Judge.{Found, found, refused, read_file}
use Rattle.byterun_row.specs.ByteRun.{Row, filled, over, short}
use Rattle.ilbm_spec.specs.declared.BitmapHeader.{BitmapHeader}
use Rattle.ilbm_spec.specs.Contents.{Located, Content, contents_of}
use Rattle.ilbm_spec.specs.Pictures.{Viewed, fields_refusal, header_refusal, picture_refusal, passing, judged, pick_content, view_in, view_of}
use Rattle.ilbm_spec.specs.Rows.{Read, then_read, row_read, rows_from, Pixels, line_with, lines_with, leftover, line_in_body, frame_in_body}
use Rattle.ilbm_spec.specs.Rows.{on_body, ask_body, line_of, frame_of}
use Rattle.ilbm_spec.specs.Shapes.{shape_line_of, shape_frame_of, shape_line_in_body, shape_frame_in_body}
use Rattle.ilbm_spec.specs.Colours.{colour_line_of, colour_frame_of, colour_line_in_body, colour_frame_in_body}
use Rattle.theorem_demands.specs.Numbers.{structural, of_picture, of_rows, of_line, of_frame, of_fields, of_body_line, of_body_frame}
use Rattle.theorem_demands.specs.Numbers.{and_shape, and_colours, among, OneOf}
use Rattle.theorem_demands.proofs.laws.Numbers.{Refuses, without_place, choice_refuses, within, among_within, widened}
use Rattle.theorem_demands.proofs.laws.Structure.{file_refuses}
use Rattle.iff_refusal.specs.declared.Reason.{Reason}
use Rattle.iff_refusal.specs.declared.Reason.TheVariants.{NoBody}
use Rattle.iff_refusal.specs.Numbers.{number_of}

-- ---- the picture

-- a check that passes, or refuses by one of these numbers
abbrev PassesOr : List ℕ → Result (Unit {0}) Reason → Type 0
PassesOr numbers (Ok u) = Unit {0}
PassesOr numbers (Err k) = among (number_of k) numbers ≡ true

check_choice :
    (numbers : List ℕ) (b : Bool) (x y : Result (Unit {0}) Reason) → PassesOr numbers x → PassesOr numbers y → PassesOr numbers (pick b x y)
check_choice numbers true x y i j = i
check_choice numbers false x y i j = j

field_number : (planes masking compression : ℕ) (empty : Bool) → PassesOr of_fields (fields_refusal planes masking compression empty)
unfolding fields_refusal among
field_number planes masking compression empty = search check_choice

more_numbers : (xs ys : List ℕ) → within xs ys ≡ true → (x : Result (Unit {0}) Reason) → PassesOr xs x → PassesOr ys x
more_numbers xs ys w (Ok u) i = tt
more_numbers xs ys w (Err k) i = among_within xs ys (number_of k) w i

fields_number :
    (numbers : List ℕ) (planes masking compression : ℕ) (empty : Bool) → within of_fields numbers ≡ true →
    PassesOr numbers (fields_refusal planes masking compression empty)
fields_number numbers planes masking compression empty w =
    more_numbers of_fields numbers w (fields_refusal planes masking compression empty) (field_number planes masking compression empty)

header_number : (b : BitmapHeader) (hasBody : Bool) → PassesOr of_picture (header_refusal b hasBody)
unfolding header_refusal within among
header_number b hasBody = fields_number of_picture b.planes b.masking b.compression _ refl

picture_number : (c : Content) → PassesOr of_picture (picture_refusal c)
unfolding picture_refusal among
picture_number c = search (check_choice, header_number)

-- what is found behind such a check
passing_refuses :
    {A : Type 0} (numbers : List ℕ) (r : Result (Unit {0}) Reason) (x : Found A) → PassesOr numbers r → Refuses numbers x →
    Refuses numbers (passing r x)
passing_refuses numbers (Ok u) x i j = j
passing_refuses numbers (Err k) x i j = without_place numbers (number_of k) i

judged_refuses : (c : Content) → Refuses of_picture (judged c)
judged_refuses c = passing_refuses of_picture (picture_refusal c) (found c) (picture_number c) tt

pick_refuses : (cs : List Content) (i : ℕ) → Refuses of_picture (pick_content cs i)
unfolding pick_content among
pick_refuses [] i = (refl, refl)
pick_refuses (c ∷ cs) zero = judged_refuses c
pick_refuses (c ∷ cs) (suc i) = pick_refuses cs i

in_file_lem : (f : Found Chunk) (i : ℕ) → Refuses structural f → Refuses of_picture (view_in f i)
unfolding within among
in_file_lem (found c) i r = pick_refuses (contents_of c) i
in_file_lem (refused k p) i r = widened {A = Chunk} structural of_picture refl (refused k p) r

pub view_refuses : (s : List ℕ) (i : ℕ) → Refuses of_picture (view_of s i)
view_refuses s i = in_file_lem (read_file s) i (file_refuses s)

-- ---- rows

row_refuses : (r : Row) → Refuses of_rows (row_read r)
unfolding among
row_refuses (filled bs q) = tt
row_refuses (over q) = (refl, refl)
row_refuses (short q) = (refl, refl)

read_refuses :
    {A B : Type 0} (numbers : List ℕ) (x : Read A) (f : A → ℕ → Read B) → Refuses numbers x → ((a : A) (q : ℕ) → Refuses numbers (f a q)) →
    Refuses numbers (then_read x f)
read_refuses numbers (found (a, q)) f i j = j a q
read_refuses numbers (refused k p) f i j = i

rows_refuse : (compression : ℕ) (body : List ℕ) (n rows at : ℕ) → Refuses of_rows (rows_from compression body n rows at)
unfolding rows_from
rows_refuse compression body n zero at = tt
rows_refuse compression body n (suc rows) at =
    let rest : (q : ℕ) → Refuses of_rows (rows_from compression body n rows q) = λ q. rows_refuse compression body n rows q in
    search (read_refuses, row_refuses, rest)

line_refuses :
    (pixels : Pixels) (compression n rows : ℕ) (body : List ℕ) (at : ℕ) → Refuses of_rows (line_with pixels compression n rows body at)
line_refuses pixels compression n rows body at = search (read_refuses, rows_refuse)

lines_refuse :
    (pixels : Pixels) (compression n rows : ℕ) (body : List ℕ) (lines at : ℕ) →
    Refuses of_rows (lines_with pixels compression n rows body lines at)
unfolding lines_with
lines_refuse pixels compression n rows body zero at = tt
lines_refuse pixels compression n rows body (suc lines) at =
    let rest : (q : ℕ) → Refuses of_rows (lines_with pixels compression n rows body lines q) =
    λ q. lines_refuse pixels compression n rows body lines q in
    search (read_refuses, line_refuses, rest)

-- ---- rows asked of a picture

body_refuses :
    {A : Type 0} (numbers : List ℕ) (rows : List ℕ → Read A) →
    OneOf numbers (number_of NoBody) 0 → ((body : List ℕ) → Refuses numbers (rows body)) →
    (bodies : List Located) → Refuses numbers (on_body bodies rows)
body_refuses numbers rows i j [] = i
body_refuses numbers rows i j (body ∷ others) = j body.content

asked_refuses :
    {A : Type 0} (numbers : List ℕ) (v : Viewed) (rows : Content → List ℕ → Read A) → within of_picture numbers ≡ true →
    OneOf numbers (number_of NoBody) 0 → Refuses of_picture v → ((c : Content) (body : List ℕ) → Refuses numbers (rows c body)) →
    Refuses numbers (ask_body v rows)
asked_refuses numbers (found c) rows w i j each = search (body_refuses, each)
asked_refuses numbers (refused k p) rows w i j each = widened {A = Content} of_picture numbers w (refused k p) j

leftover_refuses : {A : Type 0} (numbers : List ℕ) (n : ℕ) (x : Read A) → Refuses numbers x → Refuses numbers (leftover n x)
leftover_refuses numbers n (found (a, q)) i = tt
leftover_refuses numbers n (refused k p) i = i

of_line_lem :
    (numbers : List ℕ) (pixels : Pixels) (compression n rows : ℕ) (body : List ℕ) (at : ℕ) → within of_rows numbers ≡ true →
    Refuses numbers (line_with pixels compression n rows body at)
of_line_lem numbers pixels compression n rows body at i =
    widened of_rows numbers i (line_with pixels compression n rows body at) (line_refuses pixels compression n rows body at)

of_lines :
    (numbers : List ℕ) (pixels : Pixels) (compression n rows : ℕ) (body : List ℕ) (lines at : ℕ) → within of_rows numbers ≡ true →
    Refuses numbers (lines_with pixels compression n rows body lines at)
of_lines numbers pixels compression n rows body lines at i =
    widened of_rows numbers i (lines_with pixels compression n rows body lines at) (lines_refuse pixels compression n rows body lines at)

pub scan_line_refuses : (s : List ℕ) (i start room : ℕ) → Refuses of_line (line_of s i start room)
unfolding within among
scan_line_refuses s i start room = search (asked_refuses, view_refuses, choice_refuses, of_line_lem)

pub frame_refuses : (s : List ℕ) (i room : ℕ) → Refuses of_frame (frame_of s i room)
unfolding within among
frame_refuses s i room = search (asked_refuses, view_refuses, choice_refuses, leftover_refuses, of_lines)

-- ---- rows of a BODY by itself

pub body_line_refuses :
    (body : List ℕ) (w planes masking compression start room : ℕ) →
    Refuses of_body_line (line_in_body body w planes masking compression start room)
unfolding within among
body_line_refuses body w planes masking compression start room =
    search (passing_refuses, fields_number, choice_refuses, of_line_lem)

pub body_frame_refuses :
    (body : List ℕ) (w h planes masking compression room : ℕ) →
    Refuses of_body_frame (frame_in_body body w h planes masking compression room)
unfolding within among
body_frame_refuses body w h planes masking compression room =
    search (passing_refuses, fields_number, choice_refuses, leftover_refuses, of_lines)

-- ---- with the shape

pub shape_line_refuses : (s : List ℕ) (i start room shapeRoom : ℕ) → Refuses (and_shape of_line) (shape_line_of s i start room shapeRoom)
unfolding within among
shape_line_refuses s i start room shapeRoom = search (asked_refuses, view_refuses, choice_refuses, read_refuses, of_line_lem) depth 8

pub shape_frame_refuses : (s : List ℕ) (i room shapeRoom : ℕ) → Refuses (and_shape of_frame) (shape_frame_of s i room shapeRoom)
unfolding within among
shape_frame_refuses s i room shapeRoom =
    search (asked_refuses, view_refuses, choice_refuses, leftover_refuses, read_refuses, of_lines) depth 8

pub body_shape_line_refuses :
    (body : List ℕ) (w planes masking compression transparent start room shapeRoom : ℕ) →
    Refuses (and_shape of_body_line) (shape_line_in_body body w planes masking compression transparent start room shapeRoom)
unfolding within among
body_shape_line_refuses body w planes masking compression transparent start room shapeRoom =
    search (passing_refuses, fields_number, choice_refuses, read_refuses, of_line_lem) depth 8

pub body_shape_frame_refuses :
    (body : List ℕ) (w h planes masking compression transparent room shapeRoom : ℕ) →
    Refuses (and_shape of_body_frame) (shape_frame_in_body body w h planes masking compression transparent room shapeRoom)
unfolding within among
body_shape_frame_refuses body w h planes masking compression transparent room shapeRoom =
    search (passing_refuses, fields_number, choice_refuses, leftover_refuses, read_refuses, of_lines) depth 8

-- ---- in colours

pub colour_line_refuses :
    (s : List ℕ) (i : ℕ) (default : List ℕ) (start room : ℕ) → Refuses (and_colours of_line) (colour_line_of s i default start room)
unfolding within among
colour_line_refuses s i default start room = search (asked_refuses, view_refuses, choice_refuses, of_line_lem) depth 8

pub colour_frame_refuses :
    (s : List ℕ) (i : ℕ) (default : List ℕ) (room : ℕ) → Refuses (and_colours of_frame) (colour_frame_of s i default room)
unfolding within among
colour_frame_refuses s i default room = search (asked_refuses, view_refuses, choice_refuses, leftover_refuses, of_lines) depth 8

pub body_colour_line_refuses :
    (body : List ℕ) (w planes masking compression mode : ℕ) (palette : List ℕ) (start room : ℕ) →
    Refuses (and_colours of_body_line) (colour_line_in_body body w planes masking compression mode palette start room)
unfolding within among
body_colour_line_refuses body w planes masking compression mode palette start room =
    search (passing_refuses, fields_number, choice_refuses, of_line_lem) depth 8

pub body_colour_frame_refuses :
    (body : List ℕ) (w h planes masking compression mode : ℕ) (palette : List ℕ) (room : ℕ) →
    Refuses (and_colours of_body_frame) (colour_frame_in_body body w h planes masking compression mode palette room)
unfolding within among
body_colour_frame_refuses body w h planes masking compression mode palette room =
    search (passing_refuses, fields_number, choice_refuses, leftover_refuses, of_lines) depth 8
