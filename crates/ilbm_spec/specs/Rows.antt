-- 01 "Rows": the scan line and the frame of a picture.
use Rattle.std.specs.Prelude.{ℕ, zero, suc, ◌+◌, ◌-◌, ◌*◌, ◌/◌, ◌%◌, ◌^◌, Bool, not, List, [], ◌∷◌, ◌++◌, ltb, eqb, length, get_or, take}
use Rattle.iff_name.specs.Name.{pick}
use Rattle.byterun_row.specs.ByteRun.{Row, filled, over, short, row_of}
use Rattle.ilbm_spec.specs.declared.BitmapHeader.{BitmapHeader}
use Rattle.iff_tree.specs.Judge.{Found, found, refused}
use Rattle.ilbm_spec.specs.Contents.{Located, Content}
use Rattle.ilbm_spec.specs.Pictures.{Viewed, passing, view_of, data_of, header_in, empty_fields, fields_refusal}
use Rattle.iff_refusal.specs.declared.Reason.TheVariants.{NoBody, BodyEnds, RowOverstepped, WrongLength, BeyondBody}
use Rattle.iff_refusal.specs.Numbers.{Answer, refusing}
use Rattle.std.specs.Prelude.{Ok}

-- "A plane row is 2 * floor((w+15)/16) bytes."
abbrev pub row_length : ℕ → ℕ
row_length w = 2 * ((w + 15) / 16)

-- "A scan line is one row for each plane, plane 0 first, then a mask row if masking is 1"
abbrev pub mask_rows : ℕ → ℕ
mask_rows masking = pick (eqb masking 1) 1 0

abbrev pub rows_in_line : ℕ → ℕ → ℕ
rows_in_line planes masking = planes + mask_rows masking

-- What reading comes to: a value and the next place, or the number and place of a refusal.
abbrev pub Read : Type 0 → Type 0
Read A = Found (A × ℕ)

abbrev pub then_read : {A B : Type 0} → Read A → (A → ℕ → Read B) → Read B
then_read (found (a, q)) f = f a q
then_read (refused k p) f = refused k p

-- what is read with no refusal
abbrev pub IsRead : {A : Type 0} → Read A → Type 0
IsRead (found (a, q)) = Unit {0}
IsRead (refused k p) = ⊥

-- a plane row: 27 where a copy or repeat oversteps it, 26 where the BODY ends before it is full
abbrev pub row_read : Row → Read (List ℕ)
row_read (filled bs q) = found (bs, q)
row_read (over q) = refused RowOverstepped q
row_read (short q) = refused BodyEnds q

-- so many plane rows of n bytes, one after the other: "Faults 26 and 27 are met in row order"
unfoldable pub rows_from : ℕ → List ℕ → ℕ → ℕ → ℕ → Read (List (List ℕ))
rows_from compression body n zero at = found ([], at)
rows_from compression body n (suc rows) at =
    then_read (row_read (row_of compression body at n)) (λ bs q.
    then_read (rows_from compression body n rows q) (λ rest r. found ((bs ∷ rest), r)))

-- "the bit 7 - (x mod 8) of byte floor(x/8)"
abbrev pub bit_at : List ℕ → ℕ → ℕ
bit_at row x = get_or row (x / 8) 0 / 2 ^ (7 - x % 8) % 2

-- "Pixel x has in plane k the bit .., with weight 2^k": the planes from the one of this weight on
unfoldable pub colour_by : ℕ → ℕ → List (List ℕ) → ℕ
colour_by weight x [] = 0
colour_by weight x (row ∷ rows) = bit_at row x * weight + colour_by (weight * 2) x rows

-- the colour numbers of n pixels from x on
unfoldable pub colours_from : ℕ → ℕ → List (List ℕ) → List ℕ
colours_from x zero planes = []
colours_from x (suc n) planes = colour_by 1 x planes ∷ colours_from (suc x) n planes

-- What is made of the plane rows of a scan line, and the colour numbers as the first of it: the mask row "must be sound, and is stepped
-- over".
abbrev pub Pixels : Type 0
Pixels = List (List ℕ) → List ℕ

abbrev pub colour_numbers : ℕ → ℕ → Pixels
colour_numbers w planes plane_rows = colours_from 0 w (take planes plane_rows)

-- a scan line of so many rows of n bytes, from a place of the BODY: what is made of them, and the next place
abbrev pub line_with : Pixels → ℕ → ℕ → ℕ → List ℕ → ℕ → Read (List ℕ)
line_with pixels compression n rows body at = then_read (rows_from compression body n rows at) (λ plane_rows q. found (pixels plane_rows, q))

-- so many scan lines, one after the other
unfoldable pub lines_with : Pixels → ℕ → ℕ → ℕ → List ℕ → ℕ → ℕ → Read (List ℕ)
lines_with pixels compression n rows body zero at = found ([], at)
lines_with pixels compression n rows body (suc lines) at =
    then_read (line_with pixels compression n rows body at) (λ cs q.
    then_read (lines_with pixels compression n rows body lines q) (λ rest r. found ((cs ++ rest), r)))

-- the same of colour numbers
abbrev pub line_by : ℕ → ℕ → ℕ → ℕ → List ℕ → ℕ → Read (List ℕ)
line_by compression w planes rows body at = line_with (colour_numbers w planes) compression (row_length w) rows body at

abbrev pub lines_by : ℕ → ℕ → ℕ → ℕ → List ℕ → ℕ → ℕ → Read (List ℕ)
lines_by compression w planes rows body lines at = lines_with (colour_numbers w planes) compression (row_length w) rows body lines at

-- "with the leftover BODY bytes counted": of a BODY of n bytes, instead of the place after the last line
abbrev pub leftover : {A : Type 0} → ℕ → Read A → Read A
leftover n (found (a, q)) = found (a, n - q)
leftover n (refused k p) = refused k p

-- 29: "start place beyond the BODY's end"
abbrev pub start_inside : {A : Type 0} → List ℕ → ℕ → Read A → Read A
start_inside body start line = pick (ltb (length body) start) (refused BeyondBody 0) line

-- 28: "lent row not exactly w bytes, or lent frame not w times h"
abbrev pub right_length : {A : Type 0} → Bool → Read A → Read A
right_length right rows = pick (not right) (refused WrongLength 0) rows

-- A scan line of a BODY, by its header's numbers, for a lent row of `room` bytes: 29, 28, then 27 and 26. "A scan line is read from a
-- place in the BODY and returns the next place".
abbrev pub body_line : List ℕ → ℕ → ℕ → ℕ → ℕ → ℕ → ℕ → Read (List ℕ)
body_line body w planes masking compression start room =
    start_inside body start (right_length (eqb room w) (line_by compression w planes (rows_in_line planes masking) body start))

-- A frame likewise: 28, then 27 and 26. "a whole frame is h scan lines from place 0, with the leftover BODY bytes counted"
abbrev pub body_frame : List ℕ → ℕ → ℕ → ℕ → ℕ → ℕ → ℕ → Read (List ℕ)
body_frame body w h planes masking compression room =
    right_length (eqb room (w * h))
    (leftover (length body) (lines_by compression w planes (rows_in_line planes masking) body h 0))

-- A scan line of any bytes as a BODY, with the header's fields as numbers: 41, 42, 43 or 24 for these fields, and otherwise what is read. It is one row of its picture, so of the three that may not be 0 it has w and the planes.
abbrev pub line_in_body : List ℕ → ℕ → ℕ → ℕ → ℕ → ℕ → ℕ → Read (List ℕ)
line_in_body body w planes masking compression start room =
    passing (fields_refusal planes masking compression (empty_fields w 1 planes)) (body_line body w planes masking compression start room)

abbrev pub frame_in_body : List ℕ → ℕ → ℕ → ℕ → ℕ → ℕ → ℕ → Read (List ℕ)
frame_in_body body w h planes masking compression room =
    passing (fields_refusal planes masking compression (empty_fields w h planes)) (body_frame body w h planes masking compression room)

-- Rows are asked of a picture: 25 for no BODY, and otherwise what `rows` says of it and its BODY.
abbrev pub on_body : {A : Type 0} → List Located → (List ℕ → Read A) → Read A
on_body [] rows = refused NoBody 0
on_body (body ∷ others) rows = rows body.content

abbrev pub ask_body : {A : Type 0} → Viewed → (Content → List ℕ → Read A) → Read A
ask_body (found c) rows = on_body c.bodies (λ body. rows c body)
ask_body (refused k p) rows = refused k p

-- the same where of the picture nothing but its header is looked at
abbrev pub ask_rows : {A : Type 0} → Viewed → (BitmapHeader → List ℕ → Read A) → Read A
ask_rows v rows = ask_body v (λ c body. rows (header_in (data_of c.bmhd)) body)

abbrev pub line_read : Viewed → ℕ → ℕ → Read (List ℕ)
line_read v start room = ask_rows v (λ b body. body_line body b.w b.planes b.masking b.compression start room)

abbrev pub frame_read : Viewed → ℕ → Read (List ℕ)
frame_read v room = ask_rows v (λ b body. body_frame body b.w b.h b.planes b.masking b.compression room)

-- what is told, and what stands in the lent row or frame afterwards: a refusal changes nothing
abbrev pub line_answer : {A : Type 0} → Read A → Answer ℕ
line_answer (found (a, q)) = Ok q
line_answer (refused k p) = refusing k p

abbrev pub frame_answer : {A : Type 0} → Read A → Answer ℕ
frame_answer rows = line_answer rows

abbrev pub bytes_after : Read (List ℕ) → List ℕ → List ℕ
bytes_after (found (cs, q)) old = cs
bytes_after (refused k p) old = old

-- The scan line of picture i from a place, and the frame of picture i, for a lent row or frame.
abbrev pub line_of : List ℕ → ℕ → ℕ → ℕ → Read (List ℕ)
line_of s i start room = line_read (view_of s i) start room

abbrev pub frame_of : List ℕ → ℕ → ℕ → Read (List ℕ)
frame_of s i room = frame_read (view_of s i) room
