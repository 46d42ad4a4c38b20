-- 01's numbers: which of them each call may refuse with, and which are told with a place. Each set stands here alone.
use Rattle.std.specs.Prelude.{ℕ, ◌≡◌, Bool, true, false, List, [], ◌∷◌, ◌++◌, eqb}
use Rattle.iff_name.specs.Name.{either}

-- "Order of checks and numbers": the table, but for 13
abbrev pub structural : List ℕ
structural = 1 ∷ 2 ∷ 3 ∷ 4 ∷ 5 ∷ 6 ∷ 7 ∷ 8 ∷ 9 ∷ 10 ∷ 11 ∷ 12 ∷ []

-- "1 to 12 come before 13, 14 and 15"; "one record asked by its number (14 if there is none)"
abbrev pub of_record : List ℕ
of_record = structural ++ (14 ∷ [])

-- "it gives 14 for no such record, 15 for a group"
abbrev pub of_data : List ℕ
of_data = structural ++ (14 ∷ 15 ∷ [])

-- 13: "accepted, but the lent table has fewer places than chunks"; of the table of pictures, than pictures
abbrev pub of_table : List ℕ
of_table = structural ++ (13 ∷ [])

-- "Refusals 1 to 12, then 32."
abbrev pub of_copy : List ℕ
of_copy = structural ++ (32 ∷ [])

-- "After the structure refusals, in this order": the table of "Pictures", as far as no rows are asked, with Ask 2's "41, 42, 43, 24, where
-- 24 stood"
abbrev pub of_picture : List ℕ
of_picture = structural ++ (20 ∷ 21 ∷ 22 ∷ 23 ∷ 41 ∷ 42 ∷ 43 ∷ 24 ∷ [])

-- "at one code byte 27 comes before 26"
abbrev pub of_rows : List ℕ
of_rows = 27 ∷ 26 ∷ []

-- the rest of that table, where a scan line is asked; a frame has no start place, so no 29
abbrev pub of_line : List ℕ
of_line = of_picture ++ (25 ∷ 29 ∷ 28 ∷ of_rows)

abbrev pub of_frame : List ℕ
of_frame = of_picture ++ (25 ∷ 28 ∷ of_rows)

-- Ask 2's "41, 42, 43, 24" alone, of a header's fields that are handed over as numbers with a BODY; then that BODY's rows. There is a
-- BODY, so no 25.
abbrev pub of_fields : List ℕ
of_fields = 41 ∷ 42 ∷ 43 ∷ 24 ∷ []

abbrev pub of_body_line : List ℕ
of_body_line = of_fields ++ (29 ∷ 28 ∷ of_rows)

abbrev pub of_body_frame : List ℕ
of_body_frame = of_fields ++ (28 ∷ of_rows)

-- Ask 4's "44, only where the shape is asked", beside the numbers of the same line or frame without it
abbrev pub and_shape : List ℕ → List ℕ
and_shape numbers = 44 ∷ numbers

-- Ask 5's "Refusals, colours only: 46", likewise
abbrev pub and_colours : List ℕ → List ℕ
and_colours numbers = 46 ∷ numbers

-- "a row of 1 to 8,192 bytes (else 31)"; "32, here and everywhere"
abbrev pub of_packing : List ℕ
of_packing = 31 ∷ 32 ∷ []

-- "Refusals in order: 33 .., 34 .., 35 .., 32.", and Ask 4's "45 after 34"
abbrev pub of_writing : List ℕ
of_writing = 33 ∷ 34 ∷ 45 ∷ 35 ∷ 32 ∷ []

-- "A refusal returns the number and p (0 for 1, 2, 13 and every later number unless said below)"; "26 and 27 return the place"
abbrev pub placed : List ℕ
placed = 3 ∷ 4 ∷ 5 ∷ 6 ∷ 7 ∷ 8 ∷ 9 ∷ 10 ∷ 11 ∷ 12 ∷ 26 ∷ 27 ∷ []

unfoldable pub among : ℕ → List ℕ → Bool
among k [] = false
among k (n ∷ ns) = either (eqb k n) (among k ns)

-- A refusal by one of these numbers: k is one of them, and it is told with a place or p is 0.
abbrev pub OneOf : List ℕ → ℕ → ℕ → Type 0
OneOf numbers k p = (among k numbers ≡ true) × (either (among k placed) (eqb p 0) ≡ true)
