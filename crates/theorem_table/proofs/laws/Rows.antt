-- Row i of a table is that of picture i: each row has 30 numbers, so the i-th begins behind 30 i of them, and the first is read as it was
-- put there. So what holds of the row of any picture and that picture holds of row i and what picture i shows.
use Rattle.std.specs.Prelude.{ℕ, zero, suc, ◌+◌, ◌*◌, ◌<◌, ◌≤◌, ◌≡◌, refl, List, [], ◌∷◌, ◌++◌, length, get_or}
use Rattle.std.proofs.Common.{ap, ◌∙◌, append_assoc, arith, get_or-append-add}
use Rattle.iff_tree.specs.Judge.{refused}
use Rattle.ilbm_spec.specs.Contents.{Content}
use Rattle.ilbm_spec.specs.Pictures.{Viewed, judged, pick_content}
use Rattle.ilbm_spec.specs.Table.{PictureRow, picture_row, picture_rows, row_numbers, table_numbers}
use Rattle.theorem_table.specs.ByTable.{row_in, row_at}
use Rattle.theorem_table.specs.Lies.{ContentLies, ContentsLie}
use Rattle.iff_refusal.specs.declared.Reason.TheVariants.{NoPicture}

-- the first row, and those behind it
first_row : (r : PictureRow) (rest : List ℕ) → row_at (row_numbers r ++ rest) 0 ≡ r
unfolding row_numbers
first_row r rest = refl

thirty : (r : PictureRow) → length (row_numbers r) ≡ 30
unfolding row_numbers
thirty r = refl

later_row : (r : PictureRow) (rest : List ℕ) (i : ℕ) → row_at (row_numbers r ++ rest) (suc i) ≡ row_at rest i
later_row r rest i j = row_in (λ k. one k j)
  where
    one : (k : ℕ) → get_or (row_numbers r ++ rest) (30 * suc i + k) 0 ≡ get_or rest (30 * i + k) 0
    one k =
        let len = thirty r in
        let e : 30 * suc i + k ≡ length (row_numbers r) + (30 * i + k) = omega arith in
        ap (λ (n : ℕ). get_or (row_numbers r ++ rest) n 0) e ∙ get_or-append-add (row_numbers r) rest (30 * i + k) 0

pub count_rows : (cs : List Content) → length (picture_rows cs) ≡ length cs
unfolding picture_rows
count_rows [] = refl
count_rows (c ∷ cs) = ap suc (count_rows cs)

pub row_shows :
    (s : List ℕ) (P : PictureRow → Viewed → Type 0) → ((c : Content) → ContentLies s c → P (picture_row c) (judged c)) →
    (rest : List ℕ) (cs : List Content) → ContentsLie s cs → (i : ℕ) → i < length cs →
    P (row_at (table_numbers (picture_rows cs) ++ rest) i) (pick_content cs i)
unfolding picture_rows table_numbers pick_content
row_shows s P one rest [] l i h = absurd (omega arith)
row_shows s P one rest (c ∷ cs) l zero h =
    rw (append_assoc (row_numbers (picture_row c)) (table_numbers (picture_rows cs)) rest)
    (rw (first_row (picture_row c) (table_numbers (picture_rows cs) ++ rest)) (one c l.0))
row_shows s P one rest (c ∷ cs) l (suc i) h =
    rw (append_assoc (row_numbers (picture_row c)) (table_numbers (picture_rows cs)) rest)
    (rw (later_row (picture_row c) (table_numbers (picture_rows cs) ++ rest) i) (row_shows s P one rest cs l.1 i (omega arith)))

pub no_more : (cs : List Content) (i : ℕ) → length cs ≤ i → pick_content cs i ≡ refused NoPicture 0
unfolding pick_content
no_more [] i h = refl
no_more (c ∷ cs) zero h = absurd (omega arith)
no_more (c ∷ cs) (suc i) h = no_more cs i (omega arith)
