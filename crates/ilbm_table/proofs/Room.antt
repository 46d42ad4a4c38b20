-- Rows that are put one after the other: those of a list and then those of another, and, where there is room for all, their numbers one
-- behind the other.
use Prim.Native.Nat.{ℕ, zero, suc, ◌+◌, ◌-◌, ◌*◌, ◌≤◌, ◌<◌}
use mathlib.Core.Path.{◌≡◌, refl, sym, ap, ap₂, ◌∙◌}
use mathlib.Core.List.{List, [], ◌∷◌, ◌++◌}
use lib.ListN.{length}
use native.Mathlib.Omega.{arith}
use borrow.Author.Tests.{lt-ltb, le-ltb}
use Rattle.ilbm_spec.specs.Contents.{Content}
use Rattle.ilbm_spec.specs.Table.{PictureRow, picture_row, picture_rows, row_numbers, table_numbers}
use Rattle.ilbm_table_row.specs.Put.{put_at}
use Rattle.ilbm_table_row.proofs.Put.{put_length, put_more}
use Rattle.ilbm_table.specs.Filling.{Filled, filled, put_row, put_rows}

pub rows_append : (cs ds : List Content) (x : Filled) → put_rows (cs ++ ds) x ≡ put_rows ds (put_rows cs x)
unfolding put_rows
rows_append [] ds x = refl
rows_append (c ∷ cs) ds x = rows_append cs ds (put_row c x)

pub no_room : (c : Content) (t : List ℕ) (n : ℕ) → length t - n < 30 → filled t n ≡ put_row c (filled t n)
unfolding put_row
no_room c t n l = rw (lt-ltb (length t - n) 30 l)

pub has_room : (c : Content) (t : List ℕ) (n : ℕ) → 30 ≤ length t - n →
    filled (put_at n (row_numbers (picture_row c)) t) (n + 30) ≡ put_row c (filled t n)
unfolding put_row
has_room c t n l = rw (le-ltb (length t - n) 30 l)

pub row_30 : (r : PictureRow) → length (row_numbers r) ≡ 30
unfolding row_numbers
row_30 r = refl

nothing_put : (n : ℕ) (t : List ℕ) → n ≤ length t → put_at n [] t ≡ t
unfolding put_at
nothing_put zero t l = refl
nothing_put (suc n) [] l = absurd (omega arith)
nothing_put (suc n) (y ∷ t) l = ap (λ (r : List ℕ). y ∷ r) (nothing_put n t (omega arith))

pub all_put : (cs : List Content) (t : List ℕ) (n : ℕ) → n + 30 * length cs ≤ length t →
    put_rows cs (filled t n) ≡ filled (put_at n (table_numbers (picture_rows cs)) t) (n + 30 * length cs)
unfolding put_rows picture_rows table_numbers
all_put [] t n l =
    let i : n ≡ n + 30 * 0 = omega arith in
    ap₂ filled (sym (nothing_put n t (omega arith))) i
all_put (c ∷ cs) t n l =
    let row : List ℕ = row_numbers (picture_row c) in
    let k : length row ≡ 30 = row_30 (picture_row c) in
    let one : put_row c (filled t n) ≡ filled (put_at n row t) (n + 30) = sym (has_room c t n (omega arith)) in
    let same : length (put_at n row t) ≡ length t = put_length n row t (omega (arith, k)) in
    let rest = all_put cs (put_at n row t) (n + 30) (omega (arith, same)) in
    let both = put_more n (n + 30) row (table_numbers (picture_rows cs)) t (omega (arith, k)) (omega (arith, k)) in
    let far : n + 30 + 30 * length cs ≡ n + 30 * length (c ∷ cs) = omega arith in
    ap (put_rows cs) one ∙ rest ∙ ap₂ filled both far

pub rows_count : (cs : List Content) → length (picture_rows cs) ≡ length cs
unfolding picture_rows
rows_count [] = refl
rows_count (c ∷ cs) = ap suc (rows_count cs)
