-- The rows that stand in a buffer are those of the planes and then the mask row, so what is gathered of either is what the line shows.
use Prim.Native.Nat.{ℕ, zero, suc, ◌+◌, ◌*◌, ◌≤◌}
use mathlib.Core.Path.{◌≡◌, refl, ap}
use mathlib.Core.List.{List, ◌∷◌}
use lib.ListN.{take, drop}
use native.Mathlib.Omega.{arith}
use Rattle.iff_tree.specs.Judge.{found}
use Rattle.ilbm_spec.specs.Rows.{row_length, mask_rows, rows_in_line, IsRead, rows_from, colours_from, line_with, line_by}
use Rattle.ilbm_spec.specs.Shapes.{shape_by, shape_bits}
use Rattle.ilbm_gather.specs.Buffer.{rows_in}

-- the first rows of a buffer, and those behind them
rows_first : (n p m k : ℕ) (buffer : List ℕ) → take p (rows_in n (p + m) k buffer) ≡ rows_in n p k buffer
unfolding rows_in
rows_first n zero m k buffer = refl
rows_first n (suc p) m k buffer =
    let e : suc p + m ≡ suc (p + m) = omega arith in
    rw e (ap (λ (l : List (List ℕ)). take n (drop (k * n) buffer) ∷ l) (rows_first n p m (suc k) buffer))

rows_behind : (n p m k : ℕ) (buffer : List ℕ) → drop p (rows_in n (p + m) k buffer) ≡ rows_in n m (p + k) buffer
unfolding rows_in
rows_behind n zero m k buffer =
    let e : 0 + m ≡ m = omega arith in
    let f : 0 + k ≡ k = omega arith in
    rw (e, f)
rows_behind n (suc p) m k buffer =
    let e : suc p + m ≡ suc (p + m) = omega arith in
    let f : suc p + k ≡ p + suc k = omega arith in
    rw (e, f) (rows_behind n p m (suc k) buffer)

-- a line is as wide as its row, which its plane rows have pixels for
pub row_narrow : (w n len : ℕ) → w ≤ n * 8 → len ≡ w → len ≤ n * 8
row_narrow w n len h e = omega arith

-- rows of the length and number that the code has told
module _ (planes masking rows w n : ℕ) (e : n ≡ row_length w) (f : rows ≡ rows_in_line planes masking) where
  pub read_rows :
      (compression : ℕ) (body : List ℕ) (at : ℕ) → IsRead (rows_from compression body (row_length w) (rows_in_line planes masking) at) →
      IsRead (rows_from compression body n rows at)
  read_rows compression body at i = rw (f, e) i

pub count_back : (m rows n len : ℕ) → rows ≡ m → rows * n ≤ len → m * n ≤ len
count_back m rows n len e h = rw e at h

module _
    (compression : ℕ) (body : List ℕ) (w planes masking rows at n : ℕ) (e : n ≡ row_length w) (f : rows ≡ rows_in_line planes masking)
    (buffer : List ℕ) (q : ℕ) (read : rows_from compression body n rows at ≡ found ((rows_in n rows 0 buffer), q))
  where
    rows-found : rows_from compression body (row_length w) (rows_in_line planes masking) at ≡
        found ((rows_in n (rows_in_line planes masking) 0 buffer), q)
    rows-found = rw (← f, ← e) read

    module _ (row : List ℕ) (m : ℕ) (l : m ≡ w) (gathered : row ≡ colours_from 0 m (rows_in n planes 0 buffer)) where
      pub colours_written : line_by compression w planes (rows_in_line planes masking) body at ≡ found (row, q)
      colours_written = rw (rows-found, rows_first n planes (mask_rows masking) 0 buffer, gathered, l)

      pub shape_written :
          (transparent : ℕ) (shape : List ℕ) (k : ℕ) → k ≡ w →
          shape ≡ shape_by masking transparent row (colours_from 0 k (rows_in n (mask_rows masking) planes buffer)) →
          line_with (shape_bits w planes masking transparent) compression (row_length w) (rows_in_line planes masking) body at ≡ found (shape, q)
      shape_written transparent shape k i told =
          let z : planes + 0 ≡ planes = omega arith in
          let first = rows_first n planes (mask_rows masking) 0 buffer in
          let behind = rows_behind n planes (mask_rows masking) 0 buffer in
          rw (rows-found, first, behind, z, told, gathered, l, i)
