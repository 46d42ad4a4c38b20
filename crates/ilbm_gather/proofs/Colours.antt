-- A pixel's colour number, from the last plane down, and a row of them.
use Prim.Native.Nat.{ℕ, zero, suc, ◌+◌, ◌-◌, ◌*◌, ◌/◌, ◌%◌, ◌^◌, ◌<◌, ◌≤◌}
use mathlib.Core.Path.{◌≡◌, refl, sym, ap, ◌∙◌}
use mathlib.Core.List.{List, [], ◌∷◌, ◌++◌}
use lib.ListN.{length, get_or, take, drop, set}
use lib.Pow.{pow_mono}
use lib.Seq.{get_or-take, get_or-drop, take-suc-set}
use mir.Syntax.{w64}
use mir.Val.{Fits}
use native.Mathlib.Nat.{mul_assoc, suc-mul, mul-le-mul_right, pow-suc, mod-lt}
use native.Mathlib.Numerals.{add-one}
use native.Mathlib.Omega.{arith}
use Rattle.ilbm_spec.specs.Rows.{bit_at, colour_by, colours_from}
use Rattle.ilbm_gather.specs.Buffer.{rows_in}

-- row k lies before row m
pub row_room : (k m n : ℕ) → k < m → k * n + n ≤ m * n
row_room k m n h = omega (arith, suc-mul k n, mul-le-mul_right {m = suc k} {n = m} n h)

-- twice the weight, twice the colour
colour_twice : (weight x : ℕ) (rows : List (List ℕ)) → colour_by (weight * 2) x rows ≡ 2 * colour_by weight x rows
unfolding colour_by
colour_twice weight x [] = omega arith
colour_twice weight x (row ∷ rows) = omega (arith, colour_twice (weight * 2) x rows, mul_assoc (bit_at row x) weight 2)

pub colour_front : (x : ℕ) (row : List ℕ) (rows : List (List ℕ)) → colour_by 1 x (row ∷ rows) ≡ colour_by 1 x rows * 2 + bit_at row x
unfolding colour_by
colour_front x row rows = omega (arith, colour_twice 1 x rows)

-- so many planes, so many bits
pub colour_small : (x : ℕ) (rows : List (List ℕ)) → colour_by 1 x rows < 2 ^ length rows
unfolding colour_by
colour_small x [] = omega arith
colour_small x (row ∷ rows) =
    let a = colour_small x rows in
    let b = colour_front x row rows in
    let d : bit_at row x < 2 = mod-lt (get_or row (x / 8) 0 / 2 ^ (7 - x % 8)) (omega arith) in
    omega (arith, pow-suc 2 (length rows))

rows_count : (n m k : ℕ) (xs : List ℕ) → length (rows_in n m k xs) ≡ m
unfolding rows_in
rows_count n zero k xs = refl
rows_count n (suc m) k xs = ap suc (rows_count n m (suc k) xs)

-- a bit of row k
pub row_bit : (n k x : ℕ) (xs : List ℕ) → x / 8 < n → bit_at (take n (drop (k * n) xs)) x ≡ get_or xs (k * n + x / 8) 0 / 2 ^ (7 - x % 8) % 2
row_bit n k x xs h = rw (get_or-take n (drop (k * n) xs) (x / 8) 0 h, get_or-drop (k * n) xs (x / 8) 0)

-- the colour number of the planes from k on
pub record Coloured (buffer : List ℕ) (n planes x k colour : ℕ) : Type 0 where
  pub is : colour ≡ colour_by 1 x (rows_in n (planes - k) k buffer)
  pub small : colour ≤ 255

module _ (buffer : List ℕ) (n planes x : ℕ) (h : planes ≤ 8) where
  coloured : (k colour : ℕ) → colour ≡ colour_by 1 x (rows_in n (planes - k) k buffer) → Coloured buffer n planes x k colour
  coloured k colour e =
      let a = colour_small x (rows_in n (planes - k) k buffer) in
      let b : length (rows_in n (planes - k) k buffer) ≤ 8 = rw rows_count (omega arith) in
      let d : 2 ^ length (rows_in n (planes - k) k buffer) ≤ 2 ^ 8 = pow_mono b in
      record { is = e; small = omega arith }

  pub colour_byte : (k : ℕ) → colour_by 1 x (rows_in n (planes - k) k buffer) ≤ 255
  colour_byte k = (coloured k (colour_by 1 x (rows_in n (planes - k) k buffer)) refl).small

  pub coloured_start : Coloured buffer n planes x planes 0
  unfolding colour_by rows_in
  coloured_start = let e : planes - planes ≡ 0 = omega arith in coloured planes 0 (rw e)

  module _ (k colour : ℕ) (c : Coloured buffer n planes x k colour) where
    pub coloured_more :
        (b : ℕ) → 0 < k → k ≤ planes → x / 8 < n → b ≡ get_or buffer ((k - 1) * n + x / 8) 0 →
        Coloured buffer n planes x (k - 1) (colour * 2 + b / 2 ^ (7 - x % 8) % 2)
    unfolding rows_in
    coloured_more b h l m i =
        let e : planes - (k - 1) ≡ suc (planes - k) = omega arith in
        let f : suc (k - 1) ≡ k = omega arith in
        let g : colour_by 1 x (take n (drop ((k - 1) * n) buffer) ∷ rows_in n (planes - k) k buffer) ≡ colour * 2 + b / 2 ^ (7 - x % 8) % 2 =
        colour_front x (take n (drop ((k - 1) * n) buffer)) (rows_in n (planes - k) k buffer) ∙
        rw (row_bit n (k - 1) x buffer m, i, c.is) in
        coloured (k - 1) (colour * 2 + b / 2 ^ (7 - x % 8) % 2) (rw (e, f) (sym g))

-- a byte of row k
module _ (k planes n i len : ℕ) (h : k < planes) (l : planes * n ≤ len) where
  pub byte_inside : i < n → k * n + i < len
  byte_inside m = omega (arith, row_room k planes n h)

  module _ (f : len < 2 ^ 64) where
    pub byte_fits : i < n → Fits w64 (k * n + i)
    byte_fits m = omega (arith, row_room k planes n h)

    pub start_fits : Fits w64 (k * n)
    start_fits = omega (arith, row_room k planes n h)

pub ruleset colouring = (coloured_start, coloured_more, byte_inside, byte_fits, start_fits)

-- one more pixel
colours_last : (x n : ℕ) (rows : List (List ℕ)) → colours_from x (suc n) rows ≡ colours_from x n rows ++ (colour_by 1 (x + n) rows ∷ [])
unfolding colours_from
colours_last x zero rows = let e : x + 0 ≡ x = omega arith in rw e
colours_last x (suc n) rows = let e : x + suc n ≡ suc x + n = omega arith in
    rw e (ap (λ (l : List ℕ). colour_by 1 x rows ∷ l) (colours_last (suc x) n rows))

-- the first x pixels of a row have their colours
pub record Gathered (plane_rows : List (List ℕ)) (x : ℕ) (row : List ℕ) : Type 0 where
  pub is : take x row ≡ colours_from 0 x plane_rows

module _ (plane_rows : List (List ℕ)) where
  pub gathered_start : (row : List ℕ) → Gathered plane_rows 0 row
  unfolding colours_from
  gathered_start row = record { is = refl }

  module _ (x : ℕ) (row : List ℕ) (g : Gathered plane_rows x row) where
    pub gathered_more : (colour : ℕ) → x < length row → colour ≡ colour_by 1 x plane_rows → Gathered plane_rows (x + 1) (set row x colour)
    gathered_more colour h e =
        let z : 0 + x ≡ x = omega arith in
        record { is = rw (add-one, take-suc-set row x colour h, g.is, colours_last 0 x plane_rows, z, e) }

pub ruleset gathering = (gathered_start, gathered_more)
