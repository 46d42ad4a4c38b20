-- Eight pixels as one word: a plane doubles each of them and adds its bits, and the bytes of the word are their colours.
use Prim.Native.Nat.{ℕ, zero, suc, ◌+◌, ◌-◌, ◌*◌, ◌/◌, ◌%◌, ◌^◌, ◌<◌, ◌≤◌}
use mathlib.Core.Path.{◌≡◌, sym, ap, ◌∙◌}
use mathlib.Core.List.{List, [], ◌∷◌, ◌++◌}
use lib.ListN.{length, get_or, take, drop}
use lib.Seq.{paste, take-paste}
use mir.Syntax.{w64}
use mir.Val.{Fits}
use native.Mathlib.Omega.{arith}
use Rattle.ilbm_spec.specs.Rows.{colour_by, colours_from}
use Rattle.ilbm_spread.specs.Spread.{eight, spread_of, bytes_of, IsSpread}
use Rattle.ilbm_gather.specs.Buffer.{rows_in, eight_from}
use Rattle.ilbm_gather.proofs.Colours.{colour_front, row_bit, colour_byte, byte_inside, byte_fits, start_fits, Gathered}

-- ---- the planes of eight pixels

eight_small : (f : ℕ → ℕ) → ((i : ℕ) → f i ≤ 255) → eight f < 2 ^ 64
eight_small f h = omega (arith, h 0, h 1, h 2, h 3, h 4, h 5, h 6, h 7)

module _ (buffer : List ℕ) (n planes byte : ℕ) (h : planes ≤ 8) where
  -- no plane after the last
  eight_none : (k : ℕ) → planes ≤ k → eight_from n planes byte k buffer ≡ 0
  unfolding eight_from colour_by rows_in
  eight_none k l = let e : planes - k ≡ 0 = omega arith in rw e

  eight_fits : (k : ℕ) → eight_from n planes byte k buffer < 2 ^ 64
  unfolding eight_from
  eight_fits k =
      let colour : ℕ → ℕ = λ i. colour_by 1 (8 * byte + i) (rows_in n (planes - k) k buffer) in
      eight_small colour (λ i. colour_byte buffer n planes (8 * byte + i) h k)

  module _ (k : ℕ) (l : k < planes) (m : byte < n) where
    one :
        (i : ℕ) → i < 8 →
        colour_by 1 (8 * byte + i) (rows_in n (planes - k) k buffer)
        ≡ colour_by 1 (8 * byte + i) (rows_in n (planes - (k + 1)) (k + 1) buffer) * 2 + get_or buffer (k * n + byte) 0 / 2 ^ (7 - i) % 2
    unfolding rows_in
    one i o =
        let d : (8 * byte + i) / 8 ≡ byte = omega arith in
        let g : (8 * byte + i) % 8 ≡ i = omega arith in
        let e : planes - k ≡ suc (planes - suc k) = omega arith in
        let f : k + 1 ≡ suc k = omega arith in
        let rest : List (List ℕ) = rows_in n (planes - suc k) (suc k) buffer in
        let w : colour_by 1 (8 * byte + i) (take n (drop (k * n) buffer) ∷ rest)
        ≡ colour_by 1 (8 * byte + i) rest * 2 + get_or buffer (k * n + (8 * byte + i) / 8) 0 / 2 ^ (7 - (8 * byte + i) % 8) % 2 =
        colour_front (8 * byte + i) (take n (drop (k * n) buffer)) rest
        ∙ ap (λ (t : ℕ). colour_by 1 (8 * byte + i) rest * 2 + t) (row_bit n k (8 * byte + i) buffer (rw d m)) in
        rw (f, e) (rw (d, g) at w)

    -- one more plane, in front of the others
    eight-more : eight_from n planes byte k buffer ≡ eight_from n planes byte (k + 1) buffer * 2 + spread_of (get_or buffer (k * n + byte) 0)
    unfolding eight_from
    eight-more =
        omega (
          arith,
          one 0 (omega arith),
          one 1 (omega arith),
          one 2 (omega arith),
          one 3 (omega arith),
          one 4 (omega arith),
          one 5 (omega arith),
          one 6 (omega arith),
          one 7 (omega arith),
        )

    -- the same by the word v of the planes after k and an entry of the table
    module _ (table : List ℕ) (t : IsSpread table) (v b x : ℕ) (is : v ≡ eight_from n planes byte (k + 1) buffer) where
      module _ (e : b ≡ x) (small : b < 256) (at : x ≡ get_or buffer (k * n + byte) 0) where
        pub plane_more : v * 2 + get_or table b 0 ≡ eight_from n planes byte k buffer
        unfolding IsSpread
        plane_more = rw (is, t b small, e, at) (sym eight-more)

        pub plane_fits : Fits w64 (v * 2 + get_or table b 0)
        plane_fits = let e = plane_more in let f = eight_fits k in omega arith

    pub plane_double : (v : ℕ) → v ≡ eight_from n planes byte (k + 1) buffer → Fits w64 (v * 2)
    plane_double v is = let e = eight-more in let f = eight_fits k in omega arith

  pub no_plane : (k v : ℕ) → planes ≤ k → v ≡ eight_from n planes byte (k + 1) buffer → v ≡ eight_from n planes byte k buffer
  no_plane k v l is = is ∙ eight_none (k + 1) (omega arith) ∙ sym (eight_none k l)

  pub no_planes : 0 ≡ eight_from n planes byte 8 buffer
  no_planes = sym (eight_none 8 h)

pub ruleset planing = (plane_more, plane_fits, plane_double, no_plane, no_planes, byte_inside, byte_fits, start_fits)

-- ---- the row

-- the bytes of eight pixels are the pixels
bytes_eight : (f : ℕ → ℕ) → ((i : ℕ) → f i ≤ 255) → bytes_of (eight f) ≡ f 0 ∷ f 1 ∷ f 2 ∷ f 3 ∷ f 4 ∷ f 5 ∷ f 6 ∷ f 7 ∷ []
bytes_eight f h =
    let h0 = h 0 in let h1 = h 1 in let h2 = h 2 in let h3 = h 3 in let h4 = h 4 in let h5 = h 5 in let h6 = h 6 in let h7 = h 7 in
    let e7 : eight f / 72057594037927936 ≡ f 7 = omega arith in
    let e6 : eight f / 281474976710656 % 256 ≡ f 6 = omega arith in
    let e5 : eight f / 1099511627776 % 256 ≡ f 5 = omega arith in
    let e4 : eight f / 4294967296 % 256 ≡ f 4 = omega arith in
    let e3 : eight f / 16777216 % 256 ≡ f 3 = omega arith in
    let e2 : eight f / 65536 % 256 ≡ f 2 = omega arith in
    let e1 : eight f / 256 % 256 ≡ f 1 = omega arith in
    let e0 : eight f % 256 ≡ f 0 = omega arith in
    rw (e0, e1, e2, e3, e4, e5, e6, e7)

colours_append : (x m n : ℕ) (rows : List (List ℕ)) → colours_from x (m + n) rows ≡ colours_from x m rows ++ colours_from (x + m) n rows
unfolding colours_from
colours_append x zero n rows =
    let e : x + 0 ≡ x = omega arith in
    let f : 0 + n ≡ n = omega arith in
    rw (e, f)
colours_append x (suc m) n rows =
    let e : x + suc m ≡ suc x + m = omega arith in
    let f : suc m + n ≡ suc (m + n) = omega arith in
    rw (e, f) (ap (λ (l : List ℕ). colour_by 1 x rows ∷ l) (colours_append (suc x) m n rows))

colours_eight :
    (x : ℕ) (rows : List (List ℕ)) →
    colours_from x 8 rows
    ≡ colour_by 1 (x + 0) rows ∷ colour_by 1 (x + 1) rows ∷ colour_by 1 (x + 2) rows ∷ colour_by 1 (x + 3) rows
    ∷ colour_by 1 (x + 4) rows ∷ colour_by 1 (x + 5) rows ∷ colour_by 1 (x + 6) rows ∷ colour_by 1 (x + 7) rows ∷ []
unfolding colours_from
colours_eight x rows =
    let x0 : x + 0 ≡ x = omega arith in
    let x1 : x + 1 ≡ suc x = omega arith in
    let x2 : x + 2 ≡ suc (suc x) = omega arith in
    let x3 : x + 3 ≡ suc (suc (suc x)) = omega arith in
    let x4 : x + 4 ≡ suc (suc (suc (suc x))) = omega arith in
    let x5 : x + 5 ≡ suc (suc (suc (suc (suc x)))) = omega arith in
    let x6 : x + 6 ≡ suc (suc (suc (suc (suc (suc x))))) = omega arith in
    let x7 : x + 7 ≡ suc (suc (suc (suc (suc (suc (suc x)))))) = omega arith in
    rw (x0, x1, x2, x3, x4, x5, x6, x7)

-- one more byte of pixels
module _ (buffer : List ℕ) (n planes : ℕ) (h : planes ≤ 8) (j v : ℕ) (row row' : List ℕ) where
  pub gathered_eight :
      Gathered (rows_in n planes 0 buffer) (8 * j) row →
      v ≡ eight_from n planes j 0 buffer → 8 * j + 8 ≤ length row → row' ≡ paste row (8 * j) (bytes_of v) 8 →
      Gathered (rows_in n planes 0 buffer) (8 * (j + 1)) row'
  unfolding eight_from
  gathered_eight g e l p =
      let rows : List (List ℕ) = rows_in n planes 0 buffer in
      let f : planes - 0 ≡ planes = omega arith in
      let y : 8 * (j + 1) ≡ 8 * j + 8 = omega arith in
      let z : 0 + 8 * j ≡ 8 * j = omega arith in
      let b = bytes_eight (λ i. colour_by 1 (8 * j + i) rows) (λ i. rw f at (colour_byte buffer n planes (8 * j + i) h 0)) in
      let t : take (8 * j + 8) row' ≡ take (8 * j) row ++ bytes_of v =
      rw p (take-paste row (8 * j) (bytes_of v) 8 (omega arith) (omega arith)) in
      let q : bytes_of v ≡ colours_from (8 * j) 8 rows = rw (e, f, colours_eight (8 * j) rows) b in
      record { is = rw (y, t, g.is, q) (sym (rw z at (colours_append 0 (8 * j) 8 (rows_in n planes 0 buffer)))) }
