-- A turn of the loop that writes rows into a buffer: the rows before it stay, and the row that was read is the next one.
use Prim.Native.Nat.{ℕ, zero, suc, ◌+◌, ◌-◌, ◌*◌, ◌<◌, ◌≤◌}
use mathlib.Core.Path.{◌≡◌, refl, sym, ap, ◌∙◌}
use mathlib.Core.List.{List, [], ◌∷◌, ◌++◌, append_assoc, append-nil}
use lib.ListN.{length, take, drop, length-drop, take-append-drop}
use lib.Seq.{take-append-le, drop-append-le, drop_at, length-take-le}
use native.Mathlib.Numerals.{add-one}
use native.Mathlib.Omega.{arith}
use borrow.Rule.Slice.PartMut.{mid_of, put_mid}
use Rattle.byterun_row.specs.ByteRun.{Row, filled, over, short, row_of, IsFull}
use Rattle.ilbm_spec.specs.Rows.{Read, then_read, IsRead, row_read, rows_from}
use Rattle.ilbm_spec.proofs.laws.Rows.{one_value, one_place}
use Rattle.ilbm_gather.specs.Buffer.{rows_in}
use Rattle.ilbm_gather.proofs.Colours.{row_room}
use Rattle.iff_tree.specs.Judge.{found, refused}
use Rattle.ilbm_plane_rows.proofs.Judging.{onward, rows_once, rows_none}

-- what lies inside the first of two lists is found there
part_left : (n j : ℕ) (xs ys : List ℕ) → j + n ≤ length xs → take n (drop j (xs ++ ys)) ≡ take n (drop j xs)
part_left n j xs ys h =
    let a : j ≤ length xs = omega arith in
    let b : n ≤ length (drop j xs) = rw length-drop (omega arith) in
    rw (drop-append-le j xs ys a, take-append-le n (drop j xs) ys b)

rows_left : (n m k : ℕ) (xs ys : List ℕ) → (k + m) * n ≤ length xs → rows_in n m k (xs ++ ys) ≡ rows_in n m k xs
unfolding rows_in
rows_left n zero k xs ys h = refl
rows_left n (suc m) k xs ys h =
    let e : k + suc m ≡ suc k + m = omega arith in
    let f : (suc k + m) * n ≤ length xs = rw e at h in
    let g = row_room k (suc k + m) n (omega arith) in
    rw (part_left n (k * n) xs ys (omega arith), rows_left n m (suc k) xs ys f)

-- the last row of m + 1
rows_last : (n m k : ℕ) (xs : List ℕ) → rows_in n (suc m) k xs ≡ rows_in n m k xs ++ (take n (drop ((k + m) * n) xs) ∷ [])
unfolding rows_in
rows_last n zero k xs = let e : k + 0 ≡ k = omega arith in rw e
rows_last n (suc m) k xs = let e : k + suc m ≡ suc k + m = omega arith in
    rw e (ap (λ (l : List (List ℕ)). take n (drop (k * n) xs) ∷ l) (rows_last n m (suc k) xs))

-- the part of a buffer that is lent for a row has room for it
part_long : (a n : ℕ) (xs : List ℕ) → a + n ≤ length xs → n ≤ length (take (length xs - a) (drop a xs))
part_long a n xs h =
    let e : length (take (length xs - a) (drop a xs)) ≡ length xs - a =
    length-take-le (length xs - a) (drop a xs) (rw length-drop (omega arith)) in
    omega arith

-- a row written over row k of a buffer, and something over what stands after it
pub rows_more :
    (n k : ℕ) (old new tail : List ℕ) → k * n + n ≤ length old → n ≤ length new →
    rows_in n (k + 1) 0 (take (k * n) old ++ (new ++ tail)) ≡ rows_in n k 0 old ++ (take n new ∷ [])
rows_more n k old new tail h l =
    let a : length (take (k * n) old) ≡ k * n = length-take-le (k * n) old (omega arith) in
    let z : 0 + k ≡ k = omega arith in
    let b : (0 + k) * n ≤ length (take (k * n) old) = rw z (omega arith) in
    let f : rows_in n k 0 (take (k * n) old ++ (new ++ tail)) ≡ rows_in n k 0 (take (k * n) old) =
    rows_left n k 0 (take (k * n) old) (new ++ tail) b in
    let g : rows_in n k 0 old ≡ rows_in n k 0 (take (k * n) old) =
    sym (ap (λ (xs : List ℕ). rows_in n k 0 xs) (take-append-drop (k * n) old)) ∙ rows_left n k 0 (take (k * n) old) (drop (k * n) old) b in
    let i : take n (drop (k * n) (take (k * n) old ++ (new ++ tail))) ≡ take n new =
    ap (λ (xs : List ℕ). take n xs) (drop_at (take (k * n) old) (new ++ tail) (k * n) a) ∙ take-append-le n new tail l in
    rw (add-one, rows_last n k 0 (take (k * n) old ++ (new ++ tail)), z, f, g, i)

-- k rows stand in the buffer, and with those that are read from q on they are all the rows
pub record Written (compression : ℕ) (body : List ℕ) (n rows at k q : ℕ) (buffer : List ℕ) : Type 0 where
  pub left : List (List ℕ)
  pub end : ℕ
  pub to_come_lem : rows_from compression body n (rows - k) q ≡ found (left, end)
  pub whole : rows_from compression body n rows at ≡ found ((rows_in n k 0 buffer ++ left), end)

module _ (compression : ℕ) (body : List ℕ) (n rows at : ℕ) where
  pub written_start : (buffer : List ℕ) → IsRead (rows_from compression body n rows at) → Written compression body n rows at 0 at buffer
  unfolding rows_in
  written_start buffer r = go (rows_from compression body n rows at) refl r
    where
      go : (v : Read (List (List ℕ))) → rows_from compression body n rows at ≡ v → IsRead v → Written compression body n rows at 0 at buffer
      go (found (a, p)) e i = let z : rows - 0 ≡ rows = omega arith in record { left = a; end = p; to_come_lem = rw z e; whole = e }
      go (refused f p) e i = absurd i

  module _ (k q : ℕ) (buffer : List ℕ) (w : Written compression body n rows at k q buffer) where
    module _ (h : k < rows) where
      first :
          then_read (row_read (row_of compression body q n)) (λ bs p. onward bs (rows_from compression body n (rows - (k + 1)) p))
          ≡ found (w.left, w.end)
      first = rw (rows_once compression body n rows k q h) at w.to_come_lem

      pub written_full : IsFull (row_of compression body q n)
      written_full = go (row_of compression body q n) first
        where
          go :
              (v : Row) → then_read (row_read v) (λ bs p. onward bs (rows_from compression body n (rows - (k + 1)) p)) ≡ found (
                w.left,
                w.end,
              ) → IsFull v
          go (filled bs s) f = tt
          go (over s) f = let z : ◌≡◌ {A = ℕ} 0 1 = cc in absurd (omega arith)
          go (short s) f = let z : ◌≡◌ {A = ℕ} 0 1 = cc in absurd (omega arith)

      written_more :
          (p : ℕ) (new tail : List ℕ) → k * n + n ≤ length buffer → n ≤ length new → row_of compression body q n ≡ filled (take n new) p →
          Written compression body n rows at (k + 1) p (take (k * n) buffer ++ (new ++ tail))
      written_more p new tail d l i = go (rows_from compression body n (rows - (k + 1)) p) refl next
        where
          next : onward (take n new) (rows_from compression body n (rows - (k + 1)) p) ≡ found (w.left, w.end)
          next = rw i at first

          go :
              (v : Read (List (List ℕ))) → rows_from compression body n (rows - (k + 1)) p ≡ v →
              onward (take n new) v ≡ found (w.left, w.end) →
              Written compression body n rows at (k + 1) p (take (k * n) buffer ++ (new ++ tail))
          go (found (rest, r)) u f =
              let x : w.left ≡ take n new ∷ rest = sym (one_value f) in
              let y : w.end ≡ r = sym (one_place f) in
              record {
                left = rest;
                end = r;
                to_come_lem = u;
                whole = rw (
                  rows_more n k buffer new tail d l,
                  append_assoc (rows_in n k 0 buffer) (take n new ∷ []) rest,
                ) (rw (x, y) at w.whole);
              }
          go (refused f s) u g = let z : ◌≡◌ {A = ℕ} 0 1 = cc in absurd (omega arith)

      -- a row that was written to the part of the buffer from its place on
      pub written_put :
          (p : ℕ) (new : List ℕ) → rows * n ≤ length buffer → length new ≡ length (mid_of (k * n) (length buffer - k * n) buffer) →
          row_of compression body q n ≡ filled (take n new) p →
          Written compression body n rows at (k + 1) p (put_mid (k * n) (length buffer - k * n) buffer new)
      written_put p new l kept i =
          let room : k * n + n ≤ length buffer = omega (arith, row_room k rows n h) in
          let long = part_long (k * n) n buffer room in
          written_more p new _ room (omega arith) i

    pub written_end : k ≤ rows → rows ≤ k → rows_from compression body n rows at ≡ found ((rows_in n rows 0 buffer), q)
    written_end a b =
        let none : ◌≡◌ {A = Read (List (List ℕ))} (found ([], q)) (found (w.left, w.end)) =
        rw (rows_none compression body n rows k q b) at w.to_come_lem in
        let x : w.left ≡ [] = sym (one_value none) in
        let y : w.end ≡ q = sym (one_place none) in
        let z : rows ≡ k = omega arith in
        let u : rows_from compression body n rows at ≡ found ((rows_in n k 0 buffer ++ []), q) = rw (x, y) at w.whole in
        u ∙ rw (z, append-nil (rows_in n k 0 buffer))
