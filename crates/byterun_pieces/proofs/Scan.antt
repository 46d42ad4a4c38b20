-- One law for each way through the functions that look for the next piece: a turn of the literal's loop steps over one or two bytes of
-- the definition.
use Prim.Native.Nat.{ℕ, zero, suc, ◌+◌, ◌-◌, ◌<◌, ◌≤◌}
use mathlib.Core.Path.{◌≡◌, refl, sym, ap, ◌∙◌}
use mathlib.Core.List.{List, [], ◌∷◌}
use mathlib.Core.Bool.{Bool, true, false, cond}
use lib.ListN.{length, get_or, take, drop, length-drop}
use lib.Seq.{get_or-drop, drop-drop, take_all}
use lib.Dec.{ltb, eqb}
use borrow.Author.Tests.{eq-eqb, ne_eqb, ltb-true, ltb-false}
use native.Mathlib.Omega.{arith}
use native.Mathlib.Nat.{add-zero}
use Rattle.std.specs.Prelude.{◌==◌}
use Rattle.std.specs.List.{prefix_len, take_while, between}
use Rattle.iff_name.specs.Name.{pick}
use Rattle.byterun_pieces.specs.Pieces.{three, same_for, plain_for, piece_of}
use Rattle.byterun_pieces.specs.declared.Piece.TheVariants.{Repeat, Literal}

pub first : (row : List ℕ) (i : ℕ) → get_or (drop i row) 0 0 ≡ get_or row i 0
first row i = get_or-drop i row 0 0 ∙ ap (λ (k : ℕ). get_or row k 0) (add-zero i)

-- ---- three equal bytes

few : (xs : List ℕ) → length xs < 3 → false ≡ three xs
unfolding three
few [] h = refl
few (a ∷ []) h = refl
few (a ∷ b ∷ []) h = refl
few (a ∷ b ∷ c ∷ xs) h = absurd (omega arith)

enough : (xs : List ℕ) → 3 ≤ length xs → three xs ≡ pick (eqb (get_or xs 0 0) (get_or xs 1 0)) (eqb (get_or xs 1 0) (get_or xs 2 0)) false
unfolding three
enough [] h = absurd (omega arith)
enough (a ∷ []) h = absurd (omega arith)
enough (a ∷ b ∷ []) h = absurd (omega arith)
enough (a ∷ b ∷ c ∷ xs) h = refl

neither : (t : Bool) → pick t false false ≡ false
neither true = refl
neither false = refl

module _ (row : List ℕ) (i : ℕ) where
  pub three_few : length row - i < 3 → false ≡ three (drop i row)
  three_few h = few (drop i row) (rw length-drop h)

  seen : i + 3 ≤ length row → three (drop i row) ≡ pick (eqb (get_or row i 0) (get_or row (i + 1) 0)) (eqb (get_or row (i + 1) 0) (get_or row (i + 2) 0)) false
  seen h = rw (first row i, get_or-drop i row 1 0, get_or-drop i row 2 0) at (enough (drop i row) (rw length-drop (omega arith)))

  pub three_same : i + 3 ≤ length row → get_or row i 0 ≡ get_or row (i + 1) 0 → eqb (get_or row (i + 1) 0) (get_or row (i + 2) 0) ≡ three (drop i row)
  three_same h e = rw (seen h) (simp (eq-eqb (get_or row i 0) (get_or row (i + 1) 0) e))

  pub three_other : i + 3 ≤ length row → (get_or row i 0 ≡ get_or row (i + 1) 0 → ⊥) → false ≡ three (drop i row)
  three_other h e = rw (seen h) (simp (ne_eqb (get_or row i 0) (get_or row (i + 1) 0) e))

pub ruleset threes = (three_few, three_same, three_other)

-- ---- the length of a repeat

pub same_is : (m b : ℕ) (xs : List ℕ) → length (take_while (λ x. x == b) (take m xs)) ≡ same_for m b xs
unfolding same_for
same_is zero b xs = refl
same_is (suc m) b [] = refl
same_is (suc m) b (x ∷ xs) = go (same_is m b xs) (eqb x b)
  where
    go :
        length (take_while (λ x. x == b) (take m xs)) ≡ same_for m b xs → (t : Bool) →
        length (take (cond t (1 + prefix_len (λ x. x == b) (take m xs)) 0) (x ∷ take m xs)) ≡ pick t (suc (same_for m b xs)) 0
    go h true =
        let n : ℕ = prefix_len (λ x. x == b) (take m xs) in
        let e : 1 + n ≡ suc n = omega arith in
        rw e (ap suc h)
    go h false = refl

-- the lesser of what is left and 128 bytes
most_taken :
    (m n : ℕ) (xs : List ℕ) → n ≡ length xs → (m ≤ 128) × (m ≤ n) × (n < 128 → m ≡ n) × (128 ≤ n → m ≡ 128) → take m xs ≡ take 128 xs
most_taken m n xs e w = go (ltb n 128) refl
  where
    go : (t : Bool) → ltb n 128 ≡ t → take m xs ≡ take 128 xs
    go true i =
        let h = ltb-true n 128 i in
        let l = w.2 h in
        take_all m xs (omega arith) ∙ sym (take_all 128 xs (omega arith))
    go false i = let l = w.3 (ltb-false n 128 i) in ap (λ (k : ℕ). take k xs) l

pub same_counted :
    (row : List ℕ) (i b m r : ℕ) →
    (m ≤ 128) × (m ≤ length row - i) × (length row - i < 128 → m ≡ length row - i) × (128 ≤ length row - i → m ≡ 128) →
    r ≡ length (take_while (λ x. x == b) (between i (i + m) row)) → r ≡ same_for 128 b (drop i row)
same_counted row i b m r w e =
    let n : i + m - i ≡ m = omega arith in
    let t : take m (drop i row) ≡ take 128 (drop i row) = most_taken m (length row - i) (drop i row) (sym (length-drop i row)) w in
    e ∙ rw (n, t) (same_is 128 b (drop i row))

-- ---- the length of a literal

plain_cons : (m : ℕ) (xs : List ℕ) → 0 < length xs → plain_for (suc m) xs ≡ pick (three xs) 0 (suc (plain_for m (drop 1 xs)))
unfolding plain_for
plain_cons m [] h = absurd (omega arith)
plain_cons m (x ∷ xs) h = refl

plain_nil : (m : ℕ) (xs : List ℕ) → length xs ≡ 0 → plain_for m xs ≡ 0
unfolding plain_for
plain_nil zero xs h = refl
plain_nil (suc m) [] h = refl
plain_nil (suc m) (x ∷ xs) h = absurd (omega arith)

-- no three start in the last two bytes
plain_two : (xs : List ℕ) (m : ℕ) → length xs ≤ 2 → length xs ≤ m → plain_for m xs ≡ length xs
unfolding plain_for three
plain_two [] m h g = plain_nil m [] refl
plain_two (a ∷ []) zero h g = absurd (omega arith)
plain_two (a ∷ []) (suc m) h g = ap suc (plain_nil m [] refl)
plain_two (a ∷ b ∷ []) zero h g = absurd (omega arith)
plain_two (a ∷ b ∷ []) (suc zero) h g = absurd (omega arith)
plain_two (a ∷ b ∷ []) (suc (suc m)) h g = ap (λ (n : ℕ). suc (suc n)) (plain_nil m [] refl)
plain_two (a ∷ b ∷ c ∷ xs) m h g = absurd (omega arith)

plain_zero : (xs : List ℕ) → plain_for 0 xs ≡ 0
unfolding plain_for
plain_zero xs = refl

plain_most : (m : ℕ) (xs : List ℕ) → length xs ≤ 2 → m ≤ length xs → plain_for m xs ≡ m
unfolding plain_for three
plain_most zero xs h g = refl
plain_most (suc m) [] h g = absurd (omega arith)
plain_most (suc zero) (a ∷ []) h g = refl
plain_most (suc (suc m)) (a ∷ []) h g = absurd (omega arith)
plain_most (suc zero) (a ∷ b ∷ []) h g = refl
plain_most (suc (suc zero)) (a ∷ b ∷ []) h g = refl
plain_most (suc (suc (suc m))) (a ∷ b ∷ []) h g = absurd (omega arith)
plain_most (suc m) (a ∷ b ∷ c ∷ xs) h g = absurd (omega arith)

module _ (row : List ℕ) (i k : ℕ) where
  one_more : drop 1 (drop (i + k) row) ≡ drop (i + (k + 1)) row
  one_more = let e : i + k + 1 ≡ i + (k + 1) = omega arith in drop-drop 1 (i + k) row ∙ ap (λ (n : ℕ). drop n row) e

  module _ (v : ℕ) (u : k + plain_for (128 - k) (drop (i + k) row) ≡ v) where
    -- `last` places have two bytes after them
    module _ (last : ℕ) (w : (last ≤ 128) × (last ≤ length row - i - 2) × (last < 128 → length row - i - 2 ≤ last)) where
      passed : k < last → plain_for (128 - k) (drop (i + k) row) ≡ pick (three (drop (i + k) row)) 0 (suc (plain_for (128 - (k + 1)) (drop (i + (k + 1)) row)))
      passed h =
          let e : 128 - k ≡ suc (128 - (k + 1)) = omega arith in
          rw (e, plain_cons (128 - (k + 1)) (drop (i + k) row) (rw length-drop (omega arith)), one_more)

      module _ (t : Bool) (is : t ≡ three (drop (i + k) row)) (h : k < last) where
        pub plain_stop : t ≡ true → k ≡ v
        plain_stop e = let z = simp (← is, e) at (passed h) in omega arith

        plain_more : t ≡ false → (k + 1) + plain_for (128 - (k + 1)) (drop (i + (k + 1)) row) ≡ v
        plain_more e = let z = simp (← is, e) at (passed h) in omega arith

      module _ (d : last ≤ k) (f : k ≤ last) (g : i + k ≤ length row) where
        plain-short : length row - i < 128 → length row - i ≡ v
        plain-short h =
            let o = w.2 (omega arith) in
            let z = plain_two (drop (i + k) row) (128 - k) (rw length-drop (omega arith)) (rw length-drop (omega arith)) in
            let y = rw (z, length-drop) at u in omega arith

        plain_long : 128 ≤ length row - i → 128 ≡ v
        plain_long h = go (ltb last 128) refl
          where
            go : (t : Bool) → ltb last 128 ≡ t → 128 ≡ v
            go true e =
                let o = w.2 (ltb-true last 128 e) in
                let z = rw (plain_most (128 - k) (drop (i + k) row) (rw length-drop (omega arith)) (rw length-drop (omega arith))) at u in omega arith
            go false e =
                let o = ltb-false last 128 e in
                let n : 128 - k ≡ 0 = omega arith in
                let z = rw (n, plain_zero (drop (i + k) row)) at u in omega arith

pub three_known : (t : Bool) (xs : List ℕ) → t ≡ three xs → t ≡ true → three xs ≡ true
three_known t xs e i = sym e ∙ i

module _ (row : List ℕ) (i k v : ℕ) (u : k + plain_for (128 - k) (drop (i + k) row) ≡ v) (last : ℕ) (w : (last ≤ 128) × (last ≤ length row - i - 2) × (last < 128 → length row - i - 2 ≤ last)) where
  -- where the second byte and the third differ, neither the first nor the second starts three
  pub plain_apart :
      (t : Bool) → t ≡ eqb (get_or row (i + k + 1) 0) (get_or row (i + k + 1 + 1) 0) → k + 1 < last → t ≡ false →
      (k + 2) + plain_for (128 - (k + 2)) (drop (i + (k + 2)) row) ≡ v
  plain_apart t is h e =
      let m : i + k + 1 + 1 ≡ i + k + 2 = omega arith in
      let n : i + (k + 1) ≡ i + k + 1 = omega arith in
      let p : eqb (get_or row (i + k + 1) 0) (get_or row (i + k + 2) 0) ≡ false = rw m at (sym is ∙ e) in
      let z0 : false ≡ three (drop (i + k) row) = rw (seen row (i + k) (omega arith), p) (sym (neither (eqb (get_or row (i + k) 0) (get_or row (i + k + 1) 0)))) in
      let z1 : false ≡ three (drop (i + (k + 1)) row) = rw (n, seen row (i + k + 1) (omega arith), m, p) in
      let a = plain_more row i k v u last w false z0 (omega arith) refl in
      let d : k + 1 + 1 ≡ k + 2 = omega arith in
      rw d at (plain_more row i (k + 1) v a last w false z1 h refl)

  module _ (t : Bool) (is : t ≡ three (drop (i + k) row)) (h : k + 1 < last) where
    pub plain_found : t ≡ true → k ≡ v
    plain_found e = plain_stop row i k v u last w t is (omega arith) e

    pub plain_next : t ≡ false → (k + 1) + plain_for (128 - (k + 1)) (drop (i + (k + 1)) row) ≡ v
    plain_next e = plain_more row i k v u last w t is (omega arith) e

  module _ (r : ℕ) (q : (r ≤ 128) × (r ≤ length row - i) × (length row - i < 128 → r ≡ length row - i) × (128 ≤ length row - i → r ≡ 128)) where
    pub plain_end : last ≤ k → k ≤ last → i + k ≤ length row → r ≡ v
    plain_end d f g = go (ltb (length row - i) 128) refl
      where
        go : (t : Bool) → ltb (length row - i) 128 ≡ t → r ≡ v
        go true e = let h = ltb-true (length row - i) 128 e in q.2 h ∙ plain-short row i k v u last w d f g h
        go false e = let h = ltb-false (length row - i) 128 e in q.3 h ∙ plain_long row i k v u last w d f g h

module _ (row : List ℕ) (i k v : ℕ) (u : k + plain_for (128 - k) (drop (i + k) row) ≡ v) (last : ℕ) (w : (last ≤ 128) × (last ≤ length row - i - 2) × (last < 128 → length row - i - 2 ≤ last)) where
  pub plain_end_one :
      (r : ℕ) → (r ≤ 128) × (r ≤ length row - i) × (length row - i < 128 → r ≡ length row - i) × (128 ≤ length row - i → r ≡ 128) →
      (t : Bool) → t ≡ three (drop (i + k) row) → k < last → last ≤ k + 1 → t ≡ false → r ≡ v
  plain_end_one r q t is h d e =
      plain_end row i (k + 1) v (plain_more row i k v u last w t is h e) last w r q d (omega arith) (omega arith)

-- ---- the piece

module _ (row : List ℕ) (i k : ℕ) (t : Bool) (is : t ≡ three (drop i row)) where
  pub piece_repeat : t ≡ true → k ≡ same_for 128 (get_or row i 0) (drop i row) → Repeat k ≡ piece_of (drop i row)
  unfolding piece_of
  piece_repeat e n = rw n (simp (← is, e, first row i))

  pub piece_literal : t ≡ false → k ≡ plain_for 128 (drop i row) → Literal k ≡ piece_of (drop i row)
  unfolding piece_of
  piece_literal e n = rw n (simp (← is, e))

pub ruleset pieces = (three_known, piece_repeat, piece_literal)
