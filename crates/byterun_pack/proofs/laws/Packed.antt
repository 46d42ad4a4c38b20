-- What the rule gives: each piece takes at least one byte of the row, and stands for just the bytes that it takes. So the packed row unpacks
-- to the row, and it is longer only by one byte for each full literal, since a shorter one is followed by a repeat, which saves a byte.
use Rattle.std.specs.Prelude.{ℕ, zero, suc, ◌+◌, ◌-◌, ◌<◌, ◌≤◌, ◌≡◌, refl, List, [], ◌∷◌, ◌++◌, Bool, true, false, length, get_or, take, drop, replicate, ltb, eqb}
use Rattle.std.proofs.Common.{sym, ap, ◌∙◌, length-append, length-drop, take-append-drop, length-take-le, lt-ltb, le-ltb, ltb-true, ltb-false, eqb-true, eq-eqb, arith}
use Rattle.iff_name.specs.Name.{pick}
use Rattle.byterun_row.specs.Packing.{Packs}
use Rattle.byterun_row.proofs.laws.Packing.{packs_none, packs_literal, packs_repeat}
use Rattle.byterun_pieces.specs.Pieces.{three, same_for, plain_for, piece_of}
use Rattle.byterun_pack.specs.Pack.{on_piece, pack_by, packed, most_for}
use Rattle.byterun_pieces.specs.declared.Piece.{Piece}
use Rattle.byterun_pieces.specs.declared.Piece.TheVariants.{Repeat, Literal}

-- ---- a repeat

same_most : (m b : ℕ) (xs : List ℕ) → same_for m b xs ≤ m
unfolding same_for
same_most zero b xs = omega arith
same_most (suc m) b [] = omega arith
same_most (suc m) b (x ∷ xs) = go (same_most m b xs) (eqb x b)
  where
    go : same_for m b xs ≤ m → (t : Bool) → pick t (suc (same_for m b xs)) 0 ≤ suc m
    go h true = omega arith
    go h false = omega arith

same_length : (m b : ℕ) (xs : List ℕ) → same_for m b xs ≤ length xs
unfolding same_for
same_length zero b xs = omega arith
same_length (suc m) b [] = omega arith
same_length (suc m) b (x ∷ xs) = go (same_length m b xs) (eqb x b)
  where
    go : same_for m b xs ≤ length xs → (t : Bool) → pick t (suc (same_for m b xs)) 0 ≤ suc (length xs)
    go h true = omega arith
    go h false = omega arith

same_bytes : (m b : ℕ) (xs : List ℕ) → take (same_for m b xs) xs ≡ replicate (same_for m b xs) b
unfolding same_for
same_bytes zero b xs = refl
same_bytes (suc m) b [] = refl
same_bytes (suc m) b (x ∷ xs) = go (same_bytes m b xs) (eqb x b) refl
  where
    go : take (same_for m b xs) xs ≡ replicate (same_for m b xs) b → (t : Bool) → eqb x b ≡ t → take (pick t (suc (same_for m b xs)) 0) (x ∷ xs) ≡ replicate (pick t (suc (same_for m b xs)) 0) b
    go h true e = let z = eqb-true x b e in cc
    go h false e = refl

same_three : (m : ℕ) (xs : List ℕ) → three xs ≡ true → 3 ≤ same_for (suc (suc (suc m))) (get_or xs 0 0) xs
unfolding same_for three
same_three m [] h = let z : ◌≡◌ {A = ℕ} 0 1 = cc in absurd (omega arith)
same_three m (a ∷ []) h = let z : ◌≡◌ {A = ℕ} 0 1 = cc in absurd (omega arith)
same_three m (a ∷ b ∷ []) h = let z : ◌≡◌ {A = ℕ} 0 1 = cc in absurd (omega arith)
same_three m (a ∷ b ∷ c ∷ xs) h = go (eqb a b) refl h
  where
    go : (t : Bool) → eqb a b ≡ t → pick t (eqb b c) false ≡ true → 3 ≤ same_for (suc (suc (suc m))) a (a ∷ b ∷ c ∷ xs)
    go true e w =
        let p : b ≡ a = sym (eqb-true a b e) in
        let q : c ≡ a = sym (eqb-true b c w) ∙ p in
        rw (eq-eqb a a refl, eq-eqb b a p, eq-eqb c a q) (omega arith)
    go false e w = let z : ◌≡◌ {A = ℕ} 0 1 = cc in absurd (omega arith)

-- ---- a literal

plain_most : (m : ℕ) (xs : List ℕ) → plain_for m xs ≤ m
unfolding plain_for
plain_most zero xs = omega arith
plain_most (suc m) [] = omega arith
plain_most (suc m) (x ∷ xs) = go (plain_most m xs) (three (x ∷ xs))
  where
    go : plain_for m xs ≤ m → (t : Bool) → pick t 0 (suc (plain_for m xs)) ≤ suc m
    go h true = omega arith
    go h false = omega arith

plain_length : (m : ℕ) (xs : List ℕ) → plain_for m xs ≤ length xs
unfolding plain_for
plain_length zero xs = omega arith
plain_length (suc m) [] = omega arith
plain_length (suc m) (x ∷ xs) = go (plain_length m xs) (three (x ∷ xs))
  where
    go : plain_for m xs ≤ length xs → (t : Bool) → pick t 0 (suc (plain_for m xs)) ≤ suc (length xs)
    go h true = omega arith
    go h false = omega arith

plain_one : (m : ℕ) (xs : List ℕ) → three xs ≡ false → 0 < length xs → 1 ≤ plain_for (suc m) xs
unfolding plain_for
plain_one m [] e h = absurd (omega arith)
plain_one m (x ∷ xs) e h = rw e (omega arith)

plain_stop : (m : ℕ) (xs : List ℕ) → plain_for m xs < m → plain_for m xs < length xs → three (drop (plain_for m xs) xs) ≡ true
unfolding plain_for
plain_stop zero xs a b = absurd (omega arith)
plain_stop (suc m) [] a b = absurd (omega arith)
plain_stop (suc m) (x ∷ xs) a b = go (plain_stop m xs) (three (x ∷ xs)) refl a b
  where
    go :
        (plain_for m xs < m → plain_for m xs < length xs → three (drop (plain_for m xs) xs) ≡ true) → (t : Bool) → three (x ∷ xs) ≡ t →
        pick t 0 (suc (plain_for m xs)) < suc m → pick t 0 (suc (plain_for m xs)) < suc (length xs) → three (drop (pick t 0 (suc (plain_for m xs))) (x ∷ xs)) ≡ true
    go ih true e p q = e
    go ih false e p q = ih (omega arith) (omega arith)

-- ---- a piece

-- what a piece takes of a row that has bytes left
abbrev pub Taken : List ℕ → Piece → Type 0
Taken xs (Repeat k) = (3 ≤ k) × (k ≤ 128) × (k ≤ length xs) × (take k xs ≡ replicate k (get_or xs 0 0))
Taken xs (Literal k) = (1 ≤ k) × (k ≤ 128) × (k ≤ length xs) × (three xs ≡ false) × (k < 128 → k < length xs → three (drop k xs) ≡ true)

pub piece_taken : (xs : List ℕ) → 0 < length xs → Taken xs (piece_of xs)
unfolding piece_of
piece_taken xs h = go (three xs) refl
  where
    go : (t : Bool) → three xs ≡ t → Taken xs (pick t (Repeat (same_for 128 (get_or xs 0 0) xs)) (Literal (plain_for 128 xs)))
    go true e = (same_three 125 xs e, same_most 128 (get_or xs 0 0) xs, same_length 128 (get_or xs 0 0) xs, same_bytes 128 (get_or xs 0 0) xs)
    go false e = (plain_one 127 xs e h, plain_most 128 xs, plain_length 128 xs, e, plain_stop 128 xs)

-- ---- no fuel

by_enough : (f g : ℕ) (xs : List ℕ) → length xs ≤ f → length xs ≤ g → pack_by f xs ≡ pack_by g xs
unfolding pack_by
by_enough zero zero xs a b = refl
by_enough zero (suc g) xs a b = rw (le-ltb 0 (length xs) (omega arith))
by_enough (suc f) zero xs a b = rw (le-ltb 0 (length xs) (omega arith))
by_enough (suc f) (suc g) xs a b = go (λ ys c d. by_enough f g ys c d) (ltb 0 (length xs)) refl (piece_of xs) (λ h. piece_taken xs h)
  where
    go :
        ((ys : List ℕ) → length ys ≤ f → length ys ≤ g → pack_by f ys ≡ pack_by g ys) → (t : Bool) → ltb 0 (length xs) ≡ t → (p : Piece) → (0 < length xs → Taken xs p) →
        pick t (on_piece xs (λ ys. pack_by f ys) p) [] ≡ pick t (on_piece xs (λ ys. pack_by g ys) p) []
    go ih false e p w = refl
    go ih true e (Repeat k) w =
        let u = w (ltb-true 0 (length xs) e) in
        ap (λ (l : List ℕ). on_piece xs (λ ys. l) (Repeat k)) (ih (drop k xs) (rw length-drop (omega arith)) (rw length-drop (omega arith)))
    go ih true e (Literal k) w =
        let u = w (ltb-true 0 (length xs) e) in
        ap (λ (l : List ℕ). on_piece xs (λ ys. l) (Literal k)) (ih (drop k xs) (rw length-drop (omega arith)) (rw length-drop (omega arith)))

pub packed_none : (xs : List ℕ) → length xs ≡ 0 → packed xs ≡ []
unfolding packed pack_by
packed_none [] h = refl
packed_none (x ∷ xs) h = absurd (omega arith)

once_by : (f : ℕ) (xs : List ℕ) → 0 < length xs → pack_by (suc f) xs ≡ on_piece xs (λ ys. pack_by f ys) (piece_of xs)
unfolding pack_by
once_by f xs h = simp (lt-ltb _ _ h)

more_by : (f : ℕ) (xs : List ℕ) → length xs ≤ suc f → 0 < length xs → (p : Piece) → Taken xs p → on_piece xs (λ ys. pack_by f ys) p ≡ on_piece xs (λ ys. packed ys) p
unfolding packed
more_by f xs l h (Repeat k) u =
    ap (λ (r : List ℕ). on_piece xs (λ ys. r) (Repeat k)) (by_enough f (length (drop k xs)) (drop k xs) (rw length-drop (omega arith)) (omega arith))
more_by f xs l h (Literal k) u =
    ap (λ (r : List ℕ). on_piece xs (λ ys. r) (Literal k)) (by_enough f (length (drop k xs)) (drop k xs) (rw length-drop (omega arith)) (omega arith))

whole : (xs : List ℕ) → packed xs ≡ pack_by (suc (length xs)) xs
unfolding packed
whole xs = by_enough (length xs) (suc (length xs)) xs (omega arith) (omega arith)

-- a row that has bytes left is its first piece, and the rest packed
pub packed_step : (xs : List ℕ) → 0 < length xs → packed xs ≡ on_piece xs (λ ys. packed ys) (piece_of xs)
packed_step xs h = whole xs ∙ once_by (length xs) xs h ∙ more_by (length xs) xs (omega arith) h (piece_of xs) (piece_taken xs h)

-- ---- what callers may rely on, whatever the rule

unpacks_piece :
    (f : ℕ) (xs : List ℕ) → length xs ≤ suc f → ((ys : List ℕ) → length ys ≤ f → Packs (packed ys) ys) → (p : Piece) → Taken xs p →
    Packs (on_piece xs (λ ys. packed ys) p) xs
unpacks_piece f xs l ih (Repeat k) u =
    let r = ih (drop k xs) (rw length-drop (omega arith)) in
    let e : replicate k (get_or xs 0 0) ++ drop k xs ≡ xs = rw (← u.3) (take-append-drop k xs) in
    rw e at (packs_repeat (get_or xs 0 0) k (packed (drop k xs)) (drop k xs) (omega arith) u.1 r)
unpacks_piece f xs l ih (Literal k) u =
    let r = ih (drop k xs) (rw length-drop (omega arith)) in
    let n : length (take k xs) ≡ k = length-take-le k xs u.2 in
    rw (n, take-append-drop k xs) at (packs_literal (take k xs) (packed (drop k xs)) (drop k xs) (omega arith) (omega arith) r)

unpacks_none : (xs : List ℕ) → length xs ≤ 0 → Packs (packed xs) xs
unpacks_none [] l = rw (packed_none [] refl) packs_none
unpacks_none (x ∷ xs) l = absurd (omega arith)

unpacks_more : (f : ℕ) (xs : List ℕ) → length xs ≤ suc f → ((ys : List ℕ) → length ys ≤ f → Packs (packed ys) ys) → Packs (packed xs) xs
unpacks_more f [] l ih = unpacks_none [] (omega arith)
unpacks_more f (x ∷ xs) l ih =
    rw (packed_step (x ∷ xs) (omega arith)) (unpacks_piece f (x ∷ xs) l ih (piece_of (x ∷ xs)) (piece_taken (x ∷ xs) (omega arith)))

unpacks_by : (f : ℕ) (xs : List ℕ) → length xs ≤ f → Packs (packed xs) xs
unpacks_by zero xs l = unpacks_none xs l
unpacks_by (suc f) xs l = unpacks_more f xs l (λ ys m. unpacks_by f ys m)

-- the packed row unpacks to the row, from any place in any BODY, and ends exactly there
pub packed_unpacks : (row : List ℕ) → Packs (packed row) row
packed_unpacks row = unpacks_by (length row) row (omega arith)

-- a row packed to so many bytes is short enough, and has a byte to spare where it starts with a repeat
abbrev Short : List ℕ → ℕ → Type 0
Short xs n = (n ≤ most_for (length xs)) × (three xs ≡ true → n + 1 ≤ most_for (length xs))

short_literal :
    (xs ys : List ℕ) (k n : ℕ) → 1 ≤ k → k ≤ 128 → k ≤ length xs → length ys ≡ length xs - k → (k < 128 → k < length xs → three ys ≡ true) →
    Short ys n → (t u : Bool) → ltb k 128 ≡ t → ltb k (length xs) ≡ u → suc (k + n) ≤ most_for (length xs)
short_literal xs ys k n a b c e s w false u p q = let h = ltb-false k 128 p in let v = w.0 in omega arith
short_literal xs ys k n a b c e s w true false p q = let h = ltb-false k (length xs) q in let v = w.0 in omega arith
short_literal xs ys k n a b c e s w true true p q = let v = w.1 (s (ltb-true k 128 p) (ltb-true k (length xs) q)) in omega arith

short_piece :
    (f : ℕ) (xs : List ℕ) → length xs ≤ suc f → ((ys : List ℕ) → length ys ≤ f → Short ys (length (packed ys))) → (p : Piece) → Taken xs p →
    Short xs (length (on_piece xs (λ ys. packed ys) p))
short_piece f xs l ih (Repeat k) u =
    let n : length (drop k xs) ≡ length xs - k = length-drop k xs in
    let r = (ih (drop k xs) (omega arith)).0 in
    (omega arith, λ e. omega arith)
short_piece f xs l ih (Literal k) u =
    let n : length (drop k xs) ≡ length xs - k = length-drop k xs in
    let r = ih (drop k xs) (omega arith) in
    let t : length (take k xs) ≡ k = length-take-le k xs u.2 in
    let v = short_literal xs (drop k xs) k (length (packed (drop k xs))) u.0 u.1 u.2 n u.4 r (ltb k 128) (ltb k (length xs)) refl refl in
    (rw (length-append, t) v, λ e. let d : three xs ≡ false = u.3 in let z : ◌≡◌ {A = ℕ} 0 1 = cc in absurd (omega arith))

short_none : (xs : List ℕ) → length xs ≤ 0 → Short xs (length (packed xs))
unfolding three
short_none [] l = rw (packed_none [] refl) (omega arith, λ e. let z : ◌≡◌ {A = ℕ} 0 1 = cc in absurd (omega arith))
short_none (x ∷ xs) l = absurd (omega arith)

short_more : (f : ℕ) (xs : List ℕ) → length xs ≤ suc f → ((ys : List ℕ) → length ys ≤ f → Short ys (length (packed ys))) → Short xs (length (packed xs))
short_more f [] l ih = short_none [] (omega arith)
short_more f (x ∷ xs) l ih =
    rw (packed_step (x ∷ xs) (omega arith)) (short_piece f (x ∷ xs) l ih (piece_of (x ∷ xs)) (piece_taken (x ∷ xs) (omega arith)))

short_by : (f : ℕ) (xs : List ℕ) → length xs ≤ f → Short xs (length (packed xs))
short_by zero xs l = short_none xs l
short_by (suc f) xs l = short_more f xs l (λ ys m. short_by f ys m)

-- n bytes pack to at most n + ceil (n / 128)
pub packed_short : (row : List ℕ) → length (packed row) ≤ most_for (length row)
packed_short row = (short_by (length row) row (omega arith)).0
