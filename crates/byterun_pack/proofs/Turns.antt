-- One law for each way through a turn of the loops over the pieces of a row: a turn takes one piece, which `packed_step` says of the
-- definition, and what it writes is pasted after what stands there.
use Prim.Native.Nat.{ℕ, ◌+◌, ◌-◌, ◌*◌, ◌^◌, ◌<◌, ◌≤◌}
use mathlib.Core.Path.{◌≡◌, refl, sym, ◌∙◌}
use mathlib.Core.List.{List, [], ◌∷◌, ◌++◌, append_assoc, append-nil}
use mathlib.Core.Bool.{Bool, true, false}
use lib.ListN.{length, get_or, take, drop, length-append, length-drop, take-append-drop}
use lib.Seq.{paste, length-paste, take-paste, drop-paste, drop-drop, take_all, length-take-le}
use mir.Syntax.{w64}
use mir.Val.{Fits}
use native.Mathlib.Omega.{arith}
use Rattle.byterun_pieces.specs.Pieces.{three, same_for, plain_for, piece_of}
use Rattle.byterun_pack.specs.Pack.{on_piece, packed}
use Rattle.byterun_pack.proofs.laws.Packed.{Taken, piece_taken, packed_none, packed_step}
use Rattle.byterun_pieces.specs.declared.Piece.{Piece}
use Rattle.byterun_pieces.specs.declared.Piece.TheVariants.{Repeat, Literal}
use Rattle.byterun_pieces.proofs.Scan.{first, piece_repeat, piece_literal}

module _ (row : List ℕ) (i : ℕ) (r : Piece) (is : r ≡ piece_of (drop i row)) (h : i < length row) where
  left : length (drop i row) ≡ length row - i
  left = length-drop i row

  taken : (p : Piece) → r ≡ p → Taken (drop i row) p
  taken p e = rw (← is, e) at (piece_taken (drop i row) (rw left (omega arith)))

  stepped : (p : Piece) → r ≡ p → packed (drop i row) ≡ on_piece (drop i row) (λ ys. packed ys) p
  stepped p e = rw (← is, e) at (packed_step (drop i row) (rw left (omega arith)))

  module _ (k : ℕ) (e : r ≡ Repeat k) where
    repeated : packed (drop i row) ≡ ((257 - k) ∷ get_or row i 0 ∷ []) ++ packed (drop (i + k) row)
    repeated = rw (first row i, drop-drop k i row) at (stepped (Repeat k) e)

    pub repeat_fits : length row < 2 ^ 64 → Fits w64 (i + k)
    repeat_fits b = let u = taken (Repeat k) e in let l = left in omega arith

    pub repeat_less : length row - (i + k) < length row - i
    repeat_less = let u = taken (Repeat k) e in omega arith

    repeat-counted :
        (total v : ℕ) → total ≤ i + i → total + length (packed (drop i row)) ≡ v →
        (i + k ≤ length row) × (total + 2 ≤ i + k + (i + k)) × (total + 2 + length (packed (drop (i + k) row)) ≡ v)
    repeat-counted total v t w =
        let u = taken (Repeat k) e in let l = left in let z = rw repeated at w in
        (omega arith, omega arith, omega arith)

  module _ (k : ℕ) (e : r ≡ Literal k) where
    copied : packed (drop i row) ≡ ((k - 1) ∷ take k (drop i row)) ++ packed (drop (i + k) row)
    copied = rw (drop-drop k i row) at (stepped (Literal k) e)

    long : length (take k (drop i row)) ≡ k
    long = length-take-le k (drop i row) (taken (Literal k) e).2

    pub literal_fits : length row < 2 ^ 64 → Fits w64 (i + k)
    literal_fits b = let u = taken (Literal k) e in let l = left in omega arith

    pub literal_less : length row - (i + k) < length row - i
    literal_less = let u = taken (Literal k) e in omega arith

    pub literal_with_code_fits : Fits w64 (1 + k)
    literal_with_code_fits = let u = taken (Literal k) e in omega arith

    literal-total-fits : (total : ℕ) → total ≤ i + i → length row * 1 < 2 ^ 63 → Fits w64 (total + (1 + k))
    literal-total-fits total t b = let u = taken (Literal k) e in let l = left in omega arith

    literal-counted :
        (total v : ℕ) → total ≤ i + i → total + length (packed (drop i row)) ≡ v →
        (i + k ≤ length row) × (total + (1 + k) ≤ i + k + (i + k)) × (total + (1 + k) + length (packed (drop (i + k) row)) ≡ v)
    literal-counted total v t w =
        let u = taken (Literal k) e in let l = left in let z = rw (copied, length-append, long) at w in
        (omega arith, omega arith, omega arith)

-- the same where the tests of the code settle the piece
module _ (row : List ℕ) (i : ℕ) (t : Bool) (is : t ≡ three (drop i row)) (h : i < length row) (k : ℕ) where
  module _ (e : t ≡ true) (n : k ≡ same_for 128 (get_or row i 0) (drop i row)) where
    pub same_fits : length row < 2 ^ 64 → Fits w64 (i + k)
    same_fits = repeat_fits row i (Repeat k) (piece_repeat row i k t is e n) h k refl

    pub same_less : length row - (i + k) < length row - i
    same_less = repeat_less row i (Repeat k) (piece_repeat row i k t is e n) h k refl

    pub same_counted :
        (total v : ℕ) → total ≤ i + i → total + length (packed (drop i row)) ≡ v →
        (i + k ≤ length row) × (total + 2 ≤ i + k + (i + k)) × (total + 2 + length (packed (drop (i + k) row)) ≡ v)
    same_counted = repeat-counted row i (Repeat k) (piece_repeat row i k t is e n) h k refl

  module _ (e : t ≡ false) (n : k ≡ plain_for 128 (drop i row)) where
    pub plain_fits : length row < 2 ^ 64 → Fits w64 (i + k)
    plain_fits = literal_fits row i (Literal k) (piece_literal row i k t is e n) h k refl

    pub plain_less : length row - (i + k) < length row - i
    plain_less = literal_less row i (Literal k) (piece_literal row i k t is e n) h k refl

    pub plain_with_code_fits : Fits w64 (1 + k)
    plain_with_code_fits = literal_with_code_fits row i (Literal k) (piece_literal row i k t is e n) h k refl

    pub plain_total_fits : (total : ℕ) → total ≤ i + i → length row * 1 < 2 ^ 63 → Fits w64 (total + (1 + k))
    plain_total_fits = literal-total-fits row i (Literal k) (piece_literal row i k t is e n) h k refl

    pub plain_counted :
        (total v : ℕ) → total ≤ i + i → total + length (packed (drop i row)) ≡ v →
        (i + k ≤ length row) × (total + (1 + k) ≤ i + k + (i + k)) × (total + (1 + k) + length (packed (drop (i + k) row)) ≡ v)
    plain_counted = literal-counted row i (Literal k) (piece_literal row i k t is e n) h k refl

pub count_ends : (row : List ℕ) (i total v : ℕ) → length row ≤ i → total + length (packed (drop i row)) ≡ v → total ≡ v
count_ends row i total v h w = let z = rw (packed_none (drop i row) (rw length-drop (omega arith))) at w in omega arith

-- ---- what is written

-- the bytes `s` of a piece, pasted at the end of what is written
module _ (out out' s rest left v : List ℕ) (at m : ℕ) (a : length s ≡ m) (b : left ≡ s ++ rest) (c : out' ≡ paste out at s m) (d : at + length left ≡ length v) (f : length v ≤ length out) where
  sized : at + m + length rest ≡ length v
  sized = let z = rw (b, length-append) at d in omega arith

  put_length : length out' ≡ length out
  put_length = let z = sized in rw c (length-paste out at s m (omega arith) (omega arith))

  put_front : take at out ++ left ≡ v → take (at + m) out' ++ rest ≡ v
  put_front e =
      let z = sized in
      rw (c, take-paste out at s m (omega arith) (omega arith), take_all m s (omega arith), append_assoc (take at out) s rest, ← b) e

  put_rest : drop (length v) out' ≡ drop (length v) out
  put_rest =
      let z = sized in
      rw (← sized, ← drop-drop (length rest) (at + m) out', ← drop-drop (length rest) (at + m) out, c, drop-paste out at s m (omega arith) (omega arith))

-- a turn of the loop that writes: the buffer is n bytes long, and `left` is what is packed after the bytes that stand there
module _ (row : List ℕ) (i : ℕ) (r : Piece) (is : r ≡ piece_of (drop i row)) (h : i < length row) (out v : List ℕ) (at n : ℕ) (same : length out ≡ n) (room : length v ≤ n) (d : at + length (packed (drop i row)) ≡ length v) where
  module _ (k : ℕ) (e : r ≡ Repeat k) where
    ahead : at + 2 ≤ length v
    ahead = let z = rw (repeated row i r is h k e) at d in omega arith

    pub repeat_room : (2 ≤ k) × (k ≤ 128) × (at + 2 ≤ length out)
    repeat_room = let u = taken row i r is h (Repeat k) e in let z = ahead in (omega arith, u.1, omega arith)

    pub repeat_put :
        (out' w : List ℕ) → out' ≡ paste out at ((257 - k) ∷ get_or row i 0 ∷ []) 2 → take at out ++ packed (drop i row) ≡ v → drop (length v) out ≡ w →
        (i + k ≤ length row) × (length out' ≡ n) × (at + 2 + length (packed (drop (i + k) row)) ≡ length v) × (take (at + 2) out' ++ packed (drop (i + k) row) ≡ v) × (drop (length v) out' ≡ w)
    repeat_put out' w c f g =
        let s : List ℕ = (257 - k) ∷ get_or row i 0 ∷ [] in
        let u = taken row i r is h (Repeat k) e in let l = left row i r is h in
        let p = repeated row i r is h k e in
        let q = put_length out out' s (packed (drop (i + k) row)) (packed (drop i row)) v at 2 refl p c d (omega arith) in (
          omega arith,
          q ∙ same,
          sized out out' s (packed (drop (i + k) row)) (packed (drop i row)) v at 2 refl p c d (omega arith),
          put_front out out' s (packed (drop (i + k) row)) (packed (drop i row)) v at 2 refl p c d (omega arith) f,
          put_rest out out' s (packed (drop (i + k) row)) (packed (drop i row)) v at 2 refl p c d (omega arith) ∙ g,
        )

  module _ (k : ℕ) (e : r ≡ Literal k) where
    beyond : at + 1 + k ≤ length v
    beyond = let z = rw (copied row i r is h k e, length-append, long row i r is h k e) at d in omega arith

    pub literal_room : (1 ≤ k) × (k ≤ 128) × (i + k ≤ length row) × (at + 1 + k ≤ length out)
    literal_room = let u = taken row i r is h (Literal k) e in let l = left row i r is h in let z = beyond in (u.0, u.1, omega arith, omega arith)

    pub literal_at_fits : n < 2 ^ 64 → Fits w64 (at + (1 + k))
    literal_at_fits b = let z = beyond in omega arith

    pub literal_put :
        (out' w : List ℕ) → out' ≡ paste out at ((k - 1) ∷ take k (drop i row)) (1 + k) → take at out ++ packed (drop i row) ≡ v → drop (length v) out ≡ w →
        (i + k ≤ length row) × (length out' ≡ n) × (at + (1 + k) + length (packed (drop (i + k) row)) ≡ length v) × (take (at + (1 + k)) out' ++ packed (drop (i + k) row) ≡ v) × (drop (length v) out' ≡ w)
    literal_put out' w c f g =
        let s : List ℕ = (k - 1) ∷ take k (drop i row) in
        let u = taken row i r is h (Literal k) e in let l = left row i r is h in
        let p = copied row i r is h k e in
        let m : length s ≡ 1 + k = let z = long row i r is h k e in omega arith in
        let q = put_length out out' s (packed (drop (i + k) row)) (packed (drop i row)) v at (1 + k) m p c d (omega arith) in (
          omega arith,
          q ∙ same,
          sized out out' s (packed (drop (i + k) row)) (packed (drop i row)) v at (1 + k) m p c d (omega arith),
          put_front out out' s (packed (drop (i + k) row)) (packed (drop i row)) v at (1 + k) m p c d (omega arith) f,
          put_rest out out' s (packed (drop (i + k) row)) (packed (drop i row)) v at (1 + k) m p c d (omega arith) ∙ g,
        )

pub put_ends :
    (row out v w : List ℕ) (i at : ℕ) → length row ≤ i → at + length (packed (drop i row)) ≡ length v → take at out ++ packed (drop i row) ≡ v → drop (length v) out ≡ w → out ≡ v ++ w
put_ends row out v w i at h d e f =
    let z = packed_none (drop i row) (rw length-drop (omega arith)) in
    let a : at ≡ length v = (let y = rw z at d in omega arith) in
    let t : take at out ≡ v = sym (append-nil (take at out)) ∙ (rw z at e) in
    sym (take-append-drop at out) ∙ (rw (t, a, f))
