-- A string of codes that unpacks to a row does so from any place of any BODY; literals and repeats are put before such strings.
use Rattle.std.specs.Prelude.{ℕ, suc, ◌+◌, ◌-◌, ◌<◌, ◌≤◌, ◌≡◌, refl, List, [], ◌∷◌, ◌++◌, length, get_or, take, drop, replicate}
use Rattle.std.proofs.Common.{sym, ap, ◌∙◌, append_assoc, length-append, get_or-append-add, take_at, le-leb, lt-ltb, le-ltb, ne_eqb, arith, add-zero}
use Rattle.std.proofs.lemmas.List.{length-replicate}
use Rattle.std.proofs.Math.Seq.{drop-append_seam, take-append_seam, get_or-append_seam, drop-append-add}
use Rattle.byterun_row.specs.ByteRun.{Row, filled, code_of, prepend, unpack_row, plain_row}
use Rattle.byterun_row.proofs.laws.Steps.{row_none, row_step}
use Rattle.byterun_row.specs.declared.Code.TheVariants.{Copy, Repeat}
use Rattle.byterun_row.specs.Packing.{Packs}

pub packs_unpack : (bytes row : List ℕ) → Packs bytes row → (pre rest : List ℕ) → unpack_row (pre ++ (bytes ++ rest)) (length pre) (length row) ≡ filled row (length pre + length bytes)
unfolding Packs
packs_unpack bytes row p = p

pub packs_none : Packs [] []
unfolding Packs
packs_none pre rest = row_none (pre ++ rest) (length pre) 0 refl ∙ ap (λ (k : ℕ). filled [] k) (sym (add-zero (length pre)))

copy_code :
    (body : List ℕ) (i left k : ℕ) → i < length body → get_or body i 0 ≡ k - 1 → 1 ≤ k → k ≤ 128 → k ≤ left → i + 1 + k ≤ length body → code_of body i left ≡ Copy k
unfolding code_of
copy_code body i left k h e a b l m =
    let z : k - 1 + 1 ≡ k = omega arith in
    simp (lt-ltb _ _ h, e, ne_eqb (k - 1) 128 (λ q. omega arith), lt-ltb (k - 1) 128 (omega arith), z, le-ltb left k l, le-ltb (length body - (i + 1)) k (omega arith))

repeat_code :
    (body : List ℕ) (i left k : ℕ) → i < length body → get_or body i 0 ≡ 257 - k → 2 ≤ k → k ≤ 128 → k ≤ left → i + 2 ≤ length body →
    code_of body i left ≡ Repeat (get_or body (i + 1) 0) k
unfolding code_of
repeat_code body i left k h e a b l m =
    let z : 257 - (257 - k) ≡ k = omega arith in
    simp (lt-ltb _ _ h, e, ne_eqb (257 - k) 128 (λ q. omega arith), le-ltb (257 - k) 128 (omega arith), z, le-ltb left k l, le-ltb (length body - (i + 1)) 1 (omega arith))

-- the code and data bytes `head` stand for the bytes `out` of a row that has room for them
Piece : List ℕ → List ℕ → Type 0
Piece head out =
    (pre tail : List ℕ) (left : ℕ) → length out ≤ left →
    unpack_row (pre ++ (head ++ tail)) (length pre) left ≡ prepend out (unpack_row (pre ++ (head ++ tail)) (length pre + length head) (left - length out))

packs_piece : (head out bytes row : List ℕ) → Piece head out → Packs bytes row → Packs (head ++ bytes) (out ++ row)
unfolding Packs Piece
packs_piece head out bytes row f p pre rest =
    let stays : length (out ++ row) - length out ≡ length row = rw length-append (omega arith) in
    let along : length pre + length head ≡ length (pre ++ head) = sym (length-append pre head) in
    let moved : pre ++ (head ++ (bytes ++ rest)) ≡ (pre ++ head) ++ (bytes ++ rest) = sym (append_assoc pre head (bytes ++ rest)) in
    let ends : length (pre ++ head) + length bytes ≡ length pre + length (head ++ bytes) = rw (length-append pre head, length-append head bytes) (omega arith) in
    let inner : unpack_row (pre ++ (head ++ (bytes ++ rest))) (length pre + length head) (length (out ++ row) - length out) ≡ filled row (length pre + length (head ++ bytes)) =
    rw (stays, along, moved, ← ends) (p (pre ++ head) rest) in
    rw (append_assoc head bytes rest) (f pre (bytes ++ rest) (length (out ++ row)) (rw length-append (omega arith)) ∙ ap (λ (r : Row). prepend out r) inner)

literal_piece : (bs : List ℕ) → 1 ≤ length bs → length bs ≤ 128 → Piece ((length bs - 1) ∷ bs) bs
unfolding Piece
literal_piece bs a b pre tail left l =
    row_step body (length pre) left (omega arith) ∙ rw (code, read) (ap (λ (k : ℕ). prepend bs (unpack_row body k (left - length bs))) along)
  where
    body : List ℕ
    body = pre ++ ((length bs - 1) ∷ (bs ++ tail))

    long : length body ≡ length pre + suc (length bs + length tail)
    long = rw (length-append, length-append)

    code : code_of body (length pre) left ≡ Copy (length bs)
    code = copy_code body (length pre) left (length bs) (rw long (omega arith)) (get_or-append_seam pre (length bs - 1) (bs ++ tail) 0) a b l (rw long (omega arith))

    read : take (length bs) (drop (length pre + 1) body) ≡ bs
    read = rw (drop-append-add pre ((length bs - 1) ∷ (bs ++ tail)) 1) (take_at bs tail (length bs) refl)

    along : length pre + 1 + length bs ≡ length pre + suc (length bs)
    along = omega arith

repeat_piece : (b k : ℕ) → 2 ≤ k → k ≤ 128 → Piece ((257 - k) ∷ b ∷ []) (replicate k b)
unfolding Piece
repeat_piece b k h m pre tail left l =
    let t : k ≤ left = rw length-replicate at l in
    row_step body (length pre) left (omega arith) ∙ rw (code t, read, length-replicate)
  where
    body : List ℕ
    body = pre ++ ((257 - k) ∷ b ∷ tail)

    long : length body ≡ length pre + suc (suc (length tail))
    long = rw length-append

    code : k ≤ left → code_of body (length pre) left ≡ Repeat (get_or body (length pre + 1) 0) k
    code t = repeat_code body (length pre) left k (rw long (omega arith)) (get_or-append_seam pre (257 - k) (b ∷ tail) 0) h m t (rw long (omega arith))

    read : get_or body (length pre + 1) 0 ≡ b
    read = get_or-append-add pre ((257 - k) ∷ b ∷ tail) 1 0

-- a literal of 1 to 128 bytes in front
pub packs_literal : (bs bytes row : List ℕ) → 1 ≤ length bs → length bs ≤ 128 → Packs bytes row → Packs ((length bs - 1) ∷ (bs ++ bytes)) (bs ++ row)
packs_literal bs bytes row a b p = packs_piece ((length bs - 1) ∷ bs) bs bytes row (literal_piece bs a b) p

-- a repeat of 2 to 128 bytes in front
pub packs_repeat : (b k : ℕ) (bytes row : List ℕ) → 2 ≤ k → k ≤ 128 → Packs bytes row → Packs ((257 - k) ∷ b ∷ bytes) (replicate k b ++ row)
packs_repeat b k bytes row h m p = packs_piece ((257 - k) ∷ b ∷ []) (replicate k b) bytes row (repeat_piece b k h m) p

-- a plain row, from any place in any BODY, is read as it stands
pub plain_stands : (row pre rest : List ℕ) → plain_row (pre ++ (row ++ rest)) (length pre) (length row) ≡ filled row (length pre + length row)
unfolding plain_row
plain_stands row pre rest =
    let n : length (pre ++ (row ++ rest)) ≡ length pre + (length row + length rest) = rw (length-append pre (row ++ rest), length-append row rest) in
    let h : length row ≤ length (pre ++ (row ++ rest)) - length pre = rw n (omega arith) in
    let e : take (length row) (drop (length pre) (pre ++ (row ++ rest))) ≡ row = rw (drop-append_seam pre (row ++ rest)) (take-append_seam row rest) in
    simp (le-leb (length row) (length (pre ++ (row ++ rest)) - length pre) h, e)
