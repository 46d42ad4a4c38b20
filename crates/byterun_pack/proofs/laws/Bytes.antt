-- A packed row of bytes is bytes: every code is below 256, and the others are the row's own.
use Rattle.std.specs.Prelude.{ℕ, zero, suc, ◌-◌, ◌≤◌, List, [], ◌∷◌, ◌++◌, length, get_or, take, drop}
use Rattle.std.proofs.Common.{length-drop, arith}
use Rattle.byterun_row.proofs.laws.Bytes.{Bytes, bytes_none, bytes_cons, bytes_at, bytes_append, bytes_take, bytes_drop}
use Rattle.byterun_pieces.specs.Pieces.{piece_of}
use Rattle.byterun_pack.specs.Pack.{on_piece, packed}
use Rattle.byterun_pack.proofs.laws.Packed.{Taken, piece_taken, packed_none, packed_step}
use Rattle.byterun_pieces.specs.declared.Piece.{Piece}
use Rattle.byterun_pieces.specs.declared.Piece.TheVariants.{Repeat, Literal}

bytes_piece :
    (f : ℕ) (xs : List ℕ) → length xs ≤ suc f → Bytes xs → ((ys : List ℕ) → length ys ≤ f → Bytes ys → Bytes (packed ys)) → (p : Piece) → Taken xs p →
    Bytes (on_piece xs (λ ys. packed ys) p)
bytes_piece f xs l b ih (Repeat k) u =
    let r = ih (drop k xs) (rw length-drop (omega arith)) (bytes_drop k xs b) in
    bytes_cons (257 - k) (get_or xs 0 0 ∷ packed (drop k xs)) (omega arith) (bytes_cons (get_or xs 0 0) (packed (drop k xs)) (bytes_at xs b 0) r)
bytes_piece f xs l b ih (Literal k) u =
    let r = ih (drop k xs) (rw length-drop (omega arith)) (bytes_drop k xs b) in
    bytes_cons (k - 1) (take k xs ++ packed (drop k xs)) (omega arith) (bytes_append (take k xs) (packed (drop k xs)) (bytes_take k xs b) r)

bytes_nil : (xs : List ℕ) → length xs ≤ 0 → Bytes (packed xs)
bytes_nil xs l = rw (packed_none xs (omega arith)) bytes_none

bytes_more :
    (f : ℕ) (xs : List ℕ) → length xs ≤ suc f → Bytes xs → ((ys : List ℕ) → length ys ≤ f → Bytes ys → Bytes (packed ys)) → Bytes (packed xs)
bytes_more f [] l b ih = bytes_nil [] (omega arith)
bytes_more f (x ∷ xs) l b ih =
    rw (packed_step (x ∷ xs) (omega arith)) (bytes_piece f (x ∷ xs) l b ih (piece_of (x ∷ xs)) (piece_taken (x ∷ xs) (omega arith)))

bytes_by : (f : ℕ) (xs : List ℕ) → length xs ≤ f → Bytes xs → Bytes (packed xs)
bytes_by zero xs l b = bytes_nil xs l
bytes_by (suc f) xs l b = bytes_more f xs l b (λ ys m c. bytes_by f ys m c)

pub packed_bytes : (row : List ℕ) → Bytes row → Bytes (packed row)
packed_bytes row b = bytes_by (length row) row (omega arith) b
