-- The packing of one row by ByteRun1.
use Rattle.std.specs.Prelude.{ℕ, zero, suc, ◌+◌, ◌-◌, ◌/◌, List, [], ◌∷◌, ◌++◌, length, get_or, take, drop, ltb, eqb}
use Rattle.iff_name.specs.Name.{pick}
use Rattle.byterun_pieces.specs.declared.Piece.{Piece}
use Rattle.byterun_pieces.specs.declared.Piece.TheVariants.{Repeat, Literal}
use Rattle.byterun_pieces.specs.Pieces.{piece_of}
use Rattle.iff_refusal.specs.declared.Reason.TheVariants.{RowLength, NoRoom}
use Rattle.iff_refusal.specs.declared.Reason.{Reason}
use Rattle.iff_refusal.specs.Numbers.{number_of}
use Rattle.std.specs.Prelude.{Ok, Err, Result}

-- a piece written, and what is left of the row packed after it
abbrev pub on_piece : List ℕ → (List ℕ → List ℕ) → Piece → List ℕ
on_piece xs more (Repeat k) = (257 - k) ∷ get_or xs 0 0 ∷ more (drop k xs)
on_piece xs more (Literal k) = (k - 1) ∷ (take k xs ++ more (drop k xs))

-- "From the left": by at most `fuel` pieces
unfoldable pub pack_by : ℕ → List ℕ → List ℕ
pack_by zero xs = []
pack_by (suc fuel) xs = pick (ltb 0 (length xs)) (on_piece xs (λ ys. pack_by fuel ys) (piece_of xs)) []

-- A row packed. Every piece takes a byte of the row, so its length is fuel enough.
unfoldable pub packed : List ℕ → List ℕ
packed row = pack_by (length row) row

-- 31 for a row of no bytes or of more than 8,192; 32 if the result is longer than the room; else the result's length
abbrev pub pack_of : List ℕ → ℕ → Result ℕ Reason
pack_of row room =
    pick (eqb (length row) 0) (Err RowLength)
    (pick (ltb 8192 (length row)) (Err RowLength)
    (pick (ltb room (length (packed row))) (Err NoRoom) (Ok (length (packed row)))))

-- the buffer after an answer: the packed row and what stood after it, or as it was
abbrev pub out_after : Result ℕ Reason → List ℕ → List ℕ → List ℕ
out_after (Ok k) row out = packed row ++ drop k out
out_after (Err k) row out = out

-- the number of an answer, and the length that it tells
abbrev pub pack_number : Result ℕ Reason → ℕ
pack_number (Ok k) = 0
pack_number (Err k) = number_of k

abbrev pub length_of : Result ℕ Reason → ℕ
length_of (Ok k) = k
length_of (Err k) = 0

-- "a packed row grows by at most one byte per started 128": the most bytes for a row of n
abbrev pub most_for : ℕ → ℕ
most_for n = n + (n + 127) / 128
