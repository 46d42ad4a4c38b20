-- The pieces of a packed row: where a repeat starts, and how far a repeat or a literal goes.
use Rattle.std.specs.Prelude.{ℕ, zero, suc, ◌+◌, ◌≡◌, List, [], ◌∷◌, Bool, false, get_or, eqb}
use Rattle.iff_name.specs.Name.{pick}
use Rattle.byterun_pieces.specs.declared.Piece.{Piece}
use Rattle.byterun_pieces.specs.declared.Piece.TheVariants.{Repeat, Literal}

-- "where three or more equal bytes start"
unfoldable pub three : List ℕ → Bool
three [] = false
three (a ∷ []) = false
three (a ∷ b ∷ []) = false
three (a ∷ b ∷ c ∷ xs) = pick (eqb a b) (eqb b c) false

-- how many bytes b stand at the left: "as many as there are, at most" so many
unfoldable pub same_for : ℕ → ℕ → List ℕ → ℕ
same_for zero b xs = 0
same_for (suc most) b [] = 0
same_for (suc most) b (x ∷ xs) = pick (eqb x b) (suc (same_for most b xs)) 0

-- four bytes b stand at i
abbrev pub Four : ℕ → ℕ → List ℕ → Type 0
Four b i xs = (get_or xs i 0 ≡ b) × (get_or xs (i + 1) 0 ≡ b) × (get_or xs (i + 2) 0 ≡ b) × (get_or xs (i + 3) 0 ≡ b)

-- how many bytes stand "up to where such a start comes, at most" so many
unfoldable pub plain_for : ℕ → List ℕ → ℕ
plain_for zero xs = 0
plain_for (suc most) [] = 0
plain_for (suc most) (x ∷ xs) = pick (three (x ∷ xs)) 0 (suc (plain_for most xs))

-- "write one repeat of as many as there are, at most 128; else a literal up to where such a start comes, at most 128 bytes"
unfoldable pub piece_of : List ℕ → Piece
piece_of xs = pick (three xs) (Repeat (same_for 128 (get_or xs 0 0) xs)) (Literal (plain_for 128 xs))
