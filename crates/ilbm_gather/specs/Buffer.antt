-- The plane rows of a buffer, and the pixels of one byte of them.
use Rattle.std.specs.Prelude.{ℕ, zero, suc, ◌+◌, ◌-◌, ◌*◌, List, [], ◌∷◌, take, drop}
use Rattle.ilbm_spec.specs.Rows.{colour_by}
use Rattle.ilbm_spread.specs.Spread.{eight}

-- m rows of n bytes, one after the other, from row k on
unfoldable pub rows_in : ℕ → ℕ → ℕ → List ℕ → List (List ℕ)
rows_in n zero k buffer = []
rows_in n (suc m) k buffer = take n (drop (k * n) buffer) ∷ rows_in n m (suc k) buffer

-- the colour numbers of the eight pixels of a byte, of the planes from k on
unfoldable pub eight_from : ℕ → ℕ → ℕ → ℕ → List ℕ → ℕ
eight_from n planes byte k buffer = eight (λ i. colour_by 1 (8 * byte + i) (rows_in n (planes - k) k buffer))
