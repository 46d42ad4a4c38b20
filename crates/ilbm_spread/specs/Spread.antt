-- Eight pixels as one word, the first one in the lowest byte, and the table of spread bytes.
use Rattle.std.specs.Prelude.{ℕ, ◌+◌, ◌-◌, ◌*◌, ◌/◌, ◌%◌, ◌^◌, ◌<◌, ◌≡◌, List, [], ◌∷◌, get_or}

-- the word whose byte j, counted from the lowest, is f j
abbrev pub eight : (ℕ → ℕ) → ℕ
eight f =
    f 0 + f 1 * 256 + f 2 * 65536 + f 3 * 16777216 + f 4 * 4294967296
    + f 5 * 1099511627776 + f 6 * 281474976710656 + f 7 * 72057594037927936

-- the bytes of a word, the lowest first
abbrev pub bytes_of : ℕ → List ℕ
bytes_of v =
    v % 256 ∷ v / 256 % 256 ∷ v / 65536 % 256 ∷ v / 16777216 % 256 ∷ v / 4294967296 % 256
    ∷ v / 1099511627776 % 256 ∷ v / 281474976710656 % 256 ∷ v / 72057594037927936 ∷ []

-- 02, Ask 3: "byte j of entry b, counted from the lowest, is bit 7 - j of b"
abbrev pub spread_of : ℕ → ℕ
spread_of b = eight (λ j. b / 2 ^ (7 - j) % 2)

-- "one constant table of 256 64-bit words"
unfoldable pub IsSpread : List ℕ → Type 0
IsSpread table = (b : ℕ) → b < 256 → get_or table b 0 ≡ spread_of b
