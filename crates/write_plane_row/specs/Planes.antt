-- 01 "Writing" and "Rows": a plane row for a line of colour numbers.
use Rattle.std.specs.Prelude.{ℕ, zero, suc, ◌+◌, ◌*◌, ◌/◌, ◌%◌, List, [], ◌∷◌, get_or}

-- "with weight 2^k": the bit that a colour number has in the plane of this weight
abbrev pub colour_bit : ℕ → ℕ → ℕ
colour_bit weight c = c / weight % 2

-- "the bit 7 - (x mod 8) of byte floor(x/8)": the bits of eight pixels, the first the highest
abbrev pub eight_bits : ℕ → ℕ → ℕ → ℕ → ℕ → ℕ → ℕ → ℕ → ℕ → ℕ
eight_bits weight a b c d e f g h =
    colour_bit weight a * 128 + colour_bit weight b * 64 + colour_bit weight c * 32 + colour_bit weight d * 16
    + colour_bit weight e * 8 + colour_bit weight f * 4 + colour_bit weight g * 2 + colour_bit weight h

-- pixel x of a line; a pixel from the line's end on has no bit, so "row bits from w on are 0"
abbrev pub pixel : List ℕ → ℕ → ℕ
pixel line x = get_or line x 0

abbrev pub plane_bit : ℕ → List ℕ → ℕ → ℕ
plane_bit weight line x = colour_bit weight (pixel line x)

-- the bits of the eight pixels from x on
abbrev pub bits_from : ℕ → List ℕ → ℕ → ℕ
bits_from weight line x =
    eight_bits weight (pixel line x) (pixel line (x + 1)) (pixel line (x + 2)) (pixel line (x + 3))
    (pixel line (x + 4)) (pixel line (x + 5)) (pixel line (x + 6)) (pixel line (x + 7))

-- byte j of the plane of this weight
unfoldable pub plane_byte : ℕ → List ℕ → ℕ → ℕ
plane_byte weight line j = bits_from weight line (8 * j)

-- n bytes of that plane, from byte j on
unfoldable pub plane_row : ℕ → List ℕ → ℕ → ℕ → List ℕ
plane_row weight line j zero = []
plane_row weight line j (suc n) = plane_byte weight line j ∷ plane_row weight line (j + 1) n
