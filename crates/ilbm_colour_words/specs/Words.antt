-- Colours as numbers, so that a pixel is one look-up: the tables by which the colours of a scan line are made, and what they make.
use Rattle.std.specs.Prelude.{ℕ, ◌+◌, ◌*◌, ◌/◌, ◌%◌, ◌^◌, ◌<◌, ◌≡◌, Bool, true, List, [], ◌∷◌, ◌++◌, eqb, get_or}
use Rattle.std.specs.Int.Bits.{bit_and, bit_or}
use Rattle.iff_name.specs.Name.{either, pick}
use Rattle.ilbm_spec.specs.declared.Colour.{Colour}
use Rattle.ilbm_spec.specs.Rows.{Pixels, colour_numbers}
use Rattle.ilbm_spec.specs.Colours.{entry_at, level, chosen, given, number_colour}

-- a colour as one number, red lowest
abbrev pub packed : Colour → ℕ
packed c = c.red + c.green * 256 + c.blue * 65536

-- the bytes of its three parts
abbrev pub word_bytes : ℕ → List ℕ
word_bytes v = v % 256 ∷ v / 256 % 256 ∷ v / 65536 % 256 ∷ []

-- What makes a pixel's number of the one to its left and its colour number: a look-up, or the part that is kept and the part that is set.
abbrev pub WordStep : Type 0
WordStep = ℕ → ℕ → ℕ

abbrev pub by_palette : List ℕ → WordStep
by_palette words held code = get_or words code 0

abbrev pub by_holding : List ℕ → List ℕ → WordStep
by_holding keep set held code = bit_or (bit_and held (get_or keep code 0)) (get_or set code 0)

-- the bytes of pixels with these colour numbers, each number carried to the next one
unfoldable pub carried_words : WordStep → ℕ → List ℕ → List ℕ
carried_words step held [] = []
carried_words step held (code ∷ codes) = word_bytes (step held code) ++ carried_words step (step held code) codes

-- of the plane rows of a scan line
abbrev pub word_pixels : ℕ → ℕ → WordStep → Pixels
word_pixels w planes step plane_rows = carried_words step 0 (colour_numbers w planes plane_rows)

-- The table for pictures that go through their palette.
unfoldable pub IsPalette : Bool → List ℕ → List ℕ → Type 0
IsPalette halfBright palette words = (code : ℕ) → code < 256 → get_or words code 0 ≡ packed (number_colour halfBright palette code)

-- The tables for hold-and-modify: the bits of the parts that are held, and the part that is set.
unfoldable pub keep_of : ℕ → ℕ → ℕ
keep_of planes code =
    pick (eqb (chosen planes code) 0) 0
    (pick (eqb (chosen planes code) 1) 0x00FFFF
    (pick (eqb (chosen planes code) 2) 0xFFFF00
    0xFF00FF))

unfoldable pub set_of : ℕ → List ℕ → ℕ → ℕ
set_of planes palette code =
    let v : ℕ = given planes code in
    pick (eqb (chosen planes code) 0) (packed (entry_at palette v))
    (pick (eqb (chosen planes code) 1) (level planes v * 65536)
    (pick (eqb (chosen planes code) 2) (level planes v)
    (level planes v * 256)))

-- "6 or 8 planes"
abbrev pub SixOrEight : ℕ → Type 0
SixOrEight planes = either (eqb planes 6) (eqb planes 8) ≡ true

-- of all colour numbers that so many planes give
unfoldable pub IsKeep : ℕ → List ℕ → Type 0
IsKeep planes keep = (code : ℕ) → code < 2 ^ planes → get_or keep code 0 ≡ keep_of planes code

unfoldable pub IsSet : ℕ → List ℕ → List ℕ → Type 0
IsSet planes palette set = (code : ℕ) → code < 2 ^ planes → get_or set code 0 ≡ set_of planes palette code
