-- A name or a size as four bytes and back: what a word written at a place reads as, and what bytes read as a word are written as.
use Rattle.std.specs.Prelude.{ℕ, ◌<◌, List, get_or}

-- bytes, as a slice of u8 has them
abbrev pub Bytes : List ℕ → Type 0
Bytes s = (i : ℕ) → get_or s i 0 < 256
