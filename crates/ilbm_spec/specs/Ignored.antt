-- Chunks that no picture looks at, and the names that pictures look for.
use Rattle.std.specs.Prelude.{ℕ, ◌+◌, ◌≡◌, Bool, true, false, eqb, length}
use Rattle.iff_chunk.specs.Chunks.{Chunk, a_leaf, a_group, bytes}
use Rattle.ilbm_spec.specs.Names.{BMHD, CMAP, GRAB, DEST, SPRT, CAMG, BODY, is_picture_type, foreign}
use Rattle.ilbm_spec.specs.Contents.{no_picture}

-- no picture looks at this chunk
abbrev pub Ignored : Chunk → Type 0
Ignored (a_leaf n d p) = foreign n ≡ true
Ignored (a_group n t G) = (is_picture_type t ≡ false) × (no_picture G ≡ true)

-- how many bytes a chunk has, with its header and pad
abbrev pub span : Chunk → ℕ
span (a_leaf n d p) = 8 + length d + length p
span (a_group n t G) = 12 + length (bytes G)

-- a test that no foreign chunk's name passes, and a name that no foreign chunk has
abbrev pub Passes : (ℕ → Bool) → Type 0
Passes ends = (n : ℕ) → foreign n ≡ true → ends n ≡ false

abbrev pub Known : ℕ → Type 0
Known name = Passes (λ n. eqb n name)

-- the seven tests of `foreign`
abbrev pub Seven : (ℕ → Type 0) → Type 0
Seven P = P BMHD × P CMAP × P GRAB × P DEST × P SPRT × P CAMG × P BODY
