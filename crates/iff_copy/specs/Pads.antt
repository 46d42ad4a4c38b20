-- One step of the copy: the pad of the chunk at a place.
use Rattle.std.specs.Prelude.{ℕ, ◌+◌, ◌%◌, List, eqb, set}
use Rattle.iff_name.specs.Name.{pick, kind_of}
use Rattle.iff_chunk.specs.Chunks.{word}
use Rattle.iff_rules.specs.Rules.{is_group}

-- the buffer with the pad of the chunk at p zero; a group has none, nor has a leaf of even size
abbrev pub pad_zeroed : List ℕ → ℕ → List ℕ → List ℕ
pad_zeroed s p out =
    pick (is_group (kind_of (word s p))) out
    (pick (eqb (word s (p + 4) % 2) 0) out
    (set out (p + 8 + word s (p + 4)) 0))
