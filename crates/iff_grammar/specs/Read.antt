-- What is read at a place of a file from which on chunks stand as they are written: the first chunk's name, size and type, where
-- it ends, and what stands there. A size is under 2^32 because the file is short; a group's size is even, so it has no pad.
use Rattle.std.specs.Prelude.{◌%◌, ◌<◌, ◌≡◌, true, false, length}
use Rattle.iff_name.specs.Codes.{PROP}
use Rattle.iff_name.specs.Name.{kind_of}
use Rattle.iff_chunk.specs.Chunks.{Chunks, none, leaf, group}
use Rattle.iff_rules.specs.Rules.{is_group}

-- chunks of which none is a group
abbrev pub Flat : Chunks → Type 0
Flat none = Unit {0}
Flat (leaf n d p F) = Flat F
Flat (group n t G F) = ⊥

-- Chunks that read back as they are written: names and types have four bytes, the kind fits the name, pads are as long as they must be;
-- and a PROP holds no group.
abbrev pub Regular : Chunks → Type 0
Regular none = Unit {0}
Regular (leaf n d p F) = (is_group (kind_of n) ≡ false) × (n < 4294967296) × (length p ≡ length d % 2) × Regular F
Regular (group n t G F) = (is_group (kind_of n) ≡ true) × (n < 4294967296) × (t < 4294967296) × Regular G × Regular F × (n ≡ PROP → Flat G)
