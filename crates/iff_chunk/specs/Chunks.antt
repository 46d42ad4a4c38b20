-- Chunks in a row, the bytes that they are written as, and what stands at a place of a file.
use Rattle.std.specs.Prelude.{ℕ, ◌+◌, ◌*◌, ◌%◌, List, [], ◌∷◌, ◌++◌, length, get_or}
use Rattle.iff_name.specs.Name.{byte0, byte1, byte2, byte3}

-- Chunks in a row, as the members of a group stand: none, or a chunk and the rest.
-- A leaf is a local chunk or a filler: its name, its data and its pad. A group: its name, its type and its members.
pub data Chunks : Type 0 where
  none : Chunks
  leaf : ℕ → List ℕ → List ℕ → Chunks → Chunks
  group : ℕ → ℕ → Chunks → Chunks → Chunks

-- One chunk by itself.
pub data Chunk : Type 0 where
  a_leaf : ℕ → List ℕ → List ℕ → Chunk
  a_group : ℕ → ℕ → Chunks → Chunk

-- a chunk before others
abbrev pub before : Chunk → Chunks → Chunks
before (a_leaf n d p) F = leaf n d p F
before (a_group n t G) F = group n t G F

-- the four bytes of a name or a size, the highest first, before others
abbrev pub put_word : ℕ → List ℕ → List ℕ
put_word n xs = byte0 n ∷ byte1 n ∷ byte2 n ∷ byte3 n ∷ xs

-- "A chunk is a name, a big-endian 32-bit size, that many bytes, and one pad byte if the size is odd." A group's "data begins
-- with a type, then whole chunks up to the end"; "Sizes leave out the pad."
unfoldable pub bytes : Chunks → List ℕ
bytes none = []
bytes (leaf n d p F) = put_word n (put_word (length d) (d ++ (p ++ bytes F)))
bytes (group n t G F) = put_word n (put_word (4 + length (bytes G)) (put_word t (bytes G ++ bytes F)))

-- how many chunks there are, at any depth
unfoldable pub count : Chunks → ℕ
count none = 0
count (leaf n d p F) = 1 + count F
count (group n t G F) = 1 + count G + count F

-- the number that the four bytes from p on give: a name or a size
unfoldable pub word : List ℕ → ℕ → ℕ
word s p = get_or s p 0 * 16777216 + get_or s (p + 1) 0 * 65536 + get_or s (p + 2) 0 * 256 + get_or s (p + 3) 0

-- where the chunk at p ends, its pad included
abbrev pub next_at : List ℕ → ℕ → ℕ
next_at s p = p + 8 + word s (p + 4) + word s (p + 4) % 2
