-- The members of a group in a sound file, as a loop over places meets them.
use Rattle.std.specs.Prelude.{ℕ, ◌+◌, ◌≤◌, ◌<◌, ◌≡◌, List, ◌++◌, length, drop}
use Rattle.std.specs.Prelude.{Option, Some, None}
use Rattle.std.proofs.Math.Option.{Option as Maybe, some, none as nothing}
use Rattle.std.proofs.Math.Seq.{slice}
use Rattle.iff_chunk.specs.Chunks.{Chunks, none, leaf, group, bytes, word}
use Rattle.iff_grammar.specs.Read.{Regular}
use Rattle.ilbm_spec.specs.Contents.{Located, located}
use Rattle.ilbm_members.specs.declared.Sibling.{Sibling}

-- From p to e the file s holds the chunks F, and then R to its end.
pub record Holds (s : List ℕ) (p e : ℕ) (F : Chunks) (R : List ℕ) : Type 0 where
  pub rest : drop p s ≡ bytes F ++ R
  pub regular : Regular F
  pub ends : p + length (bytes F) ≡ e
  pub inside : e ≤ length s
  pub short : length s ≤ 16777216

-- From p to e there are whole chunks.
abbrev pub Row : List ℕ → ℕ → ℕ → Type 0
Row s p e = (F : Chunks) × (R : List ℕ) × Holds s p e F R

-- a chunk stands in the file with this size and this data
pub record Stands (s : List ℕ) (x : Located) : Type 0 where
  pub size : word s (x.place + 4) ≡ length x.content
  pub part : slice (x.place + 8) (x.place + 8 + length x.content) s ≡ x.content
  pub inside : x.place + 8 + length x.content ≤ length s
  pub short : length s ≤ 16777216

-- a number is the place of a chunk, and none stands for none
abbrev pub Marks : List ℕ → Option ℕ → Maybe Located → Type 0
Marks s k nothing = k ≡ None
Marks s k (some x) = (k ≡ Some x.place) × Stands s x

-- What is read at p of the first of some chunks: its name, its data, and where the chunks after it stand.
abbrev pub Front : List ℕ → ℕ → ℕ → ℕ → ℕ → Chunks → List ℕ → Type 0
Front s p e name next none R = ⊥
Front s p e name next (leaf n d pad F) R = (name ≡ n) × Stands s (located p d) × Holds s next e F R
Front s p e name next (group n t G F) R = (name ≡ n) × Holds s next e F R

-- m is the member at p of a group that ends at e
pub record Tells (s : List ℕ) (p e : ℕ) (m : Sibling) : Type 0 where
  pub front : (F : Chunks) (R : List ℕ) → Holds s p e F R → Front s p e m.name.code m.next F R
  pub later : p < m.next
  pub inside : m.next ≤ e
