-- A loop over the places of a sound file, in file order: at each place it has a row of chunks still to come, whose bytes stand from
-- there up to the end. What the code reads at the place tells whether the first of them is a leaf or a group, and at the next place
-- the row is the rest, a group's members before what follows the group.
use Rattle.std.specs.Prelude.{ℕ, ◌+◌, ◌%◌, ◌≤◌, ◌≡◌, List, ◌++◌, length, drop}
use Rattle.std.proofs.Math.Seq.{slice}
use Rattle.iff_chunk.specs.Chunks.{Chunks, none, leaf, group, Chunk, before, bytes, word, next_at}
use Rattle.iff_tree.specs.Judge.{found, read_file}
use Rattle.iff_grammar.specs.Read.{Regular}
use Rattle.iff_walk.specs.Order.{join}

-- P are the chunks still to come at p: their bytes stand there, up to e
pub record Coming (s : List ℕ) (p e : ℕ) (P : Chunks) : Type 0 where
  pub short : length s ≤ 16777216
  pub regular : Regular P
  pub here : drop p s ≡ bytes P ++ drop e s
  pub ends : p + length (bytes P) ≡ e
  pub room : e ≤ length s

-- the first of them is a leaf
pub record AtLeaf (s : List ℕ) (p e : ℕ) (P : Chunks) : Type 0 where
  pub content : List ℕ
  pub pad : List ℕ
  pub rest : Chunks
  pub is : P ≡ leaf (word s p) content pad rest
  pub size : word s (p + 4) ≡ length content
  pub padded : length pad ≡ length content % 2
  pub part : slice (p + 8) (p + 8 + length content) s ≡ content
  pub ends : next_at s p ≤ e
  pub next : Coming s (next_at s p) e rest

-- the first of them is a group
pub record AtGroup (s : List ℕ) (p e : ℕ) (P : Chunks) : Type 0 where
  pub members : Chunks
  pub rest : Chunks
  pub is : P ≡ group (word s p) (word s (p + 8)) members rest
  pub size : word s (p + 4) ≡ 4 + length (bytes members)
  pub ends : next_at s p ≤ e
  pub inside : Coming s (p + 12) (next_at s p) members
  pub behind : Coming s (next_at s p) e rest
  pub next : Coming s (p + 12) e (join members rest)

-- what the check accepts, as reading finds it: the outermost chunk, still to come at 0
pub record Sound (s : List ℕ) (e : ℕ) : Type 0 where
  pub chunk : Chunk
  pub read : read_file s ≡ found chunk
  pub start : Coming s 0 e (before chunk none)
