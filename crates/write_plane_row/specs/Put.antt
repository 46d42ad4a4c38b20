-- Bytes that are put into a buffer.
use Rattle.std.specs.Prelude.{ℕ, ◌+◌, ◌≤◌, List, ◌++◌, length, take, drop}

-- these bytes at a place of a buffer
abbrev pub put : List ℕ → ℕ → List ℕ → List ℕ
put out at bs = take at out ++ (bs ++ drop (at + length bs) out)

-- these bytes fit a buffer from a place on, and a file
pub record Room (bs out : List ℕ) (at : ℕ) : Type 0 where
  pub fits : at + length bs ≤ length out
  pub short : at + length bs ≤ 16777216
