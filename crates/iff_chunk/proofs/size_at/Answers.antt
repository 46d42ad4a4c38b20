-- The four bytes lie in the file, as is required, and std joins them as `word` does.
use native.Mathlib.Omega.{arith}
use Rattle.iff_chunk.specs.Chunks.{word}
use Rattle.iff_chunk.proofs.size_at.Goals as goal

pub returns : goal.returns
unfolding word
returns c = omega (arith, c.from_be_bytes.ensures)
