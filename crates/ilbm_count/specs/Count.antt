-- The count of a file's pictures.
use Rattle.std.specs.Prelude.{ℕ, ◌+◌, List, length}
use Rattle.iff_name.specs.Name.{pick}
use Rattle.iff_chunk.specs.Chunks.{Chunks, Chunk, word}
use Rattle.iff_walk.specs.Coming.{Coming}
use Rattle.iff_tree.specs.Judge.{Found, found, refused, read_file}
use Rattle.ilbm_spec.specs.Names.{is_picture}
use Rattle.ilbm_spec.specs.Contents.{contents_of}
use Rattle.iff_refusal.specs.Numbers.{Answer, refusing}
use Rattle.std.specs.Prelude.{Ok}

-- "Each FORM ILBM at any depth is a picture": as many as there are contents
abbrev pub count_in : Found Chunk → Answer ℕ
count_in (found c) = Ok (length (contents_of c))
count_in (refused k p) = refusing k p

abbrev pub count_of : List ℕ → Answer ℕ
count_of s = count_in (read_file s)

-- 1 if a picture stands at p, else 0
abbrev pub form_at : List ℕ → ℕ → ℕ
form_at s p = pick (is_picture (word s p) (word s (p + 8))) 1 0

-- whole chunks stand from p to the end
abbrev pub Standing : List ℕ → ℕ → ℕ → Type 0
Standing s p e = (P : Chunks) × Coming s p e P
