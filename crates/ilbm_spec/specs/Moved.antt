-- What it is that chunks stand elsewhere: the same chunks, and what is told of them with its places moved.
use Rattle.std.specs.Prelude.{ℕ, ◌+◌, ◌≡◌}
use mathlib.Core.List.{List, [], ◌∷◌}
use Rattle.std.proofs.Math.Option.{Option, some, none as nothing}
use Rattle.std.proofs.Math.ListN.{length}
use Rattle.iff_chunk.specs.Chunks.{Chunks, none, leaf, group, bytes}
use Rattle.ilbm_spec.specs.Contents.{Located, Scope, Content, moved_located, moved_property, moved_content}
use Rattle.ilbm_spec.specs.Ignored.{Known}

abbrev pub moved_option : (ℕ → ℕ) → Option Located → Option Located
moved_option f (some x) = some (moved_located f x)
moved_option f nothing = nothing

abbrev pub map_contents : (ℕ → ℕ) → List Content → List Content
map_contents move [] = []
map_contents move (c ∷ cs) = moved_content move c ∷ map_contents move cs

-- Every chunk among these is moved from where it stands, with the first of them at p, to where it stands with the first at p'.
abbrev pub ChunksMove : (ℕ → ℕ) → ℕ → ℕ → Chunks → Type 0
ChunksMove move p p' none = Unit {0}
ChunksMove move p p' (leaf n d pad F) =
    (move p ≡ p') × ChunksMove move (p + (8 + length d + length pad)) (p' + (8 + length d + length pad)) F
ChunksMove move p p' (group n t G F) =
    (move p ≡ p') × ChunksMove move (p + 12) (p' + 12) G × ChunksMove move (p + (12 + length (bytes G))) (p' + (12 + length (bytes G))) F

-- the scopes give each property alike, its places moved
abbrev pub SameScope : (ℕ → ℕ) → Scope → Scope → Type 0
SameScope move scope scope' = (name : ℕ) → Known name → scope' name ≡ moved_property move (scope name)
