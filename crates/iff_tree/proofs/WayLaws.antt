-- The walk's next place is that of the next chunk, so it comes to the places in the order in which the search for repeats does.
use Prim.Native.Nat.{ℕ}
use mathlib.Core.Path.{◌≡◌, sym, ◌∙◌}
use mathlib.Core.List.{List}
use Rattle.iff_rules.specs.declared.Position.{Position}
use Rattle.iff_chunk.specs.Chunks.{Chunk, next_at}
use Rattle.iff_tree.specs.Judge.{Found, found, refused, step_of}
use Rattle.iff_repeated_props.proofs.RepeatLaws.{OnWay, way_start, way_next, settled_at, settled_none}
use Rattle.iff_refusal.specs.Numbers.{Answer}
use Rattle.std.specs.Prelude.{Ok}
use Rattle.iff_tree.proofs.WalkLaws.{same_step}

answered_next :
    (s : List ℕ) (w : Position) (p n : ℕ) (f : Found Chunk) (x : Position) (m q : ℕ) → Ok (x, m, q) ≡ step_of s w p n f → q ≡ next_at s p
answered_next s w p n (found c) x m q i = (same_step _ _ _ _ _ _ i).2
answered_next s w p n (refused a b) x m q i = absurd cc

pub way_more :
    (s : List ℕ) (from : ℕ) (w : Position) (p n : ℕ) (f : Found Chunk) (r : Answer (Position × ℕ × ℕ)) (x : Position) (m q : ℕ) →
    r ≡ step_of s w p n f → r ≡ Ok (x, m, q) → OnWay s from p → OnWay s from q
way_more s from w p n f r x m q d i o = way_next s from p q (answered_next s w p n f x m q (sym i ∙ d)) o

pub ruleset way_laws = (way_start, way_more, settled_at, settled_none)
