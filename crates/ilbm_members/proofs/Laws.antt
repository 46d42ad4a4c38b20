-- What one turn of a loop over members does: the first chunk is read, and the loop goes on with those after it.
use Prim.Native.Nat.{ℕ, ◌+◌, ◌-◌, ◌*◌, ◌/◌, ◌≤◌, ◌<◌}
use mathlib.Core.Path.{◌≡◌, refl, ◌∙◌}
use Rattle.std.specs.Prelude.{Option, Some, None}
use mathlib.Core.Bool.{true, false}
use mathlib.Core.List.{List}
use lib.Dec.{eqb}
use lib.ListN.{length}
use borrow.Author.Tests.{ne_eqb}
use native.Mathlib.Omega.{arith}
use Rattle.iff_name.specs.Name.{kind_of}
use Rattle.iff_chunk.specs.Chunks.{Chunks, none, leaf, group, bytes, word, next_at}
use Rattle.iff_rules.specs.Rules.{is_group}
use Rattle.iff_grammar.proofs.laws.Read.{leaf_fits, leaf_name, leaf_size, leaf_data, leaf_next, leaf_rest, group_name, group_next}
use Rattle.iff_grammar.proofs.laws.Read.{group_rest}
use Rattle.iff_grammar.proofs.laws.Read.{length_leaf, length_group}
use Rattle.ilbm_members.specs.declared.Sibling.{Sibling}
use Rattle.ilbm_members.specs.Members.{Holds, Row, Front, Tells}

-- no chunks take no room
empty : length (bytes none) ≡ 0
unfolding bytes
empty = refl

-- a header lies inside the file
pub row_room : (s : List ℕ) (p e : ℕ) → Row s p e → p < e → p + 8 ≤ length s
row_room s p e (none, R, h) l = absurd (omega (arith, empty, h.ends))
row_room s p e (leaf n d pd F, R, h) l = omega (arith, length_leaf n d pd F, h.ends, h.inside)
row_room s p e (group n t G F, R, h) l = omega (arith, length_group n t G F, h.ends, h.inside)

module _ (s : List ℕ) (p e n z : ℕ) (a : n ≡ word s p) (b : z ≡ word s (p + 4)) (l : p < e) where
  next_is : p + 8 + (z + 1) / 2 * 2 ≡ next_at s p
  next_is = rw (← b) (omega arith)

  pub front_read : (F : Chunks) (R : List ℕ) → Holds s p e F R → Front s p e n (p + 8 + (z + 1) / 2 * 2) F R
  front_read none R h = absurd (omega (arith, empty, h.ends))
  front_read (leaf m d pd F) R h =
      let x = h.regular in
      let f = leaf_fits s p m d pd F R x h.short h.rest in
      let w = leaf_next s p m d pd F R x h.short h.rest in
      let v = length_leaf m d pd F in (
        a ∙ leaf_name s p m d pd F R x h.short h.rest,
        record {
          size = leaf_size s p m d pd F R x h.short h.rest;
          part = leaf_data s p m d pd F R x h.short h.rest;
          inside = omega (arith, h.ends, h.inside);
          short = h.short;
        },
        rw next_is (record {
          rest = leaf_rest s p m d pd F R x h.short h.rest;
          regular = x.3;
          ends = omega (
            arith,
            h.ends,
          );
          inside = h.inside;
          short = h.short;
        }),
      )
  front_read (group m t G F) R h =
      let x = h.regular in
      let w = group_next s p m t G F R x h.short h.rest in
      let v = length_group m t G F in (
        a ∙ group_name s p m t G F R x h.short h.rest,
        rw next_is (record {
          rest = group_rest s p m t G F R x h.short h.rest;
          regular = x.4;
          ends = omega (
            arith,
            h.ends,
          );
          inside = h.inside;
          short = h.short;
        }),
      )

  next_inside : (F : Chunks) (R : List ℕ) → Front s p e n (p + 8 + (z + 1) / 2 * 2) F R → p + 8 + (z + 1) / 2 * 2 ≤ e
  next_inside none R f = absurd f
  next_inside (leaf m d pd F) R f = omega (arith, f.2.ends)
  next_inside (group m t G F) R f = omega (arith, f.1.ends)

  pub sibling_inside : Row s p e → p + 8 + (z + 1) / 2 * 2 ≤ e
  sibling_inside (F, R, h) = next_inside F R (front_read F R h)

pub row_next : (s : List ℕ) (q e : ℕ) (m : Sibling) → Row s q e → Tells s q e m → Row s m.next e
row_next s q e m (F, R, h) t = go F R (t.front F R h)
  where
    go : (F : Chunks) (R : List ℕ) → Front s q e m.name.code m.next F R → Row s m.next e
    go none R f = absurd f
    go (leaf n d p F) R f = (F, R, f.2)
    go (group n t G F) R f = (F, R, f.1)

-- where the first chunk ends, the next one stands
pub leaf_steps :
    (s : List ℕ) (q e name next n : ℕ) (d pd : List ℕ) (F : Chunks) (R : List ℕ) → Holds s q e (leaf n d pd F) R →
    Front s q e name next (leaf n d pd F) R → q + (8 + length d + length pd) ≡ next
leaf_steps s q e name next n d pd F R h f = omega (arith, length_leaf n d pd F, h.ends, f.2.ends)

pub group_steps :
    (s : List ℕ) (q e name next n t : ℕ) (G F : Chunks) (R : List ℕ) → Holds s q e (group n t G F) R →
    Front s q e name next (group n t G F) R → q + (12 + length (bytes G)) ≡ next
group_steps s q e name next n t G F R h f = omega (arith, length_group n t G F, h.ends, f.1.ends)

-- where the end is reached no chunk is left
pub all_read : (s : List ℕ) (q e : ℕ) (F : Chunks) (R : List ℕ) → e ≤ q → Holds s q e F R → F ≡ none
all_read s q e none R l h = refl
all_read s q e (leaf n d p F) R l h = absurd (omega (arith, length_leaf n d p F, h.ends))
all_read s q e (group n t G F) R l h = absurd (omega (arith, length_group n t G F, h.ends))

-- a name of no group is no group's name
pub no_group : (n name : ℕ) → is_group (kind_of n) ≡ true → is_group (kind_of name) ≡ false → eqb n name ≡ false
no_group n name g h = ne_eqb n name (λ i. let z : ◌≡◌ {A = ℕ} 0 1 = cc in omega arith)

pub row_le : (s : List ℕ) (p e : ℕ) → Row s p e → p ≤ e
row_le s p e (F, R, h) = omega (arith, h.ends)

-- what keeps the loops going
module _ (s : List ℕ) (q e : ℕ) (m : Sibling) (t : Tells s q e m) where
  pub more_room : m.next ≤ e
  more_room = t.inside

  pub more_less : q < e → e - m.next < e - q
  more_less h = omega (arith, t.later, t.inside)

-- a place is one, or there is none
module _ (k : Option ℕ) (p : ℕ) where
  pub none_some : k ≡ None → k ≡ Some p → ⊥
  none_some a b = let z : ◌≡◌ {A = ℕ} 0 1 = cc in omega arith

  pub some_same : (x : ℕ) → k ≡ Some p → k ≡ Some x → p ≡ x
  some_same x a b = cc
