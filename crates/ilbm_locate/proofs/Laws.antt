-- What a group in a row of chunks shows of itself.
use Prim.Native.Nat.{ℕ, ◌+◌, ◌-◌, ◌*◌, ◌≤◌, ◌<◌}
use mathlib.Core.Path.{◌≡◌, refl, sym, ◌∙◌}
use mathlib.Core.Bool.{Bool, true, false}
use mathlib.Core.List.{List, ◌++◌}
use lib.ListN.{length}
use mir.Syntax.{w64}
use mir.Val.{Fits}
use native.Mathlib.Omega.{arith}
use Rattle.iff_name.specs.Name.{kind_of}
use Rattle.iff_name.specs.declared.Kind.{Kind}
use Rattle.iff_chunk.specs.Chunks.{Chunks, none, leaf, group, bytes, word}
use Rattle.iff_rules.specs.Rules.{is_group}
use Rattle.iff_grammar.proofs.laws.Read.{leaf_name, group_fits, group_name, group_size, group_type_lem, group_members, length_group}
use Rattle.ilbm_members.specs.Members.{Holds, Row}
use Rattle.ilbm_members.proofs.Laws.{row_room}
use Rattle.ilbm_locate.specs.Spots.{Opens, group_is, IsGroup, GroupAt}

pub empty : length (bytes none) ≡ 0
unfolding bytes
empty = refl

pub never : {A : Type 0} → true ≡ false → A
never e = absurd (let z : ◌≡◌ {A = ℕ} 0 1 = cc in omega arith)

-- the name at q of a leaf is no group's
pub leaf_no_group :
    (s : List ℕ) (q e n : ℕ) (d pd : List ℕ) (F : Chunks) (R : List ℕ) → Holds s q e (leaf n d pd F) R →
    is_group (kind_of (word s q)) ≡ true → ⊥
leaf_no_group s q e n d pd F R h g =
    let i = leaf_name s q n d pd F R h.regular h.short h.rest in
    let j : is_group (kind_of n) ≡ true = rw i at g in
    never (sym j ∙ h.regular.0)

pub group_room : (s : List ℕ) (q e : ℕ) → Row s q e → q < e → is_group (kind_of (word s q)) ≡ true → q + 12 ≤ length s
group_room s q e (none, R, h) l g = absurd (omega (arith, empty, h.ends))
group_room s q e (leaf n d pd F, R, h) l g = absurd (leaf_no_group s q e n d pd F R h g)
group_room s q e (group n t G F, R, h) l g = omega (arith, length_group n t G F, h.ends, h.inside)

-- what the tests on a name tell of it
module _ (s : List ℕ) (q n : ℕ) (i : n ≡ word s q) (k : Kind) (j : k ≡ kind_of n) (b : Bool) (y : b ≡ is_group k) where
  pub group_known : b ≡ true → is_group (kind_of (word s q)) ≡ true
  group_known t = rw (← i, ← j, ← y) t

  pub leaf_known : b ≡ false → is_group (kind_of (word s q)) ≡ false
  leaf_known t = rw (← i, ← j, ← y) t

-- the members of the group at q
module _ (s : List ℕ) (q e n t : ℕ) (G F : Chunks) (R : List ℕ) (h : Holds s q e (group n t G F) R) where
  pub inner_holds : Holds s (q + 12) (q + 8 + word s (q + 4)) G (bytes F ++ R)
  inner_holds =
      let z = group_size s q n t G F R h.regular h.short h.rest in
      let f = group_fits s q n t G F R h.regular h.short h.rest in
      record {
        rest = group_members s q n t G F R h.regular h.short h.rest;
        regular = h.regular.3;
        ends = omega arith;
        inside = omega arith;
        short = h.short;
      }

  pub opens_here : Opens s q G
  opens_here = (bytes F ++ R, inner_holds)

  pub name_here : word s q ≡ n
  name_here = group_name s q n t G F R h.regular h.short h.rest

  pub type_here : word s (q + 8) ≡ t
  type_here = group_type_lem s q n t G F R h.regular h.short h.rest

  pub inner_ends : q + 8 + word s (q + 4) ≤ e
  inner_ends = let z = group_size s q n t G F R h.regular h.short h.rest in omega (arith, length_group n t G F, h.ends)

row_short : (s : List ℕ) (q e : ℕ) → Row s q e → e ≤ 16777216
row_short s q e (F, R, h) = omega (arith, h.inside, h.short)

pub inner_row : (s : List ℕ) (q e z : ℕ) → GroupAt s q e → z ≡ word s (q + 4) → Row s (q + 12) (q + 8 + z)
inner_row s q e z ((none, R, h), l, g) i = absurd (omega (arith, empty, h.ends))
inner_row s q e z ((leaf n d pd F, R, h), l, g) i = absurd (leaf_no_group s q e n d pd F R h g)
inner_row s q e z ((group n t G F, R, h), l, g) i = rw i (G, bytes F ++ R, inner_holds s q e n t G F R h)

pub inner_inside : (s : List ℕ) (q e z : ℕ) → GroupAt s q e → z ≡ word s (q + 4) → q + 8 + z ≤ e
inner_inside s q e z ((none, R, h), l, g) i = absurd (omega (arith, empty, h.ends))
inner_inside s q e z ((leaf n d pd F, R, h), l, g) i = absurd (leaf_no_group s q e n d pd F R h g)
inner_inside s q e z ((group n t G F, R, h), l, g) i = rw i (inner_ends s q e n t G F R h)

pub group_at_room : (s : List ℕ) (q e : ℕ) → GroupAt s q e → q + 12 ≤ length s
group_at_room s q e (r, l, g) = group_room s q e r l g

-- what the code reads lies inside the file
module _ (s : List ℕ) (q e : ℕ) where
  pub name_room : Row s q e → q < e → q + 4 ≤ length s
  name_room r l = omega (arith, row_room s q e r l)

  pub type_room : (n : ℕ) (k : Kind) (b : Bool) → Row s q e → q < e → n ≡ word s q → k ≡ kind_of n → b ≡ is_group k → b ≡ true →
      q + 8 + 4 ≤ length s
  type_room n k b r l i j y t = omega (arith, group_room s q e r l (group_known s q n i k j b y t))

  pub group_name_room : GroupAt s q e → q + 4 ≤ length s
  group_name_room a = omega (arith, group_at_room s q e a)

  pub group_type_room : GroupAt s q e → q + 8 + 4 ≤ length s
  group_type_room a = omega (arith, group_at_room s q e a)

  pub group_size_room : GroupAt s q e → q + 4 + 4 ≤ length s
  group_size_room a = omega (arith, group_at_room s q e a)

  pub inner_fits : (z : ℕ) → GroupAt s q e → z ≡ word s (q + 4) → Fits w64 (q + 8 + z)
  inner_fits z a i = omega (arith, inner_inside s q e z a i, row_short s q e a.0)

  pub inner_less : (z t : ℕ) → GroupAt s q e → z ≡ word s (q + 4) → (e - q) * 4 ≡ t → (q + 8 + z - (q + 12)) * 4 + 3 < t
  inner_less z t a i m = omega (arith, inner_inside s q e z a i)

  pub group_at : (n : ℕ) (k : Kind) (b : Bool) → Row s q e → q < e → n ≡ word s q → k ≡ kind_of n → b ≡ is_group k → b ≡ true → GroupAt s q e
  group_at n k b r l i j y t = (r, l, group_known s q n i k j b y t)

pub row_ends : (s : List ℕ) (q e : ℕ) → Row s q e → e ≤ length s
row_ends s q e (F, R, h) = h.inside

-- whether the chunk at q is a group whose name and type pass a test
module _ (s : List ℕ) (q e : ℕ) (test : ℕ → ℕ → Bool) (l : q < e) where
  is_group_of : (n t : ℕ) (r : Bool) → is_group (kind_of (word s q)) ≡ true → n ≡ word s q → t ≡ word s (q + 8) → r ≡ test n t →
      IsGroup s q e test r
  is_group_of n t r g i j y = record { at = go }
    where
      go : (F : Chunks) (R : List ℕ) → Holds s q e F R → r ≡ group_is test F
      go none R h = absurd (omega (arith, empty, h.ends))
      go (leaf m d pd F) R h = absurd (leaf_no_group s q e m d pd F R h g)
      go (group m u G F) R h = y ∙ rw (i, j, name_here s q e m u G F R h, type_here s q e m u G F R h)

  is_no_group : is_group (kind_of (word s q)) ≡ false → IsGroup s q e test false
  is_no_group g = record { at = go }
    where
      go : (F : Chunks) (R : List ℕ) → Holds s q e F R → false ≡ group_is test F
      go none R h = refl
      go (leaf m d pd F) R h = refl
      go (group m u G F) R h = never (sym h.regular.0 ∙ (rw (name_here s q e m u G F R h) at g))

pub group_tested :
    (s : List ℕ) (q e n t : ℕ) (test : ℕ → ℕ → Bool) (k : Kind) (b r : Bool) → q < e → n ≡ word s q → k ≡ kind_of n → b ≡ is_group k →
    b ≡ true →
    t ≡ word s (q + 8) → r ≡ test n t → IsGroup s q e test r
group_tested s q e n t test k b r l i j y g x z = is_group_of s q e test l n t r (group_known s q n i k j b y g) i x z

pub leaf_tested :
    (s : List ℕ) (q e n : ℕ) (test : ℕ → ℕ → Bool) (k : Kind) (b : Bool) → q < e → n ≡ word s q → k ≡ kind_of n → b ≡ is_group k → b ≡ false →
    IsGroup s q e test false
leaf_tested s q e n test k b l i j y g = is_no_group s q e test l (leaf_known s q n i k j b y g)

-- of a group that is known to be one
pub group_is_lem : (s : List ℕ) (q e n t : ℕ) (test : ℕ → ℕ → Bool) (r : Bool) → GroupAt s q e → n ≡ word s q → t ≡ word s (q + 8) →
    r ≡ test n t → IsGroup s q e test r
group_is_lem s q e n t test r a i j y = is_group_of s q e test a.1 n t r a.2 i j y

-- a chunk that passes a test is a group
pub tested_group : (s : List ℕ) (q e : ℕ) (test : ℕ → ℕ → Bool) (b : Bool) → Row s q e → q < e → IsGroup s q e test b → b ≡ true →
    GroupAt s q e
tested_group s q e test b (F, R, h) l g i = go F R h (g.at F R h)
  where
    go : (F : Chunks) (R : List ℕ) → Holds s q e F R → b ≡ group_is test F → GroupAt s q e
    go none R h y = never (sym i ∙ y)
    go (leaf n d pd F) R h y = never (sym i ∙ y)
    go (group n t G F) R h y = ((group n t G F, R, h), l, rw (name_here s q e n t G F R h) h.regular.0)

pub positive : (q : ℕ) → 0 < q + 12
positive q = omega arith

pub ruleset group_laws = (
  name_room,
  type_room,
  group_name_room,
  group_type_room,
  group_size_room,
  inner_fits,
  inner_less,
  inner_row,
  group_at,
  positive,
)
