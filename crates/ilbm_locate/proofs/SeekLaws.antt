-- Passing pictures one chunk after the other: what is left to pass among the chunks to come stays the same.
use Prim.Native.Nat.{ℕ, zero, suc, ◌+◌, ◌-◌, ◌*◌, ◌≤◌, ◌<◌}
use mathlib.Core.Path.{◌≡◌, refl, sym, ap, ◌∙◌}
use mathlib.Core.Bool.{Bool, true, false}
use mathlib.Core.List.{List, [], ◌∷◌, ◌++◌, append_assoc, append-nil}
use lib.ListN.{length, drop}
use native.Mathlib.Omega.{arith}
use native.Mathlib.Numerals.{sub-one}
use Rattle.iff_name.specs.Name.{kind_of}
use Rattle.iff_name.specs.declared.Kind.{Kind}
use Rattle.iff_chunk.specs.Chunks.{Chunks, none, leaf, group, bytes, word}
use Rattle.iff_rules.specs.Rules.{is_section}
use Rattle.iff_grammar.specs.Read.{Flat}
use Rattle.iff_grammar.proofs.laws.Names.{section_group, prop_name}
use Rattle.iff_grammar.proofs.laws.Read.{length_leaf, length_group}
use Rattle.ilbm_spec.specs.Names.{is_picture}
use Rattle.ilbm_spec.specs.Contents.{Scope as Shares, scope_inside, Content, content_of, contents_from}
use Rattle.ilbm_members.specs.declared.Sibling.{Sibling}
use Rattle.ilbm_members.specs.Members.{Holds, Row, Front, Tells}
use Rattle.std.specs.declared.ops.ControlFlow.TheVariants.{Break, Continue}
use Rattle.ilbm_locate.specs.Spots.{Spot, Spotted, group_is, contents_here, Seeks, Visits, Enters, IsGroup, GroupAt}
use Rattle.ilbm_locate.specs.Scopes.{ScopeIs, Scoped, GivesInside}
use Rattle.ilbm_locate.specs.declared.Scope.{Scope}
use Rattle.ilbm_locate.proofs.Laws.{never, empty, inner_holds, opens_here, name_here, leaf_no_group, group_is_lem}
use Rattle.ilbm_members.proofs.Laws.{row_next, row_le, more_room, more_less, leaf_steps, group_steps}

-- what is dropped stays in front of what follows
drop_before : (k : ℕ) (cs ds : List Content) (x : Content) (rest : List Content) → drop k cs ≡ x ∷ rest →
    drop k (cs ++ ds) ≡ x ∷ (rest ++ ds)
drop_before zero [] ds x rest e = absurd (let z : ◌≡◌ {A = ℕ} 0 1 = cc in omega arith)
drop_before zero (c ∷ cs) ds x rest e = ap (λ (l : List Content). l ++ ds) e
drop_before (suc k) [] ds x rest e = absurd (let z : ◌≡◌ {A = ℕ} 0 1 = cc in omega arith)
drop_before (suc k) (c ∷ cs) ds x rest e = drop_before k cs ds x rest e

-- with one picture more in front
spotted_past : (s : List ℕ) (k : ℕ) (x : Content) (cs : List Content) (r : Spot) → Spotted s k cs r → Spotted s (suc k) (x ∷ cs) r
spotted_past s k x cs (Break (f, g)) w = w
spotted_past s k x cs (Continue m) w = w

-- where there are no groups there are no pictures
flat_contents : (F : Chunks) → Flat F → (p : ℕ) (scope : Shares) → contents_from p scope F ≡ []
unfolding contents_from
flat_contents none f p scope = refl
flat_contents (leaf n d pd F) f p scope = flat_contents F f _ scope
flat_contents (group n t G F) f p scope = absurd f

module _ (s : List ℕ) (q e : ℕ) (prop : Scope) where
  spotted_here : (b : Bool) (k : ℕ) → IsGroup s q e is_picture b → b ≡ true → k ≡ 0 → Visits s q e prop k (Break (q, prop))
  spotted_here b k g i z = record { at = λ F R scope h c. go F R scope h c (g.at F R h) }
    where
      go : (F : Chunks) (R : List ℕ) (scope : Shares) → Holds s q e F R → ScopeIs s prop scope → b ≡ group_is is_picture F →
          Spotted s k (contents_here q scope F) (Break (q, prop))
      go none R scope h c y = never (sym i ∙ y)
      go (leaf n d pd F) R scope h c y = never (sym i ∙ y)
      go (group n t G F) R scope h c y =
          let v : is_picture n t ≡ true = sym y ∙ i in
          (G, scope, contents_from (q + 12) (scope_inside n q G scope) G, opens_here s q e n t G F R h, c, rw (v, z))

  spotted_later :
      (b : Bool) (k : ℕ) (r : Spot) → IsGroup s q e is_picture b → b ≡ true → (k ≡ 0 → ⊥) → Enters s q e prop (k - 1) r →
      Visits s q e prop k r
  spotted_later b zero r g i z w = absurd (z refl)
  spotted_later b (suc k) r g i z w = record { at = λ F R scope h c. go F R scope h c (g.at F R h) }
    where
      go : (F : Chunks) (R : List ℕ) (scope : Shares) → Holds s q e F R → ScopeIs s prop scope → b ≡ group_is is_picture F →
          Spotted s (suc k) (contents_here q scope F) r
      go none R scope h c y = never (sym i ∙ y)
      go (leaf n d pd F) R scope h c y = never (sym i ∙ y)
      go (group n t G F) R scope h c y =
          let v : is_picture n t ≡ true = sym y ∙ i in
          let x = rw sub-one at (w.at n t G F R scope h c) in
          rw v (spotted_past s k (content_of q G scope) (contents_from (q + 12) (scope_inside n q G scope) G) r x)

  spotted_inside : (b : Bool) (k : ℕ) (r : Spot) → GroupAt s q e → IsGroup s q e is_picture b → b ≡ false → Enters s q e prop k r →
      Visits s q e prop k r
  spotted_inside b k r a g i w = record { at = λ F R scope h c. go F R scope h c (g.at F R h) }
    where
      go : (F : Chunks) (R : List ℕ) (scope : Shares) → Holds s q e F R → ScopeIs s prop scope → b ≡ group_is is_picture F →
          Spotted s k (contents_here q scope F) r
      go none R scope h c y = absurd (omega (arith, empty, h.ends, a.1))
      go (leaf n d pd F) R scope h c y = absurd (leaf_no_group s q e n d pd F R h a.2)
      go (group n t G F) R scope h c y = let v : is_picture n t ≡ false = sym y ∙ i in rw v (w.at n t G F R scope h c)

  -- as the code reads name and type
  module _ (n t : ℕ) (b : Bool) (a : GroupAt s q e) (i : n ≡ word s q) (j : t ≡ word s (q + 8)) (y : b ≡ is_picture n t) where
    pub picture_here : (k : ℕ) → b ≡ true → k ≡ 0 → Visits s q e prop k (Break (q, prop))
    picture_here k z w = spotted_here b k (group_is_lem s q e n t is_picture b a i j y) z w

    pub picture_later : (k : ℕ) (r : Spot) → b ≡ true → (k ≡ 0 → ⊥) → Enters s q e prop (k - 1) r → Visits s q e prop k r
    picture_later k r z w x = spotted_later b k r (group_is_lem s q e n t is_picture b a i j y) z w x

    pub no_picture_here : (k : ℕ) (r : Spot) → b ≡ false → Enters s q e prop k r → Visits s q e prop k r
    no_picture_here k r z x = spotted_inside b k r a (group_is_lem s q e n t is_picture b a i j y) z x

  -- leaves and PROPs hold no pictures
  pub none_here : (F : Chunks) (R : List ℕ) (scope : Shares) → Holds s q e F R → is_section (kind_of (word s q)) ≡ false →
      contents_here q scope F ≡ []
  none_here none R scope h g = refl
  none_here (leaf n d pd F) R scope h g = refl
  none_here (group n t G F) R scope h g =
      let y : is_section (kind_of n) ≡ false = rw (name_here s q e n t G F R h) at g in
      let p = prop_name n h.regular.0 y in
      rw (p, flat_contents G (h.regular.5 p) (q + 12) scope)

  pub none_visited : (k : ℕ) → is_section (kind_of (word s q)) ≡ false → Visits s q e prop k (Continue k)
  none_visited k g = record { at = λ F R scope h c. rw (none_here F R scope h g) (λ Y. refl) }

  -- what is inside a group
  module _ (scope' : Scope) (x : GivesInside s q e prop scope') where
    pub entered : (z k : ℕ) (r : Spot) → z ≡ word s (q + 4) → Seeks s (q + 12) (q + 8 + z) scope' k r → Enters s q e prop k r
    entered z k r i w = record { at = go }
      where
        go :
            (n t : ℕ) (G F : Chunks) (R : List ℕ) (scope : Shares) → Holds s q e (group n t G F) R → ScopeIs s prop scope →
            Spotted s k (contents_from (q + 12) (scope_inside n q G scope) G) r
        go n t G F R scope h c =
            w.at G (bytes F ++ R) (scope_inside n q G scope) (rw i (inner_holds s q e n t G F R h)) (x.at n t G F R scope h c)

    pub entered_scope : GroupAt s q e → Scoped s prop → Scoped s scope'
    entered_scope ((none, R, h), l, g) (scope, c) = absurd (omega (arith, empty, h.ends))
    entered_scope ((leaf n d pd F, R, h), l, g) (scope, c) = absurd (leaf_no_group s q e n d pd F R h g)
    entered_scope ((group n t G F, R, h), l, g) (scope, c) = (scope_inside n q G scope, x.at n t G F R scope h c)

-- the loop: the pictures still to pass among the chunks to come
pub record Passing (s : List ℕ) (p e : ℕ) (prop : Scope) (k q left : ℕ) : Type 0 where
  pub at :
      (F : Chunks) (R : List ℕ) (scope : Shares) → Holds s p e F R → ScopeIs s prop scope →
      (K : Chunks) × Holds s q e K R × ((Y : List Content) → drop k (contents_from p scope F ++ Y) ≡ drop left (contents_from q scope K ++ Y))

-- the pictures in a row are those in its first chunk and those after it
module _ (s : List ℕ) (q e : ℕ) (m : Sibling) (t : Tells s q e m) where
  pub split_at :
      (scope : Shares) (K : Chunks) (R : List ℕ) → Holds s q e K R →
      (K' : Chunks) × Holds s m.next e K' R × (contents_from q scope K ≡ contents_here q scope K ++ contents_from m.next scope K')
  unfolding contents_from
  split_at scope K R h = go K h (t.front K R h)
    where
      go :
          (K : Chunks) → Holds s q e K R → Front s q e m.name.code m.next K R →
          (K' : Chunks) × Holds s m.next e K' R × (contents_from q scope K ≡ contents_here q scope K ++ contents_from m.next scope K')
      go none h f = absurd f
      go (leaf n d pd K) h f =
          let j = leaf_steps s q e _ _ n d pd K R h f in
          (K, f.2, ap (λ (x : ℕ). contents_from x scope K) j)
      go (group n x G K) h f =
          let j = group_steps s q e _ _ n x G K R h f in
          (K, f.1, rw (j, append_assoc))

  module _ (p : ℕ) (prop : Scope) (k left : ℕ) (v : Spot) (w : Passing s p e prop k q left) (y : Visits s q e prop left v) where
    pub passing_more : (a : ℕ) → v ≡ Continue a → Passing s p e prop k m.next a
    passing_more a i = record { at = go }
      where
        go :
            (F : Chunks) (R : List ℕ) (scope : Shares) → Holds s p e F R → ScopeIs s prop scope →
            (K : Chunks) × Holds s m.next e K R × ((Y : List Content) →
            drop k (contents_from p scope F ++ Y) ≡ drop a (contents_from m.next scope K ++ Y))
        go F R scope h c =
            let x = w.at F R scope h c in
            let z = split_at scope x.0 R x.1 in
            let u : (Y : List Content) → drop left (contents_here q scope x.0 ++ Y) ≡ drop a Y =
            rw i at (y.at x.0 R scope x.1 c) in
            (z.0, z.1, λ Y. x.2 Y ∙ (rw (z.2, append_assoc) (u (contents_from m.next scope z.0 ++ Y))))

-- what follows the first chunk matters no more once the picture is found
split_any :
    (q : ℕ) (scope : Shares) (K : Chunks) → (rest : List Content) × (contents_from q scope K ≡ contents_here q scope K ++ rest)
unfolding contents_from
split_any q scope none = ([], refl)
split_any q scope (leaf n d pd K) = (contents_from (q + (8 + length d + length pd)) scope K, refl)
split_any q scope (group n x G K) = (contents_from (q + (12 + length (bytes G))) scope K, rw append_assoc)

module _
    (s : List ℕ) (p e : ℕ) (prop : Scope) (k q left : ℕ) (v : Spot) (w : Passing s p e prop k q left) (y : Visits s q e prop left v) where
  pub passing_here : (x : ℕ × Scope) (r : Spot) → r ≡ Break x → v ≡ Break x → Seeks s p e prop k r
  passing_here (f, g) r j i = rw j (record { at = go })
    where
      go : (F : Chunks) (R : List ℕ) (scope : Shares) → Holds s p e F R → ScopeIs s prop scope →
          Spotted s k (contents_from p scope F) (Break (f, g))
      go F R scope h c =
          let x = w.at F R scope h c in
          let z = split_any q scope x.0 in
          let u : Spotted s left (contents_here q scope x.0) (Break (f, g)) = rw i at (y.at x.0 R scope x.1 c) in
          let d : drop left (contents_from q scope x.0) ≡ content_of f u.0 u.1 ∷ (u.2 ++ z.0) =
          rw z.1 (drop_before left (contents_here q scope x.0) z.0 (content_of f u.0 u.1) u.2 u.5) in
          (u.0, u.1, u.2 ++ z.0, u.3, u.4, (rw (append-nil, append-nil) at (x.2 [])) ∙ d)

module _ (s : List ℕ) (p e : ℕ) (prop : Scope) (k : ℕ) where
  pub passing_start : Passing s p e prop k p k
  passing_start = record { at = λ F R scope h c. (F, h, λ Y. refl) }

  pub passing_end : (q left : ℕ) → e ≤ q → Passing s p e prop k q left → Seeks s p e prop k (Continue left)
  unfolding contents_from
  passing_end q left l w = record { at = λ F R scope h c. let x = w.at F R scope h c in go F scope x.0 R x.1 x.2 }
    where
      go :
          (F : Chunks) (scope : Shares) (K : Chunks) (R : List ℕ) → Holds s q e K R →
          ((Y : List Content) → drop k (contents_from p scope F ++ Y) ≡ drop left (contents_from q scope K ++ Y)) →
          Spotted s k (contents_from p scope F) (Continue left)
      go F scope none R h u = u
      go F scope (leaf n d pd K) R h u = absurd (omega (arith, length_leaf n d pd K, h.ends))
      go F scope (group n x G K) R h u = absurd (omega (arith, length_group n x G K, h.ends))

-- what the test of a member's name tells
module _ (s : List ℕ) (q e n : ℕ) (x : n ≡ word s q) (i : Kind) (y : i ≡ kind_of n) (b : Bool) (z : b ≡ is_section i) where
  pub section_at : Row s q e → q < e → b ≡ true → GroupAt s q e
  section_at r l g = (r, l, section_group (kind_of (word s q)) (rw (← x, ← y, ← z) g))

  pub none_passed : (prop : Scope) (k : ℕ) → b ≡ false → Visits s q e prop k (Continue k)
  none_passed prop k g = none_visited s q e prop k (rw (← x, ← y, ← z) g)

pub visit_less : (p e q : ℕ) → p ≤ q → q < e → (e - q) * 4 + 2 < (e - p) * 4 + 3
visit_less p e q h l = omega arith

pub ruleset seek_laws = (passing_start, passing_more, passing_here, visit_less, row_next, more_room, more_less, row_le)

pub ruleset visit_laws = (picture_here, picture_later, no_picture_here, section_at, none_passed, entered, entered_scope)
