-- What the members of a group share: of each name the last chunk in the LIST's first PROP ILBM, and where that has none, or the LIST has
-- no PROP ILBM, what is shared around the LIST.
use Prim.Native.Nat.{ℕ, ◌+◌, ◌≤◌}
use mathlib.Core.Path.{◌≡◌, refl, sym, ap, ◌∙◌}
use mathlib.Core.Bool.{Bool, true, false}
use mathlib.Core.List.{List, ◌++◌}
use Rattle.std.specs.Prelude.{Option, Some, None}
use mathlib.Core.Option.{Option as Maybe, some, none as nothing}
use borrow.Author.Tests.{eq-eqb, ne_eqb}
use native.Mathlib.Omega.{arith}
use Rattle.iff_name.specs.Codes.{LIST}
use Rattle.iff_chunk.specs.Chunks.{Chunks, none, leaf, group, bytes, word}
use Rattle.iff_grammar.proofs.laws.Read.{length_leaf, length_group}
use Rattle.ilbm_spec.specs.Names.{BMHD, CMAP, GRAB, DEST, SPRT, CAMG, is_shared_prop}
use Rattle.ilbm_spec.specs.Contents.{Located, last_named, nowhere, Property, shared_or, Scope as Shares, no_scope, prop_scope}
use Rattle.ilbm_spec.specs.Contents.{list_scope, scope_inside}
use Rattle.ilbm_members.specs.declared.Sibling.{Sibling}
use Rattle.ilbm_members.specs.declared.Gathered.{Gathered}
use Rattle.ilbm_members.specs.Members.{Holds, Marks, Front, Tells}
use Rattle.ilbm_members.specs.Gathers.{Gathers}
use Rattle.ilbm_members.proofs.Laws.{row_next, row_le, more_room, more_less, leaf_steps, group_steps, none_some, some_same}
use Rattle.ilbm_locate.specs.declared.Shared.{Shared}
use Rattle.ilbm_locate.specs.declared.Scope.{Scope}
use Rattle.ilbm_locate.specs.Scopes.{SharedIs, ScopeIs, none_shared, Nearer, PropGives, ListGives, GivesInside}
use Rattle.ilbm_locate.specs.Spots.{group_is, IsGroup}
use Rattle.ilbm_locate.proofs.Laws.{never, inner_holds, name_here, tested_group}

pub none_scoped : (s : List ℕ) → ScopeIs s none_shared no_scope
none_scoped s = record { bmhd = refl; cmap = refl; grab = refl; dest = refl; sprt = refl; camg = refl }

-- the PROP's own property, or, where it has none, the outer one
module _ (q : ℕ) (k : Option ℕ) (h : Option Shared) where
  pub nearer_outer : k ≡ None → Nearer q k h h
  nearer_outer z = record { at = go }
    where
      go : (s : List ℕ) (o : Maybe Located) (outer : Property) → Marks s k o → SharedIs s h outer → SharedIs s h (shared_or q o outer)
      go s (some x) outer m i = absurd (none_some k x.place z m.0)
      go s nothing outer m i = i

  pub nearer_own : (p : ℕ) → k ≡ Some p → Nearer q k h (Some (record { prop = q; place = p }))
  nearer_own p z = record { at = go }
    where
      go :
          (s : List ℕ) (o : Maybe Located) (outer : Property) → Marks s k o → SharedIs s h outer →
          SharedIs s (Some (record { prop = q; place = p })) (shared_or q o outer)
      go s (some x) outer m i = let j : p ≡ x.place = some_same k p x.place z m.0 in (rw j refl, m.1)
      go s nothing outer m i = absurd (none_some k p m z)

-- each property by itself: what one pass over a PROP gathers for its name, or else what is shared further out
pub prop_gives :
    (s : List ℕ) (q z : ℕ) (g : Gathered) (c r : Scope) → z ≡ word s (q + 4) → Gathers s (q + 12) (q + 8 + z) true g →
    Nearer q g.bmhd c.bmhd r.bmhd → Nearer q g.cmap c.cmap r.cmap → Nearer q g.grab c.grab r.grab →
    Nearer q g.dest c.dest r.dest → Nearer q g.sprt c.sprt r.sprt → Nearer q g.camg c.camg r.camg →
    PropGives s q c r
prop_gives s q z g c r i w bmhd cmap grab dest sprt camg = record { at = go }
  where
    go : (G : Chunks) (R : List ℕ) (scope : Shares) → Holds s (q + 12) (q + 8 + word s (q + 4)) G R → ScopeIs s c scope →
        ScopeIs s r (prop_scope q G scope)
    go G R scope h y =
        let k : Holds s (q + 12) (q + 8 + z) G R = rw i h in
        let last : ℕ → Maybe Located = λ name. last_named nowhere name (q + 12) nothing G in
        record {
          bmhd = bmhd.at s (last BMHD) (scope BMHD) (w.last.bmhd.at G R k) y.bmhd;
          cmap = cmap.at s (last CMAP) (scope CMAP) (w.last.cmap.at G R k) y.cmap;
          grab = grab.at s (last GRAB) (scope GRAB) (w.last.grab.at G R k) y.grab;
          dest = dest.at s (last DEST) (scope DEST) (w.last.dest.at G R k) y.dest;
          sprt = sprt.at s (last SPRT) (scope SPRT) (w.last.sprt.at G R k) y.sprt;
          camg = camg.at s (last CAMG) (scope CAMG) (w.last.camg.at G R k) y.camg;
        }

-- the chunks still to come give the scope that is looked for
pub record Sharing (s : List ℕ) (p e q : ℕ) : Type 0 where
  pub at : (F : Chunks) (R : List ℕ) → Holds s p e F R → (K : Chunks) × Holds s q e K R ×
      ((scope : Shares) → list_scope q K scope ≡ list_scope p F scope)

module _ (s : List ℕ) (p e : ℕ) where
  pub sharing_start : Sharing s p e p
  sharing_start = record { at = λ F R h. (F, h, λ scope. refl) }

  module _ (q : ℕ) (b : Bool) (g : IsGroup s q e is_shared_prop b) (w : Sharing s p e q) where
    pub sharing_more : (m : Sibling) → b ≡ false → Tells s q e m → Sharing s p e m.next
    unfolding list_scope
    sharing_more m i t = record {
      at = λ F R h. let x = w.at F R h in
          go F R x.0 x.1 x.2 (t.front x.0 R x.1) (g.at x.0 R x.1);
    }
      where
        go :
            (F : Chunks) (R : List ℕ) (K : Chunks) → Holds s q e K R → ((scope : Shares) → list_scope q K scope ≡ list_scope p F scope) →
            Front s q e m.name.code m.next K R → b ≡ group_is is_shared_prop K →
            (K' : Chunks) × Holds s m.next e K' R × ((scope : Shares) → list_scope m.next K' scope ≡ list_scope p F scope)
        go F R none h u f y = absurd f
        go F R (leaf n d pd K) h u f y =
            (K, f.2, λ scope. ap (λ (x : ℕ). list_scope x K scope) (sym (leaf_steps s q e _ _ n d pd K R h f)) ∙ u scope)
        go F R (group n x G K) h u f y =
            let v : is_shared_prop n x ≡ false = sym y ∙ i in
            (K, f.1, λ scope. ap (λ (z : ℕ). list_scope z K scope) (sym (group_steps s q e _ _ n x G K R h f)) ∙ (rw v at (u scope)))

    pub sharing_hit : (c r : Scope) → b ≡ true → PropGives s q c r → ListGives s p e c r
    unfolding list_scope
    sharing_hit c r i a = record {
      at = λ F R scope h k. let x = w.at F R h in
          go F R scope k x.0 x.1 (x.2 scope) (g.at x.0 R x.1);
    }
      where
        go :
            (F : Chunks) (R : List ℕ) (scope : Shares) → ScopeIs s c scope → (K : Chunks) → Holds s q e K R →
            list_scope q K scope ≡ list_scope p F scope → b ≡ group_is is_shared_prop K → ScopeIs s r (list_scope p F scope)
        go F R scope k none h u y = never (sym i ∙ y)
        go F R scope k (leaf n d pd K) h u y = never (sym i ∙ y)
        go F R scope k (group n x G K) h u y =
            let v : is_shared_prop n x ≡ true = sym y ∙ i in
            let u' : prop_scope q G scope ≡ list_scope p F scope = rw v at u in
            rw (← u') (a.at G (bytes K ++ R) scope (inner_holds s q e n x G K R h) k)

  pub sharing_end : (q : ℕ) (c : Scope) → e ≤ q → Sharing s p e q → ListGives s p e c c
  unfolding list_scope
  sharing_end q c l w = record { at = λ F R scope h k. let x = w.at F R h in go F R scope k x.0 x.1 (x.2 scope) }
    where
      go :
          (F : Chunks) (R : List ℕ) (scope : Shares) → ScopeIs s c scope → (K : Chunks) → Holds s q e K R →
          list_scope q K scope ≡ list_scope p F scope →
          ScopeIs s c (list_scope p F scope)
      go F R scope k none h u = rw (← u) k
      go F R scope k (leaf n d pd K) h u = absurd (omega (arith, length_leaf n d pd K, h.ends))
      go F R scope k (group n x G K) h u = absurd (omega (arith, length_group n x G K, h.ends))

-- the scope inside a group
module _ (s : List ℕ) (q e : ℕ) (c : Scope) (n : ℕ) (i : n ≡ word s q) where
  pub scope_list : (z : ℕ) (r : Scope) → n ≡ LIST → z ≡ word s (q + 4) → ListGives s (q + 12) (q + 8 + z) c r → GivesInside s q e c r
  scope_list z r j y x = record { at = go }
    where
      go : (m t : ℕ) (G F : Chunks) (R : List ℕ) (scope : Shares) → Holds s q e (group m t G F) R → ScopeIs s c scope →
          ScopeIs s r (scope_inside m q G scope)
      go m t G F R scope h k =
          let a : m ≡ LIST = sym (name_here s q e m t G F R h) ∙ (sym i ∙ j) in
          rw (eq-eqb _ _ a) (x.at G (bytes F ++ R) scope (rw y (inner_holds s q e m t G F R h)) k)

  pub scope_same : (n ≡ LIST → ⊥) → GivesInside s q e c c
  scope_same j = record { at = go }
    where
      go : (m t : ℕ) (G F : Chunks) (R : List ℕ) (scope : Shares) → Holds s q e (group m t G F) R → ScopeIs s c scope →
          ScopeIs s c (scope_inside m q G scope)
      go m t G F R scope h k = rw (ne_eqb m LIST (λ a. j (i ∙ (name_here s q e m t G F R h ∙ a)))) k

pub ruleset sharing_laws = (sharing_start, sharing_more, sharing_hit, tested_group, row_next, more_room, more_less, row_le)
