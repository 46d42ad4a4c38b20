-- The walk puts the rows of the pictures in file order: a group's own, those inside it, and those in the chunks behind it.
use Prim.Native.Nat.{ℕ, ◌+◌, ◌-◌, ◌≤◌, ◌<◌}
use mathlib.Core.Path.{◌≡◌, refl, sym, ap, ◌∙◌}
use mathlib.Core.Bool.{Bool, true, false}
use mathlib.Core.List.{List, ◌++◌}
use lib.ListN.{length}
use native.Mathlib.Omega.{arith}
use Rattle.iff_name.specs.Name.{kind_of}
use Rattle.iff_name.specs.declared.Kind.{Kind}
use Rattle.iff_chunk.specs.Chunks.{Chunks, none, leaf, group, bytes, word}
use Rattle.iff_rules.specs.Rules.{is_section}
use Rattle.iff_grammar.proofs.laws.Read.{length_leaf, length_group}
use Rattle.ilbm_spec.specs.Names.{is_picture}
use Rattle.ilbm_spec.specs.Contents.{Scope as Shares, scope_inside, Content, content_of, contents_from}
use Rattle.ilbm_members.specs.declared.Sibling.{Sibling}
use Rattle.ilbm_members.specs.Members.{Holds, Tells}
use Rattle.ilbm_locate.specs.declared.Scope.{Scope}
use Rattle.ilbm_locate.specs.Scopes.{ScopeIs, Scoped, GivesInside}
use Rattle.ilbm_locate.specs.Spots.{contents_here, GroupAt}
use Rattle.ilbm_locate.proofs.Laws.{empty, inner_holds, opens_here, leaf_no_group, group_is_lem}
use Rattle.ilbm_locate.proofs.SeekLaws.{none_here, split_at, entered_scope, section_at, visit_less}
use Rattle.ilbm_members.proofs.Laws.{row_next, row_le, more_room, more_less}
use Rattle.ilbm_find.specs.Seen.{FormIn}
use Rattle.ilbm_table_row.specs.Put.{PutsPicture}
use Rattle.ilbm_table.specs.Filling.{filled, put_rows, FillsForm, FillsOwn, FillsInside, FillsChunk, FillsMembers}
use Rattle.ilbm_table.proofs.Room.{rows_append, no_room, has_room}

-- the FORM at q
module _ (s : List ℕ) (q : ℕ) (c : Scope) (t : List ℕ) (n : ℕ) where
  pub form_full : length t - n < 30 → FillsForm s q c t n t n
  form_full l = record { at = λ G scope o k. no_room (content_of q G scope) t n l }

  pub form_put : (t₁ : List ℕ) → 30 ≤ length t - n → PutsPicture s q c n t t₁ → FillsForm s q c t n t₁ (n + 30)
  form_put t₁ l w = record {
    at = λ G scope o k. ap (λ (x : List ℕ). filled x (n + 30)) (w.at G scope o k) ∙ has_room (content_of q G scope) t n l;
  }

  pub form_room : 30 ≤ length t - n → n ≤ length t → n + 30 ≤ length t
  form_room l h = omega arith

-- the group at q, if it is a picture
pub own_form : (s : List ℕ) (q e : ℕ) (c : Scope) → GroupAt s q e → Scoped s c → FormIn s q c
own_form s q e c ((none, R, h), l, g) (scope, k) = absurd (omega (arith, empty, h.ends))
own_form s q e c ((leaf n d pd F, R, h), l, g) (scope, k) = absurd (leaf_no_group s q e n d pd F R h g)
own_form s q e c ((group n t G F, R, h), l, g) (scope, k) = (G, scope, opens_here s q e n t G F R h, k)

module _ (s : List ℕ) (q e : ℕ) (c : Scope) (t : List ℕ) (n : ℕ) where
  module _ (k i : ℕ) (b : Bool) (a : GroupAt s q e) (x : k ≡ word s q) (y : i ≡ word s (q + 8)) (z : b ≡ is_picture k i) where
    pub own_put : (t₁ : List ℕ) (n₁ : ℕ) → b ≡ true → FillsForm s q c t n t₁ n₁ → FillsOwn s q e c t n t₁ n₁
    unfolding put_rows
    own_put t₁ n₁ f w = record {
      at = λ k' i' G F R scope h o.
          let v : is_picture k' i' ≡ true = sym ((group_is_lem s q e k i is_picture b a x y z).at (group k' i' G F) R h) ∙ f in
          rw v (w.at G scope (opens_here s q e k' i' G F R h) o);
    }

    pub own_none : b ≡ false → FillsOwn s q e c t n t n
    unfolding put_rows
    own_none f = record {
      at = λ k' i' G F R scope h o.
          let v : is_picture k' i' ≡ false = sym ((group_is_lem s q e k i is_picture b a x y z).at (group k' i' G F) R h) ∙ f in
          rw v;
    }

  -- what is inside it
  pub inside_put :
      (c₁ : Scope) (z : ℕ) (t₁ : List ℕ) (n₁ : ℕ) → z ≡ word s (q + 4) → GivesInside s q e c c₁ →
      FillsMembers s (q + 12) (q + 8 + z) c₁ t n t₁ n₁ → FillsInside s q e c t n t₁ n₁
  inside_put c₁ z t₁ n₁ i x w = record {
    at = λ k j G F R scope h o.
        w.at G (bytes F ++ R) (scope_inside k q G scope) (rw i (inner_holds s q e k j G F R h)) (x.at k j G F R scope h o);
  }

  -- both
  pub group_put :
      (t₁ : List ℕ) (n₁ : ℕ) (t₂ : List ℕ) (n₂ : ℕ) → GroupAt s q e → FillsOwn s q e c t n t₁ n₁ → FillsInside s q e c t₁ n₁ t₂ n₂ →
      FillsChunk s q e c t n t₂ n₂
  group_put t₁ n₁ t₂ n₂ a u v = record { at = go }
    where
      go : (F : Chunks) (R : List ℕ) (scope : Shares) → Holds s q e F R → ScopeIs s c scope →
          filled t₂ n₂ ≡ put_rows (contents_here q scope F) (filled t n)
      go none R scope h o = absurd (omega (arith, empty, h.ends, a.1))
      go (leaf m d pd F) R scope h o = absurd (leaf_no_group s q e m d pd F R h a.2)
      go (group k i G F) R scope h o =
          v.at k i G F R scope h o ∙ ap (put_rows (contents_from (q + 12) (scope_inside k q G scope) G)) (u.at k i G F R scope h o) ∙
          sym (rows_append _ (contents_from (q + 12) (scope_inside k q G scope) G) (filled t n))

  -- leaves and PROPs
  pub none_put : (m : ℕ) (i : Kind) (b : Bool) → m ≡ word s q → i ≡ kind_of m → b ≡ is_section i → b ≡ false → FillsChunk s q e c t n t n
  unfolding put_rows
  none_put m i b x y z g = record {
    at = λ F R scope h o. rw (none_here s q e c F R scope h (rw (← x, ← y, ← z) g));
  }

-- the loop: the pictures in the chunks to come are put behind those before them
pub record Filling (s : List ℕ) (p e : ℕ) (c : Scope) (t : List ℕ) (n q : ℕ) (t₁ : List ℕ) (n₁ : ℕ) : Type 0 where
  pub at :
      (F : Chunks) (R : List ℕ) (scope : Shares) → Holds s p e F R → ScopeIs s c scope →
      (K : Chunks) × Holds s q e K R × (put_rows (contents_from p scope F) (filled t n) ≡ put_rows (contents_from q scope K) (filled t₁ n₁))

module _ (s : List ℕ) (p e : ℕ) (c : Scope) (t : List ℕ) (n : ℕ) where
  pub filling_start : Filling s p e c t n p t n
  filling_start = record { at = λ F R scope h o. (F, h, refl) }

  pub filling_more :
      (q : ℕ) (t₁ : List ℕ) (n₁ : ℕ) (t₂ : List ℕ) (n₂ : ℕ) (m : Sibling) → Tells s q e m → Filling s p e c t n q t₁ n₁ →
      FillsChunk s q e c t₁ n₁ t₂ n₂ → Filling s p e c t n m.next t₂ n₂
  filling_more q t₁ n₁ t₂ n₂ m x w y = record {
    at = λ F R scope h o.
        let k = w.at F R scope h o in
        let z = split_at s q e m x scope k.0 R k.1 in
        let rest : List Content = contents_from m.next scope z.0 in
        let one = ap (λ (l : List Content). put_rows l (filled t₁ n₁)) z.2 in
        let two = rows_append (contents_here q scope k.0) rest (filled t₁ n₁) in
        (z.0, z.1, k.2 ∙ one ∙ two ∙ ap (put_rows rest) (sym (y.at k.0 R scope k.1 o)));
  }

  pub filling_end : (q : ℕ) (t₁ : List ℕ) (n₁ : ℕ) → e ≤ q → Filling s p e c t n q t₁ n₁ → FillsMembers s p e c t n t₁ n₁
  unfolding contents_from put_rows
  filling_end q t₁ n₁ l w = record { at = λ F R scope h o. let k = w.at F R scope h o in go F scope k.0 R k.1 k.2 }
    where
      go : (F : Chunks) (scope : Shares) (K : Chunks) (R : List ℕ) → Holds s q e K R →
          put_rows (contents_from p scope F) (filled t n) ≡ put_rows (contents_from q scope K) (filled t₁ n₁) →
          filled t₁ n₁ ≡ put_rows (contents_from p scope F) (filled t n)
      go F scope none R h u = sym u
      go F scope (leaf m d pd K) R h u = absurd (omega (arith, length_leaf m d pd K, h.ends))
      go F scope (group m x G K) R h u = absurd (omega (arith, length_group m x G K, h.ends))

pub ruleset loop_laws = (filling_start, filling_more, visit_less, row_next, more_room, more_less, row_le)

pub ruleset put_laws = (inside_put, group_put, none_put, section_at, entered_scope)
