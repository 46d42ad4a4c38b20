-- One pass: for each name the place of the last chunk so far, closed by the first BODY unless the whole group counts, and the BODYs so far.
-- What the chunks to come still bring to either is what all of them bring.
use Prim.Native.Nat.{ℕ, suc, ◌+◌, ◌≤◌}
use mathlib.Core.Path.{◌≡◌, refl, sym, ◌∙◌}
use mathlib.Core.Bool.{Bool, true, false, not}
use mathlib.Core.List.{List, [], ◌∷◌, ◌++◌, append_assoc, append-nil}
use Rattle.std.specs.Prelude.{Option, Some, None}
use mathlib.Core.Option.{Option as Maybe, some, none as nothing}
use lib.Dec.{eqb}
use lib.ListN.{length, length-append}
use native.Mathlib.Omega.{arith}
use borrow.Author.Tests.{eqb-true, ne_eqb}
use Rattle.iff_name.specs.Name.{both, either, pick, kind_of}
use Rattle.iff_chunk.specs.Chunks.{Chunks, none, leaf, group}
use Rattle.iff_rules.specs.Rules.{is_group}
use Rattle.ilbm_spec.specs.Names.{BODY}
use Rattle.ilbm_spec.specs.Contents.{Located, located, last_named, bodies_from}
use Rattle.ilbm_members.specs.declared.Sibling.{Sibling}
use Rattle.ilbm_members.specs.Members.{Holds, Stands, Marks, Front, Tells}
use Rattle.ilbm_members.specs.Gathers.{ends_at, LastIs, first_of, BodiesAre, newer_of}
use Rattle.ilbm_members.proofs.Laws.{leaf_steps, group_steps, all_read, no_group}

-- whether properties still count after so many BODYs
abbrev still_open : Bool → ℕ → Bool
still_open whole b = either whole (eqb b 0)

-- what the chunks to come bring to the last chunk of a name
abbrev to_come : Bool → ℕ → ℕ → ℕ → Maybe Located → Chunks → Maybe Located
to_come whole b name q o K = pick (still_open whole b) (last_named (ends_at whole) name q o K) o

pub record Looking (s : List ℕ) (p e : ℕ) (whole : Bool) (q b name : ℕ) (x : Option ℕ) : Type 0 where
  pub at :
      (F : Chunks) (R : List ℕ) → Holds s p e F R →
      (K : Chunks) × Holds s q e K R × ((o : Maybe Located) × Marks s x o ×
      (last_named (ends_at whole) name p nothing F ≡ to_come whole b name q o K))

pub looking_start : (s : List ℕ) (p e : ℕ) (whole : Bool) (name : ℕ) → Looking s p e whole p 0 name None
looking_start s p e true name = record { at = λ F R h. (F, h, (nothing, refl, refl)) }
looking_start s p e false name = record { at = λ F R h. (F, h, (nothing, refl, refl)) }

marks_pick :
    (s : List ℕ) (hit : Bool) (q : ℕ) (x : Option ℕ) (d : List ℕ) (o : Maybe Located) → Stands s (located q d) → Marks s x o →
    Marks s (pick hit (Some q) x) (pick hit (some (located q d)) o)
marks_pick s true q x d o w m = (refl, w)
marks_pick s false q x d o w m = m

-- no property counts any more once a BODY has been met
open_after : (b : ℕ) (hit : Bool) → eqb (b + pick hit 1 0) 0 ≡ both (eqb b 0) (not hit)
open_after b true = ne_eqb (b + 1) 0 (λ i. omega arith) ∙ go (eqb b 0)
  where
    go : (c : Bool) → false ≡ both c false
    go true = refl
    go false = refl
open_after b false = let z : b + 0 ≡ b = omega arith in rw z (go (eqb b 0))
  where
    go : (c : Bool) → c ≡ both c true
    go true = refl
    go false = refl

-- one turn at a leaf of name n, by whether the whole counts, whether a BODY was met before, and whether the leaf is a BODY
module _ (s : List ℕ) (q : ℕ) (x : Option ℕ) (n name next : ℕ) (d : List ℕ) (o : Maybe Located) (K : Chunks) (v : Maybe Located) where
  leaf_turn :
      (b : ℕ) (whole : Bool) → eqb BODY name ≡ false → Stands s (located q d) → Marks s x o →
      v ≡ pick (still_open whole b)
      (pick (ends_at whole n) o (last_named (ends_at whole) name next (pick (eqb n name) (some (located q d)) o) K)) o →
      (u : Maybe Located) × Marks s (newer_of n q b whole name x) u × (v ≡ to_come whole (b + pick (eqb n BODY) 1 0) name next u K)
  leaf_turn b true k w m e = (pick (eqb n name) (some (located q d)) o, marks_pick s (eqb n name) q x d o w m, e)
  leaf_turn b false k w m e = rw (open_after b (eqb n BODY)) (go (eqb b 0) (eqb n BODY) refl e)
    where
      go :
          (c hit : Bool) → eqb n BODY ≡ hit →
          v ≡ pick c (pick hit o (last_named (ends_at false) name next (pick (eqb n name) (some (located q d)) o) K)) o →
          (u : Maybe Located) × Marks s (pick (both c (eqb n name)) (Some q) x) u ×
          (v ≡ pick (both c (not hit)) (last_named (ends_at false) name next u K) u)
      go true true i e = let z : n ≡ BODY = eqb-true n BODY i in (o, rw (z, k) m, e)
      go true false i e = (pick (eqb n name) (some (located q d)) o, marks_pick s (eqb n name) q x d o w m, e)
      go false hit i e = (o, m, e)

-- one turn at a group, which has another name
group_turn :
    (s : List ℕ) (q : ℕ) (x : Option ℕ) (n name next : ℕ) (o : Maybe Located) (K : Chunks) (v : Maybe Located) (b : ℕ) (whole : Bool) →
    eqb n name ≡ false → eqb n BODY ≡ false → Marks s x o → v ≡ to_come whole b name next o K →
    (u : Maybe Located) × Marks s (newer_of n q b whole name x) u × (v ≡ to_come whole (b + pick (eqb n BODY) 1 0) name next u K)
group_turn s q x n name next o K v b whole i j m e = (o, rw i (kept (still_open whole b)), rw (j, none_more) e)
  where
    kept : (c : Bool) → Marks s (pick (both c false) (Some q) x) o
    kept true = m
    kept false = m

    none_more : b + 0 ≡ b
    none_more = omega arith

module _ (s : List ℕ) (p e : ℕ) (whole : Bool) (q : ℕ) (m : Sibling) (t : Tells s q e m) where
  pub looking_more :
      (name : ℕ) → is_group (kind_of name) ≡ false → is_group (kind_of BODY) ≡ false → eqb BODY name ≡ false → (b : ℕ) (x : Option ℕ) →
      Looking s p e whole q b name x →
      Looking s p e whole m.next (b + pick (eqb m.name.code BODY) 1 0) name (newer_of m.name.code q b whole name x)
  unfolding last_named
  looking_more name k kb nb b x w = record {
    at = λ F R h. let y = w.at F R h in
        go F R y.0 y.1 y.2.0 y.2.1 y.2.2 (t.front y.0 R y.1);
  }
    where
      go :
          (F : Chunks) (R : List ℕ) (K : Chunks) → Holds s q e K R → (o : Maybe Located) → Marks s x o →
          last_named (ends_at whole) name p nothing F ≡ to_come whole b name q o K → Front s q e m.name.code m.next K R →
          (K' : Chunks) × Holds s m.next e K' R × ((u : Maybe Located) × Marks s (newer_of m.name.code q b whole name x) u ×
          (last_named (ends_at whole) name p nothing F ≡ to_come whole (b + pick (eqb m.name.code BODY) 1 0) name m.next u K'))
      go F R none h o a u f = absurd f
      go F R (leaf n d pd K) h o a u f =
          (K, f.2, rw f.0 (leaf_turn s q x n name m.next d o K _ b whole nb f.1 a (rw (leaf_steps s q e _ _ n d pd K R h f) at u)))
      go F R (group n y G K) h o a u f =
          let i = no_group n name h.regular.0 k in
          let j = no_group n BODY h.regular.0 kb in
          (K, f.1, rw f.0 (group_turn s q x n name m.next o K _ b whole i j a (rw (group_steps s q e _ _ n y G K R h f) at u)))

pub looking_end : (s : List ℕ) (p e : ℕ) (whole : Bool) (q b name : ℕ) (x : Option ℕ) → e ≤ q → Looking s p e whole q b name x →
    LastIs s p e whole name x
unfolding last_named
looking_end s p e whole q b name x l w = record {
  at = λ F R h. let y = w.at F R h in
      go F y.0 (all_read s q e y.0 R l y.1) y.2.0 y.2.1 y.2.2 (still_open whole b) refl;
}
  where
    go :
        (F K : Chunks) → K ≡ none → (o : Maybe Located) → Marks s x o →
        last_named (ends_at whole) name p nothing F ≡ to_come whole b name q o K →
        (c : Bool) → still_open whole b ≡ c → Marks s x (last_named (ends_at whole) name p nothing F)
    go F K z o a u true i = let v : last_named (ends_at whole) name p nothing F ≡ o = rw (z, i) at u in rw v a
    go F K z o a u false i = let v : last_named (ends_at whole) name p nothing F ≡ o = rw (z, i) at u in rw v a

-- the BODYs met so far, and those to come
pub record Counting (s : List ℕ) (p e q b : ℕ) (first : Option ℕ) : Type 0 where
  pub at :
      (F : Chunks) (R : List ℕ) → Holds s p e F R →
      (K : Chunks) × Holds s q e K R × ((met : List Located) × (length met ≡ b) × Marks s first (first_of met) ×
      (bodies_from p F ≡ met ++ bodies_from q K))

pub counting_start : (s : List ℕ) (p e : ℕ) → Counting s p e p 0 None
counting_start s p e = record { at = λ F R h. (F, h, ([], refl, refl, refl)) }

-- one more BODY: it is the first if there was none
one_more :
    (s : List ℕ) (q : ℕ) (first : Option ℕ) (d : List ℕ) (met : List Located) (b : ℕ) → length met ≡ b → Stands s (located q d) →
    Marks s first (first_of met) →
    Marks s (pick (both (eqb b 0) true) (Some q) first) (first_of (met ++ (located q d ∷ [])))
one_more s q first d [] b i w m = rw (← i) (refl, w)
one_more s q first d (y ∷ met) b i w m = let z : suc (length met) ≡ b = i in rw (ne_eqb b 0 (λ e. omega arith)) m

module _ (s : List ℕ) (p e q : ℕ) (m : Sibling) (t : Tells s q e m) where
  pub counting_more :
      is_group (kind_of BODY) ≡ false → (b : ℕ) (first : Option ℕ) → Counting s p e q b first →
      Counting s p e m.next (b + pick (eqb m.name.code BODY) 1 0) (pick (both (eqb b 0) (eqb m.name.code BODY)) (Some q) first)
  unfolding bodies_from
  counting_more kb b first w = record {
    at = λ F R h. let y = w.at F R h in
        go F R y.0 y.1 y.2.0 y.2.1 y.2.2 y.2.3 (t.front y.0 R y.1);
  }
    where
      Next : Chunks → List ℕ → ℕ → Type 0
      Next F R n =
          (K' : Chunks) × Holds s m.next e K' R × ((met : List Located) × (length met ≡ b + pick (eqb n BODY) 1 0) ×
          Marks s (pick (both (eqb b 0) (eqb n BODY)) (Some q) first) (first_of met) × (bodies_from p F ≡ met ++ bodies_from m.next K'))

      stays : (c : Bool) (met : List Located) → Marks s first (first_of met) → Marks s (pick (both c false) (Some q) first) (first_of met)
      stays true met a = a
      stays false met a = a

      other :
          (F : Chunks) (R : List ℕ) (K : Chunks) (n : ℕ) (met : List Located) → eqb n BODY ≡ false → Holds s m.next e K R →
          length met ≡ b →
          Marks s first (first_of met) → bodies_from p F ≡ met ++ bodies_from m.next K → Next F R n
      other F R K n met i h c a u = (K, h, (met, rw i (omega (arith, c)), rw i (stays (eqb b 0) met a), u))

      at_leaf :
          (F : Chunks) (R : List ℕ) (K : Chunks) (n : ℕ) (d : List ℕ) (met : List Located) (hit : Bool) → eqb n BODY ≡ hit →
          Holds s m.next e K R → length met ≡ b →
          Stands s (located q d) → Marks s first (first_of met) →
          bodies_from p F ≡ met ++ (pick hit (located q d ∷ []) [] ++ bodies_from m.next K) → Next F R n
      at_leaf F R K n d met true i h c x a u = (
        K,
        h,
        (
          met ++ (located q d ∷ []),
          rw (i, length-append) (omega (arith, c)),
          rw i (one_more s q first d met b c x a),
          rw append_assoc u,
        ),
      )
      at_leaf F R K n d met false i h c x a u = other F R K n met i h c a u

      go :
          (F : Chunks) (R : List ℕ) (K : Chunks) → Holds s q e K R → (met : List Located) → length met ≡ b → Marks s first (first_of met) →
          bodies_from p F ≡ met ++ bodies_from q K → Front s q e m.name.code m.next K R → Next F R m.name.code
      go F R none h met c a u f = absurd f
      go F R (leaf n d pd K) h met c a u f =
          rw f.0 (at_leaf F R K n d met (eqb n BODY) refl f.2 c f.1 a (rw (leaf_steps s q e _ _ n d pd K R h f) at u))
      go F R (group n y G K) h met c a u f =
          rw f.0 (other F R K n met (no_group n BODY h.regular.0 kb) f.1 c a (rw (group_steps s q e _ _ n y G K R h f) at u))

pub counting_end : (s : List ℕ) (p e q b : ℕ) (first : Option ℕ) → e ≤ q → Counting s p e q b first → BodiesAre s p e b first
unfolding bodies_from
counting_end s p e q b first l w = record {
  at = λ F R h. let y = w.at F R h in
      go F y.0 (all_read s q e y.0 R l y.1) y.2.0 y.2.1 y.2.2 y.2.3;
}
  where
    go :
        (F K : Chunks) → K ≡ none → (met : List Located) → length met ≡ b → Marks s first (first_of met) →
        bodies_from p F ≡ met ++ bodies_from q K →
        (b ≡ length (bodies_from p F)) × Marks s first (first_of (bodies_from p F))
    go F K z met c a u = let v : bodies_from p F ≡ met = rw (z, append-nil) at u in rw v (sym c, a)
