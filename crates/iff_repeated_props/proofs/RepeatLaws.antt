-- Laws of the search for a repeated PROP: what holds in each class holds of all PROPs.
use Prim.Native.Nat.{ℕ, suc, ◌+◌, ◌≤◌, ◌<◌}
use mathlib.Core.Path.{◌≡◌, refl, sym, ap, ◌∙◌}
use mathlib.Core.List.{List, [], ◌∷◌}
use mathlib.Core.Logic.{⊎_elim, ◌⊎◌, inl, inr}
use mathlib.Core.Bool.{Bool, true, false}
use lib.Dec.{eqb}
use borrow.Author.Tests.{eq-eqb, eqb-true}
use native.Mathlib.Omega.{arith}
use types.Run.{OneOf, miss}
use denote.Enum.Declared.{tag_of}
use Rattle.iff_name.specs.contracts.Kind.{the_type}
use Rattle.iff_name.specs.Name.{pick, kind_of, byte0, byte1}
use Rattle.iff_name.specs.declared.Kind.{Kind}
use Rattle.iff_name.specs.declared.Kind.TheVariants.{FORM, LIST, CAT, PROP, FILLER, LOCAL}
use Rattle.iff_chunk.specs.Chunks.{word, next_at}
use Rattle.iff_rules.specs.Rules.{prop_before, second_prop}
use Rattle.iff_type_flags.specs.Classes.{place, class_of, FreshIn}
use Rattle.iff_type_flags.specs.laws.Flags.{digit_below}
use Rattle.iff_type_flags.proofs.FlagLaws.{place_next, le_or_lt, below_suc}
use Rattle.iff_repeated_props.specs.Repeats.{Settled, Fresh}
use Rattle.iff_name.specs.Codes as Codes

-- the first n classes and the last hold no repeat before r
abbrev pub Covered : ℕ → List ℕ → ℕ → ℕ → Type 0
Covered n s from r = (c : ℕ) → (c < n) ⊎ (c ≡ 75) → FreshIn c s from r

fresh_lower : (c : ℕ) (s : List ℕ) (from r r' : ℕ) → r' ≤ r → FreshIn c s from r → FreshIn c s from r'
unfolding FreshIn
fresh_lower c s from r r' h f k l u = f k (omega arith) u

prop_name : (n : ℕ) → kind_of n ≡ PROP → n ≡ Codes.PROP
unfolding kind_of
prop_name n h = go (eqb n Codes.FORM) (eqb n Codes.LIST) (eqb n Codes.CAT) (eqb n Codes.PROP) (eqb n Codes.FILLER) refl h
  where
    go : (a b c d e : Bool) → eqb n Codes.PROP ≡ d → pick a FORM (pick b LIST (pick c CAT (pick d PROP (pick e FILLER LOCAL)))) ≡ PROP → n ≡ Codes.PROP
    go true b c d e i h = absurd (let y : ◌≡◌ {A = ℕ} 0 1 = cc in omega arith)
    go false true c d e i h = absurd (let y : ◌≡◌ {A = ℕ} 0 1 = cc in omega arith)
    go false false true d e i h = absurd (let y : ◌≡◌ {A = ℕ} 0 1 = cc in omega arith)
    go false false false true e i h = eqb-true _ _ i
    go false false false false true i h = absurd (let y : ◌≡◌ {A = ℕ} 0 1 = cc in omega arith)
    go false false false false false i h = absurd (let y : ◌≡◌ {A = ℕ} 0 1 = cc in omega arith)

class_below : (t : ℕ) → class_of t < 76
unfolding class_of
class_below t = omega (arith, digit_below (byte0 t), digit_below (byte1 t))

module _ (s : List ℕ) (from : ℕ) where
  pub covered_start : (r : ℕ) → FreshIn 75 s from r → Covered 0 s from r
  covered_start r f c (inl h) = absurd (omega arith)
  covered_start r f c (inr h) = rw h f

  pub covered_more : (n r r' : ℕ) → r' ≤ r → FreshIn n s from r' → Covered n s from r → Covered (n + 1) s from r'
  covered_more n r r' h f a c (inl l) = ⊎_elim (λ u. let e : n ≡ c = omega arith in rw (← e) f) (λ u. fresh_lower c s from r r' h (a c (inl u))) (le_or_lt n c)
  covered_more n r r' h f a c (inr l) = fresh_lower c s from r r' h (a c (inr l))

  pub covered_end : (n r : ℕ) → 75 ≤ n → Covered n s from r → Fresh s from r
  unfolding Fresh Settled FreshIn
  covered_end n r h a k l i =
      let c : ℕ = class_of (word s (place s from k + 8)) in
      a c (⊎_elim (λ u. inl (omega arith)) (λ u. inr u) (below_suc c 75 (class_below (word s (place s from k + 8))))) k l
      (rw (eq-eqb _ _ (prop_name _ i)) (eq-eqb c c refl))

  pub fresh_none : Fresh s from 0
  unfolding Fresh Settled
  fresh_none k l i = absurd (omega arith)

-- the walk comes to the places of the chunks one after the other
abbrev pub OnWay : List ℕ → ℕ → ℕ → Type 0
OnWay s from p = (k : ℕ) × (p ≡ place s from k)

pub way_start : (s : List ℕ) (from p : ℕ) → p ≡ from → OnWay s from p
unfolding place
way_start s from p e = (0, e)

pub way_next : (s : List ℕ) (from p q : ℕ) → q ≡ next_at s p → OnWay s from p → OnWay s from q
way_next s from p q e (k, i) = (suc k, e ∙ (ap (next_at s) i ∙ sym (place_next k s from)))

pub settled_at : (s : List ℕ) (from p r : ℕ) → Fresh s from r → OnWay s from p → Settled s from p r
unfolding Fresh
settled_at s from p r f (k, i) = rw i (f k)

pub settled_none : (s : List ℕ) (from p : ℕ) → Settled s from p 0
unfolding Settled
settled_none s from p l i = absurd (omega arith)

-- what the code has found of the chunk of kind k at p
module _ (k : Kind) (s : List ℕ) (from p t : ℕ) where
  pub second_first :
      (r : ℕ) → k ≡ PROP → k ≡ kind_of (word s p) → t ≡ word s (p + 8) → Settled s from p r → p < r → false ≡ second_prop k s from p t
  unfolding Settled
  second_first r i e f h l = rw (i, f) (sym (h l (sym e ∙ i)))

  pub second_prop_lem : {b : Bool} → k ≡ PROP → b ≡ prop_before s from p t → b ≡ second_prop k s from p t
  second_prop_lem i e = rw i e

-- an arm of several variants knows that the tag is one of theirs
pub second_other : (k : Kind) (s : List ℕ) (from p t : ℕ) → OneOf (0 ∷ 1 ∷ 2 ∷ 4 ∷ 5 ∷ []) (tag_of the_type k) → false ≡ second_prop k s from p t
second_other FORM s from p t h = refl
second_other LIST s from p t h = refl
second_other CAT s from p t h = refl
second_other PROP s from p t h = absurd (miss (0 ∷ 1 ∷ 2 ∷ 4 ∷ 5 ∷ []) 3 tt h)
second_other FILLER s from p t h = refl
second_other LOCAL s from p t h = refl
