-- Laws of the search for a repeated PROP in one class: a PROP whose flag is not set has no PROP of its type before it, since each one
-- before has set its flag.
use Prim.Native.Nat.{ℕ, zero, suc, ◌+◌, ◌-◌, ◌*◌, ◌/◌, ◌%◌, ◌≤◌, ◌<◌}
use mathlib.Core.Path.{◌≡◌, refl, sym, ap, ◌∙◌}
use mathlib.Core.List.{List}
use mathlib.Core.Logic.{⊎_elim, ◌⊎◌, inl, inr}
use mathlib.Core.Bool.{Bool, true, false}
use lib.Dec.{eqb, ltb, leb}
use lib.ListN.{length, get_or, set, length-set}
use lib.Seq.{get_or-set_same, get_or-set_other}
use borrow.Author.Tests.{le-ltb, eq-eqb, ne_eqb, eqb-true, eqb-false, leb-true, le-leb, lt-leb, ltb-true, ltb-false}
use native.Mathlib.Omega.{arith}
use Rattle.iff_name.specs.Name.{both, pick}
use Rattle.iff_chunk.specs.Chunks.{word, next_at}
use Rattle.iff_rules.specs.Rules.{prop_at, prop_within, prop_before}
use Rattle.iff_type_flags.specs.Classes.{place, digit_of, class_of, slot_of, in_class, FreshIn, Marked}
use Rattle.iff_name.specs.Codes as Codes

-- places

pub place_next : (k : ℕ) (s : List ℕ) (from : ℕ) → place s from (suc k) ≡ next_at s (place s from k)
unfolding place
place_next zero s from = refl
place_next (suc k) s from = place_next k s (next_at s from)

place_from : (k : ℕ) (s : List ℕ) (from : ℕ) → from ≤ place s from k
unfolding place
place_from zero s from = omega arith
place_from (suc k) s from = let h = place_from k s (next_at s from) in omega arith

place_grows : (j k : ℕ) (s : List ℕ) (from : ℕ) → k ≤ j → place s from k ≤ place s from j
unfolding place
place_grows zero zero s from h = omega arith
place_grows zero (suc k) s from h = absurd (omega arith)
place_grows (suc j) zero s from h = place_from (suc j) s from
place_grows (suc j) (suc k) s from h = place_grows j k s (next_at s from) (omega arith)

pick_false : (b x : Bool) → x ≡ false → pick b x false ≡ false
pick_false true x e = e
pick_false false x e = refl

-- if none of k chunks is a PROP of type t, there is none before the next
none_before :
    (k : ℕ) (s : List ℕ) (from t : ℕ) → ((j : ℕ) → j < k → prop_at s (place s from j) t ≡ false) →
    (fuel : ℕ) → prop_within fuel s from (place s from k) t ≡ false
unfolding place prop_within
none_before k s from t h zero = refl
none_before zero s from t h (suc f) = rw (le-ltb from from (omega arith))
none_before (suc k) s from t h (suc f) =
    pick_false (ltb from (place s (next_at s from) k)) _
    (rw (h 0 (omega arith)) (none_before k s (next_at s from) t (λ j l. h (suc j) (omega arith)) f))

-- flags

-- a PROP of class c at p has set its flag and is the first of its type
abbrev pub Passed : ℕ → List ℕ → ℕ → List ℕ → ℕ → Type 0
Passed c s from flags p =
    in_class c s p ≡ true → (get_or flags (slot_of (word s (p + 8))) 0 ≡ 1) × (prop_before s from p (word s (p + 8)) ≡ false)

-- the chunks before q are passed
abbrev pub Tracked : ℕ → List ℕ → ℕ → ℕ → List ℕ → Type 0
Tracked c s from q flags = (k : ℕ) × ((q ≡ place s from k) × ((j : ℕ) → j < k → Passed c s from flags (place s from j)))

both_left : (a b : Bool) → both a b ≡ true → a ≡ true
both_left true b e = refl
both_left false b e = absurd (let y : ◌≡◌ {A = ℕ} 0 1 = cc in omega arith)

both_right : (a b : Bool) → both a b ≡ true → b ≡ true
both_right true b e = e
both_right false b e = absurd (let y : ◌≡◌ {A = ℕ} 0 1 = cc in omega arith)

same_type : (s : List ℕ) (p t : ℕ) → prop_at s p t ≡ true → word s (p + 8) ≡ t
same_type s p t e = eqb-true _ _ (both_right (eqb (word s p) Codes.PROP) (eqb (word s (p + 8)) t) e)

-- two PROPs of one type: if one is of class c, so is the other
same_class : (c : ℕ) (s : List ℕ) (p q : ℕ) → in_class c s q ≡ true → prop_at s p (word s (q + 8)) ≡ true → in_class c s p ≡ true
same_class c s p q i e =
    let a : eqb (word s p) Codes.PROP ≡ true = both_left (eqb (word s p) Codes.PROP) (eqb (word s (p + 8)) (word s (q + 8))) e in
    let b : word s (p + 8) ≡ word s (q + 8) = same_type s p (word s (q + 8)) e in
    let d : eqb (class_of (word s (q + 8))) c ≡ true = both_right (eqb (word s q) Codes.PROP) (eqb (class_of (word s (q + 8))) c) i in
    rw (a, b) d

pub le_or_lt : (a b : ℕ) → (a ≤ b) ⊎ (b < a)
le_or_lt a b = go (ltb b a) refl
  where
    go : (t : Bool) → ltb b a ≡ t → (a ≤ b) ⊎ (b < a)
    go true e = inr (ltb-true _ _ e)
    go false e = inl (ltb-false _ _ e)

pub below_suc : (j k : ℕ) → j < suc k → (j < k) ⊎ (j ≡ k)
below_suc j k h = ⊎_elim (λ a. inr (omega arith)) (λ a. inl a) (le_or_lt k j)

false_or : (b : Bool) → (b ≡ true → ⊥) → b ≡ false
false_or true h = absurd (h refl)
false_or false h = refl

module _ (c : ℕ) (s : List ℕ) (from q : ℕ) (flags : List ℕ) where
  pub tracked_start : q ≡ from → Tracked c s from q flags
  unfolding place
  tracked_start e = (0, (e, λ j h. absurd (omega arith)))

  -- a flag that is not set
  unflagged :
      (k : ℕ) → ((j : ℕ) → j < k → Passed c s from flags (place s from j)) → in_class c s (place s from k) ≡ true →
      (get_or flags (slot_of (word s (place s from k + 8))) 0 ≡ 1 → ⊥) →
      prop_before s from (place s from k) (word s (place s from k + 8)) ≡ false
  unflagged k h i n =
      none_before k s from (word s (place s from k + 8))
      (λ j l. false_or (prop_at s (place s from j) (word s (place s from k + 8))) (λ e. n (clash j l e)))
      (place s from k - from)
    where
      clash :
          (j : ℕ) → j < k → prop_at s (place s from j) (word s (place s from k + 8)) ≡ true →
          get_or flags (slot_of (word s (place s from k + 8))) 0 ≡ 1
      clash j l e =
          let b : word s (place s from j + 8) ≡ word s (place s from k + 8) = same_type s (place s from j) (word s (place s from k + 8)) e in
          let f : get_or flags (slot_of (word s (place s from j + 8))) 0 ≡ 1 = (h j l (same_class c s (place s from j) (place s from k) i e)).0 in
          rw b at f

  not_both : (a b : Bool) → both a b ≡ false → a ≡ true → b ≡ false
  not_both true b e i = e
  not_both false b e i = absurd (let y : ◌≡◌ {A = ℕ} 0 1 = cc in omega arith)

  -- past a chunk whose flag was not set
  passed_more :
      (k : ℕ) (marked : List ℕ) → ((j : ℕ) → j < k → Passed c s from flags (place s from j)) →
      Marked (in_class c s (place s from k)) (slot_of (word s (place s from k + 8))) flags marked →
      both (in_class c s (place s from k)) (eqb (get_or flags (slot_of (word s (place s from k + 8))) 0) 1) ≡ false →
      (j : ℕ) → (j < k) ⊎ (j ≡ k) → Passed c s from marked (place s from j)
  passed_more k marked h m e j (inl l) i = (m.kept _ (h j l i).0, (h j l i).1)
  passed_more k marked h m e j (inr l) i =
      let i' : in_class c s (place s from k) ≡ true = rw (← l) i in
      rw l (m.here i', unflagged k h i' (eqb-false _ _ (not_both _ _ e i')))

  pub tracked_more :
      (q' : ℕ) (marked : List ℕ) (b : Bool) → b ≡ both (in_class c s q) (eqb (get_or flags (slot_of (word s (q + 8))) 0) 1) → b ≡ false →
      Marked (in_class c s q) (slot_of (word s (q + 8))) flags marked → q' ≡ next_at s q → Tracked c s from q flags →
      Tracked c s from q' marked
  tracked_more q' marked b d e m n (k, (i, h)) =
      (suc k, (n ∙ (ap (next_at s) i ∙ sym (place_next k s from)), λ j l. passed_more k marked h (rw i at m) (rw i at (sym d ∙ e)) j (below_suc j k l)))

  pub tracked_stop : Tracked c s from q flags → FreshIn c s from q
  unfolding FreshIn
  tracked_stop (k, (i, h)) j l u = ⊎_elim (λ a. absurd (let g = place_grows j k s from a in omega arith)) (λ a. (h j a u).1) (le_or_lt k j)

  pub tracked_end : (limit : ℕ) → limit ≤ q → Tracked c s from q flags → FreshIn c s from limit
  unfolding FreshIn
  tracked_end limit g t j l u = tracked_stop t j (omega arith) u

-- what the code has found at a place

within : (a b c : ℕ) → both (leb a b) (leb b c) ≡ true → (a ≤ b) × (b ≤ c)
within a b c e = (leb-true a b (both_left (leb a b) (leb b c) e), leb-true b c (both_right (leb a b) (leb b c) e))

module _ (b : ℕ) where
  pub letter_from : both (leb 65 b) (leb b 90) ≡ true → 65 ≤ b
  letter_from h = (within 65 b 90 h).0

  pub figure_from : both (leb 48 b) (leb b 57) ≡ true → 22 ≤ b
  figure_from h = omega (arith, (within 48 b 57 h).0)

  pub digit_letter : both (leb 65 b) (leb b 90) ≡ true → (b - 65 ≡ digit_of b) × (b - 65 < 38)
  unfolding digit_of
  digit_letter h =
      let w = within 65 b 90 h in
      (rw (le-leb _ _ w.0, le-leb _ _ w.1), omega arith)

  pub digit_figure : both (leb 48 b) (leb b 57) ≡ true → (b - 22 ≡ digit_of b) × (b - 22 < 38)
  unfolding digit_of
  digit_figure h =
      let w = within 48 b 57 h in
      let l : b < 65 = omega arith in
      (rw (lt-leb _ _ l, le-leb _ _ w.0, le-leb _ _ w.1), omega arith)

  pub digit_space : b ≡ 32 → 36 ≡ digit_of b
  unfolding digit_of
  digit_space e = rw e

  pub digit_none :
      both (leb 65 b) (leb b 90) ≡ false → both (leb 48 b) (leb b 57) ≡ false → (b ≡ 32 → ⊥) → 37 ≡ digit_of b
  unfolding digit_of
  digit_none h i n = rw (ne_eqb _ _ n) (go (leb 65 b) (leb b 90) (leb 48 b) (leb b 57) h i)
    where
      go :
          (u v x y : Bool) → both u v ≡ false → both x y ≡ false →
          37 ≡ pick u (pick v (b - 65) 37) (pick x (pick y (b - 22) 37) 37)
      go true true x y h i = absurd (let z : ◌≡◌ {A = ℕ} 0 1 = cc in omega arith)
      go true false x y h i = refl
      go false v true true h i = absurd (let z : ◌≡◌ {A = ℕ} 0 1 = cc in omega arith)
      go false v true false h i = refl
      go false v false y h i = refl

pub class_of_lem : (t a b : ℕ) → a ≡ digit_of (t / 16777216) → b ≡ digit_of (t / 65536 % 256) → a + b / 19 * 38 ≡ class_of t
unfolding class_of
class_of_lem t a b i j = rw (← i, ← j)

pub slot_of_lem :
    (t b c d : ℕ) → b ≡ digit_of (t / 65536 % 256) → c ≡ digit_of (t / 256 % 256) → d ≡ digit_of (t % 256) →
    b % 19 * 1444 + c * 38 + d ≡ slot_of t
unfolding slot_of
slot_of_lem t b c d i j k = rw (← i, ← j, ← k)

module _ (s : List ℕ) (p class a : ℕ) (e : a ≡ word s p) where
  pub class_at : (t d : ℕ) → a ≡ Codes.PROP → t ≡ word s (p + 8) → d ≡ class_of t → eqb d class ≡ in_class class s p
  class_at t d i f g = simp (← e, eq-eqb _ _ i, ← f, ← g)

  pub class_none : (a ≡ Codes.PROP → ⊥) → false ≡ in_class class s p
  class_none i = simp (← e, ne_eqb _ _ i)

module _ (s : List ℕ) (p class : ℕ) (b : Bool) (e : b ≡ in_class class s p) (flags : List ℕ) where
  pub flag_none : b ≡ false → false ≡ both (in_class class s p) (eqb (get_or flags (slot_of (word s (p + 8))) 0) 1)
  flag_none i = rw (← e, i)

  pub mark_none : b ≡ false → Marked (in_class class s p) (slot_of (word s (p + 8))) flags flags
  mark_none i = record { size = refl; kept = λ k h. h; here = λ h. absurd (let y : ◌≡◌ {A = ℕ} 0 1 = cc in omega arith) }

  module _ (t i : ℕ) (f : t ≡ word s (p + 8)) (g : i ≡ slot_of t) (h : b ≡ true) where
    pub flag_is : eqb (get_or flags i 0) 1 ≡ both (in_class class s p) (eqb (get_or flags (slot_of (word s (p + 8))) 0) 1)
    flag_is = rw (← e, h, ← f, ← g)

    pub mark_set : i < length flags → Marked (in_class class s p) (slot_of (word s (p + 8))) flags (set flags i 1)
    mark_set l = record { size = length-set flags i 1; kept = λ k u. kept k u (eqb k i) refl; here = λ u. rw (← f, ← g) (get_or-set_same flags i 1 0 l) }
      where
        kept : (k : ℕ) → get_or flags k 0 ≡ 1 → (v : Bool) → eqb k i ≡ v → get_or (set flags i 1) k 0 ≡ 1
        kept k u true d = let x : k ≡ i = eqb-true k i d in rw x (get_or-set_same flags i 1 0 l)
        kept k u false d = get_or-set_other flags i k 1 0 (eqb-false k i d) ∙ u

pub marked_size : (b : Bool) (i n : ℕ) (flags marked : List ℕ) → Marked b i flags marked → length flags ≡ n → length marked ≡ n
marked_size b i n flags marked m e = m.size ∙ e

pub ruleset flag_laws = (tracked_start, tracked_more, tracked_stop, tracked_end, slot_of_lem, class_of_lem, class_at, class_none, flag_none, mark_none, flag_is, mark_set, marked_size)
