-- Laws of `group_header_of` and `header_of`: one for each line of 01's table, from the tests that the code has made by then.
use Prim.Native.Nat.{ℕ, ◌+◌, ◌-◌, ◌*◌, ◌/◌, ◌%◌, ◌≤◌, ◌<◌}
use mathlib.Core.Path.{◌≡◌, ap, ◌∙◌}
use mathlib.Core.List.{List}
use mathlib.Core.Bool.{Bool, true, false}
use borrow.Author.Tests.{lt-ltb, le-ltb, eq-eqb, ne_eqb}
use native.Mathlib.Omega.{arith}
use Rattle.iff_name.specs.Name.{well_formed, version_name, kind_of}
use Rattle.iff_name.specs.declared.Kind.{Kind}
use Rattle.iff_rules.specs.declared.Position.{Position}
use Rattle.iff_header.specs.declared.Header.{Header}
use Rattle.iff_header.specs.declared.Header.TheVariants.{Leaf, Group}
use Rattle.iff_chunk.specs.Chunks.{word}
use Rattle.iff_rules.specs.Rules.{is_group, misplaced, group_type, second_prop}
use Rattle.iff_header.specs.Checks.{group_header_of, sized_header_of, header_of, Fitting, Opened}
use Rattle.iff_refusal.specs.declared.Reason.TheVariants.{VersionName, HeaderCut, BadName, Misplaced, SizeTooGreat, NoPad}
use Rattle.iff_refusal.specs.declared.Reason.TheVariants.{TooDeep, GroupTooShort, BadType, SecondProp}
use Rattle.iff_refusal.specs.declared.Reason.{Reason}
use Rattle.std.specs.Prelude.{Ok, Err, Result}

module _ (levels : ℕ) (s : List ℕ) (from : ℕ) (k : Kind) (z p : ℕ) where
  pub refuse_9 : levels ≡ 0 → Err TooDeep ≡ group_header_of levels s from k z p
  unfolding group_header_of
  refuse_9 l = simp (eq-eqb _ _ l)

  pub refuse_10 : (levels ≡ 0 → ⊥) → z < 4 → Err GroupTooShort ≡ group_header_of levels s from k z p
  unfolding group_header_of
  refuse_10 l h = simp (ne_eqb _ _ l, lt-ltb _ _ h)

  module _ {t : ℕ} (l : levels ≡ 0 → ⊥) (h : 4 ≤ z) (e : t ≡ word s (p + 8)) {b : Bool} (y : b ≡ group_type k t) where
    pub refuse_11 : b ≡ false → Err BadType ≡ group_header_of levels s from k z p
    unfolding group_header_of
    refuse_11 i = simp (ne_eqb _ _ l, le-ltb _ _ h, ← e, ← y, i)

    module _ (i : b ≡ true) {d : Bool} (q : d ≡ second_prop k s from p t) where
      pub refuse_12 : d ≡ true → Err SecondProp ≡ group_header_of levels s from k z p
      unfolding group_header_of
      refuse_12 j = simp (ne_eqb _ _ l, le-ltb _ _ h, ← e, ← y, i, ← q, j)

      pub group_sound : d ≡ false → Ok (Group k z) ≡ group_header_of levels s from k z p
      unfolding group_header_of
      group_sound j = simp (ne_eqb _ _ l, le-ltb _ _ h, ← e, ← y, i, ← q, j)

-- what a group's own checks leave, with the checks before them
pub opened_fits :
    (levels : ℕ) (s : List ℕ) (p e : ℕ) (k : Kind) (z : ℕ) (h : Result Header Reason) →
    Opened levels k z h → k ≡ kind_of (word s p) → z ≡ word s (p + 4) → p + 8 + z + z % 2 ≤ e → Fitting levels s p e h
opened_fits levels s p e k z (Err n) o i j f = tt
opened_fits levels s p e k z (Ok (Leaf z')) o i j f = absurd o
opened_fits levels s p e k z (Ok (Group k' z')) o i j f =
    record { size = o.1 ∙ j; ends = rw o.1 f; kind = o.0 ∙ i; typed = rw o.1 o.2; level = o.3 }

module _ (levels : ℕ) (s : List ℕ) (from : ℕ) (k : Kind) (p e : ℕ) {z : ℕ} (b : z ≡ word s (p + 4)) where
  pub refuse_7 : e - p - 8 < z → Err SizeTooGreat ≡ sized_header_of levels s from k p e
  refuse_7 c = rw (← b, lt-ltb _ _ c)

  module _ (c : z ≤ e - p - 8) where
    pub refuse_8 : e - p - 8 < (z + 1) / 2 * 2 → Err NoPad ≡ sized_header_of levels s from k p e
    refuse_8 d = let d' : e - p - 8 - z < z % 2 = omega arith in rw (← b, le-ltb _ _ c, lt-ltb _ _ d')

    module _ (d : (z + 1) / 2 * 2 ≤ e - p - 8) {g : Bool} (q : g ≡ is_group k) where
      pub of_group :
          {r : Result Header Reason} → g ≡ true → r ≡ group_header_of levels s from k z p → r ≡ sized_header_of levels s from k p e
      of_group t R = let d' : z % 2 ≤ e - p - 8 - z = omega arith in rw (← b, le-ltb _ _ c, le-ltb _ _ d', ← q, t) R

      pub of_leaf : g ≡ false → Ok (Leaf z) ≡ sized_header_of levels s from k p e
      of_leaf t = let d' : z % 2 ≤ e - p - 8 - z = omega arith in rw (← b, le-ltb _ _ c, le-ltb _ _ d', ← q, t)

      pub leaf_fits : g ≡ false → k ≡ kind_of (word s p) → p + 8 ≤ e → Fitting levels s p e (Ok (Leaf z))
      leaf_fits t l h = record { size = b; ends = omega arith; plain = rw (← l, ← q) t }

      pub group_fits : (r : Result Header Reason) → Opened levels k z r → k ≡ kind_of (word s p) → p + 8 ≤ e → Fitting levels s p e r
      group_fits r o l h = opened_fits levels s p e k z r o l b (omega arith)

module _ (levels : ℕ) (s : List ℕ) (from : ℕ) (w : Position) (p e : ℕ) where
  pub refuse_4 : e - p < 8 → Err HeaderCut ≡ header_of levels s from w p e
  unfolding header_of
  refuse_4 h = simp (lt-ltb _ _ h)

  module _ (h : 8 ≤ e - p) {n : ℕ} (i : n ≡ word s p) {f : Bool} (y : f ≡ well_formed n) where
    pub refuse_5 : f ≡ false → Err BadName ≡ header_of levels s from w p e
    unfolding header_of
    refuse_5 j = simp (le-ltb _ _ h, ← i, ← y, j)

    module _ (j : f ≡ true) {v : Bool} (x : v ≡ version_name n) where
      pub refuse_3 : v ≡ true → Err VersionName ≡ header_of levels s from w p e
      unfolding header_of
      refuse_3 u = simp (le-ltb _ _ h, ← i, ← y, j, ← x, u)

      module _ (u : v ≡ false) {m : Bool} (o : m ≡ misplaced w n) where
        pub refuse_6 : m ≡ true → Err Misplaced ≡ header_of levels s from w p e
        unfolding header_of
        refuse_6 a = simp (le-ltb _ _ h, ← i, ← y, j, ← x, u) (rw (← o, a))

        pub well_named :
            {k : Kind} {r : Result Header Reason} → m ≡ false → k ≡ kind_of n →
            r ≡ sized_header_of levels s from k p e → r ≡ header_of levels s from w p e
        unfolding header_of
        well_named a l R = simp (le-ltb _ _ h, ← i, ← y, j, ← x, u) (rw (← o, a, ← l) R)

-- the kind that the name at p gives
pub kind_at : (s : List ℕ) (p : ℕ) {n : ℕ} {k : Kind} → n ≡ word s p → k ≡ kind_of n → k ≡ kind_of (word s p)
kind_at s p i l = l ∙ ap kind_of i
