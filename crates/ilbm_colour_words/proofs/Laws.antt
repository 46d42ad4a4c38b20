-- An entry of the tables for hold-and-modify, for each way through the code: by the two high bits of a colour number, with the values that
-- its data bits have as a number.
use Prim.Native.Nat.{ℕ, ◌+◌, ◌-◌, ◌*◌, ◌/◌, ◌%◌, ◌^◌, ◌<◌, ◌≤◌}
use mathlib.Core.Path.{◌≡◌, refl, ◌∙◌}
use mathlib.Core.Bool.{Bool, true, false}
use mathlib.Core.List.{List}
use mathlib.Core.Logic.{◌⊎◌, inl, inr, ⊎_elim}
use lib.Dec.{eqb}
use borrow.Author.Tests.{eq-eqb, ne_eqb, eqb-true}
use native.Mathlib.Omega.{arith}
use Rattle.iff_name.specs.Name.{either}
use Rattle.ilbm_spec.specs.declared.Colour.{Colour}
use Rattle.ilbm_spec.specs.Colours.{entry_at, level}
use Rattle.ilbm_colour_words.specs.Words.{packed, keep_of, set_of, SixOrEight}

-- ---- 6 or 8 planes

pub six_or_eight : (planes : ℕ) → SixOrEight planes → (planes ≡ 6) ⊎ (planes ≡ 8)
six_or_eight planes s = go (eqb planes 6) refl s
  where
    go : (b : Bool) → eqb planes 6 ≡ b → either b (eqb planes 8) ≡ true → (planes ≡ 6) ⊎ (planes ≡ 8)
    go true e t = inl (eqb-true _ _ e)
    go false e t = inr (eqb-true _ _ t)

eight : (planes : ℕ) → SixOrEight planes → (planes ≡ 6 → ⊥) → planes ≡ 8
eight planes s h = ⊎_elim (λ e. absurd (h e)) (λ e. e) (six_or_eight planes s)

module _ (planes : ℕ) (e : planes ≡ 6) where
  pub six_values : (16 ≡ 2 ^ (planes - 2)) × (0 < 16)
  six_values = rw e (refl, omega arith)

  pub six_codes : (64 ≡ 2 ^ planes) × (64 ≤ 256)
  six_codes = rw e (refl, omega arith)

  pub six_level : (v : ℕ) → v < 256 → (17 * v ≡ level planes v) × (17 * v < 65536)
  six_level v h = (rw (eq-eqb _ _ e), omega arith)

module _ (planes : ℕ) (h : planes ≡ 6 → ⊥) where
  pub eight_values : SixOrEight planes → (64 ≡ 2 ^ (planes - 2)) × (0 < 64)
  eight_values s = rw (eight planes s h) (refl, omega arith)

  pub eight_codes : SixOrEight planes → (256 ≡ 2 ^ planes) × (256 ≤ 256)
  eight_codes s = rw (eight planes s h) (refl, omega arith)

  pub eight_level : (v : ℕ) → v < 256 → (4 * v + v / 16 ≡ level planes v) × (4 * v + v / 16 < 65536)
  eight_level v l = (rw (ne_eqb _ _ h), omega arith)

-- ---- an entry of hold-and-modify, by the values n of the data bits

module _ (planes code n : ℕ) (e : n ≡ 2 ^ (planes - 2)) where
  pub keep_nothing : code / n ≡ 0 → 0 ≡ keep_of planes code
  unfolding keep_of
  keep_nothing h = rw (← e, eq-eqb _ _ h)

  module _ (o : code / n ≡ 0 → ⊥) where
    pub keep_for_blue : code / n ≡ 1 → 0x00FFFF ≡ keep_of planes code
    unfolding keep_of
    keep_for_blue h = rw (← e, ne_eqb _ _ o, eq-eqb _ _ h)

    module _ (b : code / n ≡ 1 → ⊥) where
      pub keep_for_red : code / n ≡ 2 → 0xFFFF00 ≡ keep_of planes code
      unfolding keep_of
      keep_for_red h = rw (← e, ne_eqb _ _ o, ne_eqb _ _ b, eq-eqb _ _ h)

      pub keep_for_green : (code / n ≡ 2 → ⊥) → 0xFF00FF ≡ keep_of planes code
      unfolding keep_of
      keep_for_green h = rw (← e, ne_eqb _ _ o, ne_eqb _ _ b, ne_eqb _ _ h)

  module _ (palette : List ℕ) where
    pub set_entry : code / n ≡ 0 → (c : Colour) (r : ℕ) → c ≡ entry_at palette (code % n) → r ≡ packed c → r ≡ set_of planes palette code
    unfolding set_of
    set_entry h c r f g = g ∙ rw (f, ← e, eq-eqb _ _ h)

    module _ (o : code / n ≡ 0 → ⊥) (v : ℕ) (f : v ≡ level planes (code % n)) where
      pub set_blue : code / n ≡ 1 → v * 65536 ≡ set_of planes palette code
      unfolding set_of
      set_blue h = rw (f, ← e, ne_eqb _ _ o, eq-eqb _ _ h)

      module _ (b : code / n ≡ 1 → ⊥) where
        pub set_red : code / n ≡ 2 → v ≡ set_of planes palette code
        unfolding set_of
        set_red h = rw (f, ← e, ne_eqb _ _ o, ne_eqb _ _ b, eq-eqb _ _ h)

        pub set_green : (code / n ≡ 2 → ⊥) → v * 256 ≡ set_of planes palette code
        unfolding set_of
        set_green h = rw (f, ← e, ne_eqb _ _ o, ne_eqb _ _ b, ne_eqb _ _ h)
