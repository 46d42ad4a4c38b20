-- For each way through the code: an entry is there whole if its last byte is; a picture is half-bright by three tests; and a number from
-- 32 on has in such a picture the halves of the entry 32 before.
use Prim.Native.Nat.{ℕ, ◌+◌, ◌-◌, ◌*◌, ◌/◌, ◌%◌, ◌<◌, ◌≤◌}
use mathlib.Core.Path.{◌≡◌, refl}
use mathlib.Core.Bool.{Bool, true, false, not}
use mathlib.Core.List.{List}
use lib.Dec.{eqb}
use lib.ListN.{length, get_or}
use borrow.Author.Tests.{lt-ltb, le-ltb, eq-eqb, ne_eqb}
use native.Mathlib.Omega.{arith}
use Rattle.iff_name.specs.Name.{both}
use Rattle.ilbm_spec.specs.declared.Colour.{Colour}
use Rattle.ilbm_spec.specs.Colours.{colour, black, halved, entry_at, has_bit, holds, is_half_bright, number_colour}

-- ---- an entry

module _ (palette : List ℕ) (i : ℕ) where
  pub entry_whole :
      3 * i + 2 < length palette →
      colour (get_or palette (3 * i) 0) (get_or palette (3 * i + 1) 0) (get_or palette (3 * i + 2) 0) ≡ entry_at palette i
  unfolding entry_at
  entry_whole h = rw (lt-ltb _ _ h)

  pub entry_missing : length palette ≤ 3 * i + 2 → black ≡ entry_at palette i
  unfolding entry_at
  entry_missing h = rw (le-ltb _ _ h)

-- ---- half-bright

both_false : (b : Bool) → false ≡ both b false
both_false true = refl
both_false false = refl

both_true : (b : Bool) → b ≡ both b true
both_true true = refl
both_true false = refl

module _ (mode planes : ℕ) (b : Bool) (e : b ≡ holds mode) where
  pub bright_holding : b ≡ true → false ≡ is_half_bright mode planes
  unfolding is_half_bright
  bright_holding f = rw (← e, f, ← both_false (eqb planes 6)) (both_false (has_bit mode 7))

  pub bright_other : b ≡ false → (planes ≡ 6 → ⊥) → false ≡ is_half_bright mode planes
  unfolding is_half_bright
  bright_other f h = rw (ne_eqb _ _ h) (both_false (has_bit mode 7))

  pub bright_six : b ≡ false → planes ≡ 6 → eqb (mode / 128 % 2) 1 ≡ is_half_bright mode planes
  unfolding is_half_bright
  bright_six f h = rw (eq-eqb _ _ h, ← e, f) (both_true _)

-- ---- the colour of a number

module _ (palette : List ℕ) (i : ℕ) where
  pub plain_number : (half : Bool) (c : Colour) → not half ≡ true → c ≡ entry_at palette i → c ≡ number_colour half palette i
  unfolding number_colour
  plain_number true c h e = absurd (let z : ◌≡◌ {A = ℕ} 0 1 = cc in omega arith)
  plain_number false c h e = e

  pub low_number : (half : Bool) (c : Colour) → i < 32 → c ≡ entry_at palette i → c ≡ number_colour half palette i
  unfolding number_colour
  low_number half c h e = rw (lt-ltb _ _ h, ← both_false half) e

  pub half_number :
      (half : Bool) (c d : Colour) → not half ≡ false → 32 ≤ i → c ≡ entry_at palette (i - 32) → d ≡ halved c →
      d ≡ number_colour half palette i
  unfolding number_colour
  half_number true c d h l e f = rw (le-ltb _ _ l, f, e)
  half_number false c d h l e f = absurd (let z : ◌≡◌ {A = ℕ} 0 1 = cc in omega arith)
