-- The tables make the colours of the definition: a step from number to number is the step from colour to colour, for colours whose parts
-- are bytes and for the colour numbers that the planes give; so is a row of such steps, and a scan line of any plane rows.
use Prim.Native.Nat.{ℕ, zero, suc, ◌+◌, ◌-◌, ◌*◌, ◌^◌, ◌<◌, ◌≤◌}
use mathlib.Core.Path.{◌≡◌, refl, ap, ap₂, ◌∙◌, fun_ext}
use mathlib.Core.Bool.{Bool, true, false, not}
use mathlib.Core.List.{List, ◌++◌}
use mathlib.Core.Logic.{⊎_elim}
use lib.Dec.{eqb, ltb}
use lib.ListN.{length, get_or, take, length-take}
use lib.Pow.{pow_mono}
use native.Mathlib.Omega.{arith}
use Rattle.iff_name.specs.Name.{both}
use Rattle.ilbm_gather.proofs.Colours.{colour_small}
use Rattle.ilbm_spec.specs.declared.Colour.{Colour}
use Rattle.ilbm_spec.specs.Rows.{colour_by, colours_from}
use Rattle.ilbm_spec.specs.Colours.{black, halved, entry_at, holds, is_half_bright, number_colour, level, chosen, given}
use Rattle.ilbm_spec.specs.Colours.{modified, Step, pixel_colour, carried, coloured}
use Rattle.ilbm_colour_words.specs.Words.{packed, word_bytes, WordStep, by_palette, by_holding, carried_words, word_pixels}
use Rattle.ilbm_colour_words.specs.Words.{IsPalette, keep_of, set_of, SixOrEight, IsKeep, IsSet}
use Rattle.ilbm_colour_words.proofs.Held.{Small, small_black, small_pick, bytes_packed, small_set, held_or_set}
use Rattle.ilbm_colour_words.proofs.Laws.{six_or_eight}

-- one step on numbers is a step on colours, for colour numbers under a limit
pub record Steps (limit : ℕ) (words : WordStep) (step : Step) : Type 0 where
  pub small : (h : Colour) (code : ℕ) → Small h → code < limit → Small (step h code)
  pub word : (h : Colour) (code : ℕ) → Small h → code < limit → words (packed h) code ≡ packed (step h code)

module _ (limit : ℕ) (words : WordStep) (step : Step) (t : Steps limit words step) where
  carried_so :
      (rows : List (List ℕ)) → ((x : ℕ) → colour_by 1 x rows < limit) → (x n : ℕ) (h : Colour) → Small h →
      carried_words words (packed h) (colours_from x n rows) ≡ carried step h (colours_from x n rows)
  unfolding carried_words carried colours_from
  carried_so rows l x zero h s = refl
  carried_so rows l x (suc n) h s =
      let code = colour_by 1 x rows in
      let next : Small (step h code) = t.small h code s (l x) in
      let same = t.word h code s (l x) in
      ap₂ {C = List ℕ} ◌++◌ (ap word_bytes same ∙ bytes_packed (step h code) next)
      (ap (λ (v : ℕ). carried_words words v (colours_from (suc x) n rows)) same ∙ carried_so rows l (suc x) n (step h code) next)

  pixels_so :
      (w planes : ℕ) → 2 ^ planes ≤ limit → (rows : List (List ℕ)) → word_pixels w planes words rows ≡ coloured w planes step rows
  pixels_so w planes l rows = carried_so (take planes rows) number 0 w black small_black
    where
      number : (x : ℕ) → colour_by 1 x (take planes rows) < limit
      number x =
          let a = colour_small x (take planes rows) in
          let b : 2 ^ length (take planes rows) ≤ 2 ^ planes = pow_mono (rw (length-take planes rows) (omega arith)) in
          omega arith

-- ---- the steps

level_small : (planes code : ℕ) → SixOrEight planes → level planes (given planes code) < 256
level_small planes code s =
    ⊎_elim
    (λ (e : planes ≡ 6). rw e (omega arith))
    (λ (e : planes ≡ 8). rw e (omega arith))
    (six_or_eight planes s)

module _ (mode planes : ℕ) (palette : List ℕ) (bytes : (i : ℕ) → get_or palette i 0 < 256) where
  entry_small : (i : ℕ) → Small (entry_at palette i)
  unfolding entry_at
  entry_small i =
      small_pick (ltb (3 * i + 2) (length palette)) _ _
      (record { red = bytes (3 * i); green = bytes (3 * i + 1); blue = bytes (3 * i + 2) }) small_black

  halved_small : (c : Colour) → Small c → Small (halved c)
  halved_small c s = record { red = omega arith; green = omega arith; blue = omega arith }

  number_small : (half : Bool) (code : ℕ) → Small (number_colour half palette code)
  unfolding number_colour
  number_small half code =
      small_pick (both half (not (ltb code 32))) _ _ (halved_small _ (entry_small (code - 32))) (entry_small code)

  palette_steps :
      (words : List ℕ) → IsPalette (is_half_bright mode planes) palette words → holds mode ≡ false →
      Steps 256 (by_palette words) (pixel_colour mode planes palette)
  unfolding IsPalette pixel_colour
  palette_steps words p e =
      record { small = λ h code s l. rw e (number_small (is_half_bright mode planes) code); word = λ h code s l. rw e (p code l) }

  holding_steps :
      (keep set : List ℕ) → IsKeep planes keep → IsSet planes palette set → holds mode ≡ true → SixOrEight planes →
      Steps (2 ^ planes) (by_holding keep set) (pixel_colour mode planes palette)
  unfolding IsKeep IsSet keep_of set_of pixel_colour modified
  holding_steps keep set k p e six =
      record {
        small = λ h code s l.
            rw e
            (small_set h s (level planes (given planes code)) (level_small planes code six) (entry_at palette (given planes code))
            (entry_small (given planes code)) (eqb (chosen planes code) 0) (eqb (chosen planes code) 1) (eqb (chosen planes code) 2));
        word = λ h code s l.
            rw (e, k code l, p code l)
            (held_or_set h s (level planes (given planes code)) (level_small planes code six) (entry_at palette (given planes code))
            (eqb (chosen planes code) 0) (eqb (chosen planes code) 1) (eqb (chosen planes code) 2));
      }

  -- ---- a scan line of any plane rows, and the two makers of pixels as functions

  module _ (words : List ℕ) (p : IsPalette (is_half_bright mode planes) palette words) (e : holds mode ≡ false) (l : planes ≤ 8) (w : ℕ) where
    pub palette_meets :
        (rows : List (List ℕ)) → word_pixels w planes (by_palette words) rows ≡ coloured w planes (pixel_colour mode planes palette) rows
    palette_meets = pixels_so 256 (by_palette words) (pixel_colour mode planes palette) (palette_steps words p e) w planes (pow_mono l)

    pub palette_pixels : word_pixels w planes (by_palette words) ≡ coloured w planes (pixel_colour mode planes palette)
    palette_pixels = fun_ext palette_meets

  module _
      (keep set : List ℕ) (k : IsKeep planes keep) (p : IsSet planes palette set) (e : holds mode ≡ true) (six : SixOrEight planes) (w : ℕ)
    where
      pub holding_meets :
          (rows : List (List ℕ)) → word_pixels w planes (by_holding keep set) rows ≡ coloured w planes (pixel_colour mode planes palette) rows
      holding_meets =
          pixels_so (2 ^ planes) (by_holding keep set) (pixel_colour mode planes palette) (holding_steps keep set k p e six) w planes
          (omega arith)

      pub holding_pixels : word_pixels w planes (by_holding keep set) ≡ coloured w planes (pixel_colour mode planes palette)
      holding_pixels = fun_ext holding_meets
