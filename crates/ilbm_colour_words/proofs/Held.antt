-- The bits of a colour as one number: a part that is kept and a part that is set are the colour with that part changed.
use Prim.Native.Nat.{ℕ, ◌+◌, ◌*◌, ◌/◌, ◌%◌, ◌<◌}
use mathlib.Core.Path.{◌≡◌, ap, ◌∙◌}
use mathlib.Core.Bool.{Bool, true, false}
use lib.Bits.{bit_and, bit_or, and_zero_r, or_zero_l, or_zero_r, and_mask, and_high, and_block, or_block, or_shifted, or_shifted_r}
use native.Mathlib.Omega.{arith}
use Rattle.iff_name.specs.Name.{pick}
use Rattle.ilbm_spec.specs.declared.Colour.{Colour}
use Rattle.ilbm_spec.specs.Colours.{colour, black, colour_bytes}
use Rattle.ilbm_colour_words.specs.Words.{packed, word_bytes}

-- the parts of a colour are bytes
pub record Small (c : Colour) : Type 0 where
  pub red : c.red < 256
  pub green : c.green < 256
  pub blue : c.blue < 256

pub small_black : Small black
small_black = record { red = omega arith; green = omega arith; blue = omega arith }

pub small_pick : (b : Bool) (c d : Colour) → Small c → Small d → Small (pick b c d)
small_pick true c d s t = s
small_pick false c d s t = t

pub bytes_packed : (c : Colour) → Small c → word_bytes (packed c) ≡ colour_bytes c
bytes_packed c s =
    let b : packed c / 65536 % 256 ≡ c.blue = omega arith in
    let g : packed c / 256 % 256 ≡ c.green = omega arith in
    let r : packed c % 256 ≡ c.red = omega arith in
    rw (r, g, b)

module _ (h : Colour) (s : Small h) (v : ℕ) (l : v < 256) where
  blue_set : bit_or (bit_and (packed h) 0x00FFFF) (v * 65536) ≡ packed (colour h.red h.green v)
  blue_set =
      let low : packed h % 65536 ≡ h.red + h.green * 256 = omega arith in
      rw (and_mask (packed h) 16, low, or_shifted_r v 16 (h.red + h.green * 256) (omega arith)) (omega arith)

  red_set : bit_or (bit_and (packed h) 0xFFFF00) v ≡ packed (colour v h.green h.blue)
  red_set =
      let high : packed h / 256 % 65536 ≡ h.green + h.blue * 256 = omega arith in
      rw (and_high (packed h) 16 8, high, or_shifted (h.green + h.blue * 256) 8 v l) (omega arith)

  green_kept : bit_and (packed h) 0xFF00FF ≡ h.blue * 65536 + h.red
  green_kept =
      let split : packed h ≡ h.blue * 65536 + (h.red + h.green * 256) = omega arith in
      let blue : h.blue % 256 ≡ h.blue = omega arith in
      let red : (h.red + h.green * 256) % 256 ≡ h.red = omega arith in
      rw (
        split,
        and_block 16 h.blue 255 (h.red + h.green * 256) 255 (omega arith) (omega arith),
        and_mask h.blue 8,
        blue,
        and_mask (h.red + h.green * 256) 8,
        red,
      )

  green_set : bit_or (bit_and (packed h) 0xFF00FF) (v * 256) ≡ packed (colour h.red v h.blue)
  green_set =
      let none : v * 256 ≡ 0 * 65536 + v * 256 = omega arith in
      rw green_kept
      (ap (bit_or (h.blue * 65536 + h.red)) none ∙ or_block 16 h.blue 0 h.red (v * 256) (omega arith) (omega arith)
      ∙ rw (or_zero_r h.blue, or_shifted_r v 8 h.red s.red) (omega arith))

  -- the colour so set is small too
  pub small_set :
      (e : Colour) → Small e → (a b c : Bool) →
      Small (pick a e (pick b (colour h.red h.green v) (pick c (colour v h.green h.blue) (colour h.red v h.blue))))
  small_set e t true b c = t
  small_set e t false true c = record { red = s.red; green = s.green; blue = l }
  small_set e t false false true = record { red = l; green = s.green; blue = s.blue }
  small_set e t false false false = record { red = s.red; green = l; blue = s.blue }

  -- by the two high bits of a colour number: e is the entry, and v the part that is set
  pub held_or_set :
      (e : Colour) (a b c : Bool) →
      bit_or (bit_and (packed h) (pick a 0 (pick b 0x00FFFF (pick c 0xFFFF00 0xFF00FF))))
      (pick a (packed e) (pick b (v * 65536) (pick c v (v * 256)))) ≡
      packed
      (pick a e
      (pick b (colour h.red h.green v) (pick c (colour v h.green h.blue) (colour h.red v h.blue))))
  held_or_set e true b c = rw (and_zero_r (packed h)) (or_zero_l (packed e))
  held_or_set e false true c = blue_set
  held_or_set e false false true = red_set
  held_or_set e false false false = green_set
