-- What is told of rows whose pixels are made by the tables is told of them in colours, since the tables make the colours of the definition;
-- and a mode that is shown and holds has 6 planes or 8.
use Prim.Native.Nat.{ℕ, ◌<◌, ◌≤◌}
use mathlib.Core.Path.{◌≡◌, refl, sym, ◌∙◌}
use mathlib.Core.Bool.{Bool, true, false, not}
use mathlib.Core.List.{List}
use lib.Dec.{eqb}
use lib.ListN.{get_or}
use native.Mathlib.Omega.{arith}
use Rattle.iff_name.specs.Name.{both, either}
use Rattle.ilbm_spec.specs.Rows.{Pixels, line_with, lines_with, line_answer, bytes_after}
use Rattle.ilbm_spec.specs.Colours.{holds, is_half_bright, pixel_colour, coloured, wrong_planes}
use Rattle.ilbm_colour_words.specs.Words.{by_palette, by_holding, word_pixels, IsPalette, SixOrEight, IsKeep, IsSet}
use Rattle.ilbm_colour_words.proofs.Meet.{palette_pixels, holding_pixels}
use Rattle.iff_refusal.specs.Numbers.{Answer}

pub held_planes :
    (mode planes : ℕ) (hold : Bool) → hold ≡ holds mode → hold ≡ true → wrong_planes mode planes ≡ false → SixOrEight planes
held_planes mode planes hold i j e = go (either (eqb planes 6) (eqb planes 8)) (rw (← i, j) at e)
  where
    go : (b : Bool) → both true (not b) ≡ false → b ≡ true
    go true e = refl
    go false e = absurd (let z : ◌≡◌ {A = ℕ} 0 1 = cc in omega arith)

-- by either way the tables make the colours of the definition
module _
    (mode planes : ℕ) (palette : List ℕ) (bytes : (i : ℕ) → get_or palette i 0 < 256) (hold : Bool) (is : hold ≡ holds mode) (w : ℕ)
  where
    pub same_held :
        (keep set : List ℕ) → IsKeep planes keep → IsSet planes palette set → hold ≡ true → wrong_planes mode planes ≡ false →
        word_pixels w planes (by_holding keep set) ≡ coloured w planes (pixel_colour mode planes palette)
    same_held keep set k p e shown =
        holding_pixels mode planes palette bytes keep set k p (sym is ∙ e) (held_planes mode planes hold is e shown) w

    pub same_palette :
        (half : Bool) (words : List ℕ) → half ≡ is_half_bright mode planes → IsPalette half palette words → hold ≡ false → planes ≤ 8 →
        word_pixels w planes (by_palette words) ≡ coloured w planes (pixel_colour mode planes palette)
    same_palette half words i p e l = palette_pixels mode planes palette bytes words (rw i at p) (sym is ∙ e) l w

module _ (words colours : Pixels) (same : words ≡ colours) (compression n rows : ℕ) (body : List ℕ) where
  pub same_line :
      (at : ℕ) (r : Answer ℕ) (old new : List ℕ) →
      (r ≡ line_answer (line_with words compression n rows body at)) × (new ≡ bytes_after (line_with words compression n rows body at) old) →
      (r ≡ line_answer (line_with colours compression n rows body at)) × (new ≡ bytes_after (line_with colours compression n rows body at) old)
  same_line at r old new t = rw same at t

  pub same_lines :
      (h : ℕ) (r : Answer ℕ) (old new : List ℕ) →
      (r ≡ line_answer (lines_with words compression n rows body h 0)) ×
      (new ≡ bytes_after (lines_with words compression n rows body h 0) old) →
      (r ≡ line_answer (lines_with colours compression n rows body h 0)) ×
      (new ≡ bytes_after (lines_with colours compression n rows body h 0) old)
  same_lines h r old new t = rw same at t
