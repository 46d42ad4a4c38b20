-- The two ways in which a pixel's number is made of the one to its left and its colour number.
use Rattle.std.specs.Prelude.{Bool, List, ℕ}
use Rattle.iff_name.specs.Name.{pick}
use Rattle.ilbm_colour_words.specs.Words.{WordStep, by_palette, by_holding}

-- by hold-and-modify, or through the palette
abbrev pub step_by : Bool → List ℕ → List ℕ → WordStep
step_by hold keep set = pick hold (by_holding keep set) (by_palette set)
