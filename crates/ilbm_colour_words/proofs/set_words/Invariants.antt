-- The loop's invariant: the first i entries set what their numbers set.
use mathlib.Core.Path.{◌≡◌}
use lib.ListN.{length}
use Rattle.ilbm_colour_words.specs.Words.{set_of}
use Rattle.ilbm_colour_words.proofs.Filled.{Filled}
use Rattle.ilbm_colour_words.proofs.set_words.Given as goal

abbrev pub invariant-loop-i : goal.invariant-loop-i
invariant-loop-i l = record { len : length l.set ≡ 256; filled : Filled (set_of l.planes l.palette) l.i l.set }
