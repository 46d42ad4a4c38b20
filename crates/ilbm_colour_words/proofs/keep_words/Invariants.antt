-- The loop's invariant: the first i entries hold what their numbers hold.
use mathlib.Core.Path.{◌≡◌}
use lib.ListN.{length}
use Rattle.ilbm_colour_words.specs.Words.{keep_of}
use Rattle.ilbm_colour_words.proofs.Filled.{Filled}
use Rattle.ilbm_colour_words.proofs.keep_words.Given as goal

abbrev pub invariant-loop-i : goal.invariant-loop-i
invariant-loop-i l = record { len : length l.keep ≡ 256; filled : Filled (keep_of l.planes) l.i l.keep }
