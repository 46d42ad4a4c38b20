-- The loop's invariant: the first i entries are the colours of their numbers, the others 0.
use mathlib.Core.Path.{◌≡◌}
use lib.ListN.{length}
use Rattle.ilbm_spec.specs.Colours.{number_colour}
use Rattle.ilbm_colour_words.specs.Words.{packed}
use Rattle.ilbm_colour_words.proofs.Filled.{Filled}
use Rattle.ilbm_colour_words.proofs.palette_words.Given as goal

abbrev pub invariant-loop-i : goal.invariant-loop-i
invariant-loop-i l =
    record { len : length l.words ≡ 256; filled : Filled (λ code. packed (number_colour l.half l.palette code)) l.i l.words }
