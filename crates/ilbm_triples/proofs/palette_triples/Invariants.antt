-- The loop's invariant: the first i triples are the colours of their numbers.
use mathlib.Core.Path.{◌≡◌}
use lib.ListN.{length}
use Rattle.ilbm_spec.specs.Colours.{number_colour}
use Rattle.ilbm_triples.proofs.Made.{Made}
use Rattle.ilbm_triples.proofs.palette_triples.Given as goal

abbrev pub invariant-loop-i : goal.invariant-loop-i
invariant-loop-i l = record { len : length l.triples ≡ 64; made : Made (number_colour l.half l.palette) l.i l.triples }
