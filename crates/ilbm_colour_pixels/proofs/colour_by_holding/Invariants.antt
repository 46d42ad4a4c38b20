-- `colour_by_holding` meets its contract. The loop's invariant: the front has the first x pixels, and held is the number of the last of
-- them. The last pixel has no fourth byte.
use Prim.Native.Nat.{◌*◌}
use lib.ListN.{drop}
use Rattle.ilbm_colour_words.specs.Words.{by_holding, carried_words}
use Rattle.ilbm_colour_pixels.proofs.Front.{Front}
use Rattle.ilbm_colour_pixels.proofs.colour_by_holding.Given as goal

abbrev pub invariant-loop-x : goal.invariant-loop-x
invariant-loop-x l =
    Front (by_holding l.keep l.set) l.w (carried_words (by_holding l.keep l.set) 0 (drop (2 * l.w) l.initial.row)) l.x l.held l.row
