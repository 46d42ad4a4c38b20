-- `colour_by_palette` meets its contract. The loop's invariant: the front has the first x pixels. The last pixel has no fourth byte.
use Prim.Native.Nat.{ℕ, ◌*◌}
use lib.ListN.{drop}
use Rattle.ilbm_colour_words.specs.Words.{by_palette, carried_words}
use Rattle.ilbm_colour_pixels.proofs.Front.{Front}
use Rattle.ilbm_colour_pixels.proofs.colour_by_palette.Given as goal

abbrev pub invariant-loop-x : goal.invariant-loop-x
invariant-loop-x l =
    (held : ℕ) × Front (by_palette l.words) l.w (carried_words (by_palette l.words) 0 (drop (2 * l.w) l.initial.row)) l.x held l.row
