-- The loop's invariant: the first i entries set what their numbers set.
use borrow.Author.Rules.{rules}
use Rattle.ilbm_colour_words.proofs.Filled.{filled_none, set_filled}
use Rattle.ilbm_colour_words.proofs.set_words.Goals as goal

pub loop-i-init : goal.loop-i-init
loop-i-init c = search (filled_none, rules)

pub returns : goal.returns
returns c =
    let s = c.args in
    set_filled s.planes _ _ _ c.code_count-count.ensures.0 c.loop-i-test.false s.palette.now c.loop-i.invariant.filled
