-- The loop's invariant: the first i entries are the colours of their numbers, the others 0.
use borrow.Author.Rules.{rules}
use Rattle.ilbm_colour_words.proofs.Filled.{filled_none, palette_filled}
use Rattle.ilbm_colour_words.proofs.palette_words.Goals as goal

pub loop-i-init : goal.loop-i-init
loop-i-init c = search (filled_none, rules)

pub returns : goal.returns
returns c =
    let s = c.args in
    let l = c.loop-i in
    palette_filled s.half s.palette.now _ _ _ l.invariant.filled c.number_count-count.ensures l.auto.i-end c.loop-i-test.false
