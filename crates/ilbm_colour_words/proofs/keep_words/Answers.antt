-- The loop's invariant: the first i entries hold what their numbers hold.
use borrow.Author.Rules.{rules}
use Rattle.ilbm_colour_words.proofs.Filled.{filled_none, keep_filled}
use Rattle.ilbm_colour_words.proofs.keep_words.Goals as goal

pub loop-i-init : goal.loop-i-init
loop-i-init c = search (filled_none, rules)

pub returns : goal.returns
returns c = keep_filled c.args.planes _ _ _ c.code_count-count.ensures.0 c.loop-i-test.false c.loop-i.invariant.filled
