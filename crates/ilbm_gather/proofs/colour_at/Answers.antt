-- `colour_at` meets its contract. The loop's invariant: colour is the colour number of the planes from k on.
use borrow.Author.Rules.{rules}
use Rattle.ilbm_gather.proofs.Colours.{colouring, coloured_more}
use Rattle.ilbm_gather.proofs.colour_at.Goals as goal

pub loop-k-init : goal.loop-k-init
loop-k-init c = search (colouring, rules)

pub loop-k-preserved : goal.loop-k-preserved
loop-k-preserved c =
    let l = c.loop-k in
    coloured_more _ _ _ _ c.requires.0 _ _ l.invariant _ c.loop-k-test.true l.auto.k c.requires.2 c.wide.ensures.0
