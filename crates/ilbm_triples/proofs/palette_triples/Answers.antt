-- The loop's invariant: the first i triples are the colours of their numbers.
use borrow.Author.Rules.{rules}
use Rattle.ilbm_triples.proofs.Made.{made_none, made_more}
use Rattle.ilbm_triples.proofs.palette_triples.Goals as goal

pub loop-i-init : goal.loop-i-init
loop-i-init c = record { len = search rules; made = made_none _ _ }

pub loop-i-preserved : goal.loop-i-preserved
loop-i-preserved c =
    record { len = search rules; made = made_more _ _ _ c.loop-i.invariant.made _ (search rules) c.number_colour-c.ensures }
