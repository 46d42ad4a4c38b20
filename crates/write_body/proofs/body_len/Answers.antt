-- The loop's invariant: what is counted and the lines to come make BODY.
use native.Mathlib.Omega.{arith}
use Rattle.write_body.proofs.Body.{lines_step, lines_end}
use Rattle.write_body.proofs.Counting.{counting_more, counting_all}
use Rattle.write_body.proofs.body_len.Goals as goal

pub loop-y-preserved : goal.loop-y-preserved
loop-y-preserved c =
    let i = c.loop-y.invariant in
    let w = c.shaped_line_len-total.ensures in
    let step = lines_step _ _ _ _ _ c.shape_width-shape_w.ensures.is c.loop-y-test.true in
    record { short = omega (arith, w.short); counted = counting_more _ _ _ i.counted _ _ step _ w.is }

pub returns-clause-is : goal.returns-clause-is
returns-clause-is c = counting_all _ _ _ c.loop-y.invariant.counted (lines_end _ _ _ _ c.loop-y-test.false)
