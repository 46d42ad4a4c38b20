-- `plain_at` meets its contract. The loop's invariant: n bytes, and those that follow before three equal ones, are all; the measure is what
-- is left of the places with two bytes after them.
use native.Mathlib.Omega.{arith}
use Rattle.byterun_pieces.proofs.Scan.{plain_found, plain_next, plain_apart, plain_stop, plain_end, plain_end_one}
use Rattle.byterun_pieces.proofs.plain_at.Goals as goal

pub returns-then-three_here : goal.returns-then-three_here
returns-then-three_here c =
    plain_found _ _ _ _ c.loop-n.invariant.2 _ c.starts-last.ensures _ c.three_here.ensures c.loop-n-test.true c.if-three_here.true

pub loop-n-preserved-then-two_here : goal.loop-n-preserved-then-two_here
loop-n-preserved-then-two_here c =
    (omega arith, omega arith, plain_next _ _ _ _ c.loop-n.invariant.2 _ c.starts-last.ensures _ c.three_here.ensures c.loop-n-test.true c.if-three_here.false)

pub loop-n-preserved : goal.loop-n-preserved
loop-n-preserved c =
    (omega arith, omega arith, plain_apart _ _ _ _ c.loop-n.invariant.2 _ c.starts-last.ensures _ c.two_here.ensures c.loop-n-test.true c.if-two_here.false)

pub returns-then-three_here-2 : goal.returns-then-three_here-2
returns-then-three_here-2 c =
    plain_stop _ _ _ _ c.loop-n.invariant.2 _ c.starts-last.ensures _ c.three_here-then-n-last.ensures c.if-n-last.true c.if-three_here-2.true

pub returns-then-n-last : goal.returns-then-n-last
returns-then-n-last c =
    plain_end_one _ _ _ _ c.loop-n.invariant.2 _ c.starts-last.ensures _ c.most.ensures _ c.three_here-then-n-last.ensures c.if-n-last.true c.loop-n-test.false c.if-three_here-2.false

pub returns : goal.returns
returns c =
    let l = c.loop-n in
    plain_end _ _ _ _ l.invariant.2 _ c.starts-last.ensures _ c.most-2.ensures c.if-n-last.false l.invariant.0 l.invariant.1
