-- One step more of the run; and the run's end, which the last step may have passed.
use Prim.Native.Nat.{◌+◌}
use native.Mathlib.Omega.{arith}
use borrow.Author.Rules.{rules}
use Rattle.byterun_overshoot.proofs.Overshoot.{copy_more, copy_ends}
use Rattle.byterun_overshoot.proofs.copy_over.Goals as goal

pub loop-k-preserved : goal.loop-k-preserved
loop-k-preserved c =
    copy_more _ _ _ _ _ _ (omega arith) _ _ (omega arith) c.loop-k.invariant c.copy_step-in-loop-k.ensures

pub returns-else-dst-at-lt32 : goal.returns-else-dst-at-lt32
returns-else-dst-at-lt32 c = search (copy_ends, rules)

pub returns-else-dst-at-lt32-2 : goal.returns-else-dst-at-lt32-2
returns-else-dst-at-lt32-2 c =
    let k = c.loop-k.k in
    let src = c.args.src.now in
    let from = c.args.from in
    copy_ends _ _ _ (k + 32) (omega arith) (omega arith) src from _
    (copy_more _ _ _ _ _ _ (omega arith) src from (omega arith) c.loop-k.invariant c.copy_step-in-loop-k.ensures)
