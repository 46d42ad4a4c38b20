-- One step more of the repeat; and the repeat's end, which the last step may have passed.
use Prim.Native.Nat.{◌+◌}
use native.Mathlib.Omega.{arith}
use borrow.Author.Rules.{rules}
use Rattle.byterun_overshoot.proofs.Overshoot.{fill_more, fill_ends}
use Rattle.byterun_overshoot.proofs.fill_over.Goals as goal

pub loop-k-preserved : goal.loop-k-preserved
loop-k-preserved c = fill_more _ _ _ _ _ _ (omega arith) _ c.loop-k.invariant c.fill_run-in-loop-k.ensures

pub returns-else-dst-at-lt32 : goal.returns-else-dst-at-lt32
returns-else-dst-at-lt32 c = search (fill_ends, rules)

pub returns-else-dst-at-lt32-2 : goal.returns-else-dst-at-lt32-2
returns-else-dst-at-lt32-2 c =
    let k = c.loop-k.k in
    let all = fill_more _ _ _ _ _ _ (omega arith) _ c.loop-k.invariant c.fill_run-in-loop-k.ensures in
    fill_ends _ _ _ (k + 32) (omega arith) (omega arith) _ _ all
