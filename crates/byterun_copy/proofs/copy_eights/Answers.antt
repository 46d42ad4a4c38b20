-- Eight bytes more of the run. The loop ends behind the last eight: there k + 8 is as many as there are in whole eights.
use Prim.Native.Nat.{◌+◌, ◌-◌, ◌%◌}
use mathlib.Core.Path.{◌≡◌}
use native.Mathlib.Omega.{arith}
use borrow.Author.Rules.{rules}
use Rattle.byterun_copy.proofs.Runs.{eights_more}
use Rattle.byterun_copy.proofs.copy_eights.Goals as goal

pub loop-k-preserved : goal.loop-k-preserved
loop-k-preserved c = search (eights_more, rules)

pub returns-2 : goal.returns-2
returns-2 c =
    let last : c.loop-k.k + 8 ≡ c.args.count - c.args.count % 8 = omega arith in
    rw (← last) (omega arith, search (eights_more, rules))
