-- `put_opaque` meets its contract. The loop's invariant: the first x pixels have their shape.
use borrow.Author.Rules.{rules}
use Rattle.ilbm_shape.proofs.Shapes.{shapes}
use Rattle.ilbm_shape.proofs.put_opaque.Goals as goal

pub loop-x-init : goal.loop-x-init
loop-x-init c = search (shapes, rules)

pub loop-x-preserved : goal.loop-x-preserved
loop-x-preserved c = search (shapes, rules)
