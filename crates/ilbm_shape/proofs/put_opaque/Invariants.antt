-- `put_opaque` meets its contract. The loop's invariant: the first x pixels have their shape.
use Rattle.ilbm_shape.proofs.Shapes.{Told}
use Rattle.ilbm_shape.proofs.put_opaque.Given as goal

abbrev pub invariant-loop-x : goal.invariant-loop-x
invariant-loop-x l = Told l.transparent l.row l.x l.shape
