-- `put_shape` meets its contract: by the masking.
use borrow.Author.Rules.{rules}
use Rattle.ilbm_shape.proofs.Shapes.{shapes}
use Rattle.ilbm_shape.proofs.put_shape.Goals as goal

pub returns-then-masking-eq1 : goal.returns-then-masking-eq1
returns-then-masking-eq1 c = search (shapes, rules)

pub returns-then-masking-eq2 : goal.returns-then-masking-eq2
returns-then-masking-eq2 c = search (shapes, rules)

pub returns : goal.returns
returns c = search (shapes, rules)
