-- A shape of another length is wrong; one of the right length is wrong by its bytes.
use Rattle.write_picture.proofs.Refusals.{wrong_length, wrong_bits}
use borrow.Author.Rules.{rules}
use Rattle.write_picture.proofs.wrong_shape.Goals as goal

pub returns-then-shape-shape_width : goal.returns-then-shape-shape_width
returns-then-shape-shape_width c = search (wrong_length, rules)

pub returns : goal.returns
returns c = search (wrong_bits, rules)
