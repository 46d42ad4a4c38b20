-- `put_number` meets its contract: the digits are put behind the label, and a number of 64 bits has at most 20.
use native.Mathlib.Omega.{arith}
use lib.ListN.{take}
use Rattle.print_line.specs.Words.{label_of}
use Rattle.print_line.proofs.Texts.{number_put}
use Rattle.print_line.proofs.put_number.Goals as goal

pub returns-clause-puts : goal.returns-clause-puts
returns-clause-puts c =
    let g = c.args in
    let p = c.put_word-a in
    let q = c.put_bytes in
    let ds = take c.decimal-k.result c.decimal-k.new.out in number_put g.out.now p.new.out q.new.out (label_of g.label) ds g.at p.result q.result g.n c.decimal-k.result (omega arith)
    c.decimal-k.ensures.len c.decimal-k.ensures.digits p.ensures q.ensures
