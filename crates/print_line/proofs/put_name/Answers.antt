-- `put_name` meets its contract: the four bytes that std gives are the name's.
use mathlib.Core.Path.{◌∙◌}
use native.Mathlib.Omega.{arith}
use Rattle.iff_name.proofs.Bytes.{four_bytes}
use Rattle.print_line.specs.Words.{letters_up_to}
use Rattle.print_line.proofs.Texts.{name_put}
use Rattle.print_line.proofs.put_name.Goals as goal

pub put_word-a-requires : goal.put_word-a-requires
unfolding letters_up_to
put_word-a-requires c = omega arith

pub put_bytes-requires : goal.put_bytes-requires
unfolding letters_up_to
put_bytes-requires c = omega (arith, c.put_word-a.ensures.0)

pub returns-clause-puts : goal.returns-clause-puts
unfolding letters_up_to
returns-clause-puts c =
    let g = c.args in
    let p = c.put_word-a in
    let q = c.put_bytes in
    let is = c.to_be_bytes.ensures ∙ four_bytes g.name.code (omega arith) in
    (name_put g.out.now p.new.out q.new.out _ g.at p.result q.result g.name.code is p.ensures q.ensures).0

pub returns-clause-upper_bound : goal.returns-clause-upper_bound
unfolding letters_up_to
returns-clause-upper_bound c =
    let g = c.args in
    let p = c.put_word-a in
    let q = c.put_bytes in
    let is = c.to_be_bytes.ensures ∙ four_bytes g.name.code (omega arith) in
    (name_put g.out.now p.new.out q.new.out _ g.at p.result q.result g.name.code is p.ensures q.ensures).1
