-- `put_kind` meets its contract: the letters of the kind's word are its text.
use Prim.Native.Nat.{◌+◌}
use mathlib.Core.Path.{◌≡◌}
use native.Mathlib.Omega.{arith}
use Rattle.print_line.specs.Words.{letters_up_to}
use Rattle.print_line.proofs.Texts.{few_letters, kind_put}
use Rattle.print_line.proofs.put_kind.Goals as goal

pub put_word-a-requires : goal.put_word-a-requires
unfolding letters_up_to
put_word-a-requires c = omega arith

pub put_word-requires : goal.put_word-requires
unfolding letters_up_to
put_word-requires c =
    let g = c.args in
    let p = c.put_word-a in
    let a : p.result ≡ g.at + 5 = p.ensures.0 in
    omega (arith, few_letters c.kind_word.result g.kind c.kind_word.ensures)

pub returns-clause-puts : goal.returns-clause-puts
unfolding letters_up_to
returns-clause-puts c =
    let g = c.args in
    let p = c.put_word-a in
    let w = c.kind_word in
    let q = c.put_word in
    (kind_put w.result g.kind w.ensures g.out.now p.new.out q.new.out g.at p.result q.result p.ensures q.ensures).0

pub returns-clause-upper_bound : goal.returns-clause-upper_bound
unfolding letters_up_to
returns-clause-upper_bound c =
    let g = c.args in
    let p = c.put_word-a in
    let w = c.kind_word in
    let q = c.put_word in
    (kind_put w.result g.kind w.ensures g.out.now p.new.out q.new.out g.at p.result q.result p.ensures q.ensures).1
