-- `put_head` meets its contract: the lines of the numbers are put behind those of the answer.
use Prim.Native.Nat.{◌+◌, ◌≤◌}
use native.Mathlib.Omega.{arith}
use Rattle.print_line.specs.Words.{letters_up_to}
use Rattle.print_lines.proofs.LineLaws.{head_put}
use Rattle.print_lines.proofs.put_head.Goals as goal

pub put_two-b-requires : goal.put_two-b-requires
unfolding letters_up_to
put_two-b-requires c = omega arith

pub put_two-requires : goal.put_two-requires
unfolding letters_up_to
put_two-requires c =
    let p = c.put_refusal-a in
    let more : c.put_two-b.result ≤ p.result + 7 + 4 + 42 = c.put_two-b.ensures.upper_bound in
    omega (arith, p.ensures.upper_bound)

pub returns-clause-begins : goal.returns-clause-begins
unfolding letters_up_to
returns-clause-begins c =
    let g = c.args in
    let p = c.put_refusal-a in
    let q = c.put_two-b in
    let s = c.put_two in
    let last : s.result ≤ q.result + 9 + 9 + 42 = s.ensures.upper_bound in head_put p.new.out q.new.out s.new.out p.result q.result s.result g.chunks g.end g.trailing g.pictures
    p.ensures.begins q.ensures.puts s.ensures.puts

pub returns-clause-upper_bound : goal.returns-clause-upper_bound
unfolding letters_up_to
returns-clause-upper_bound c =
    let g = c.args in
    let p = c.put_refusal-a in
    let q = c.put_two-b in
    let s = c.put_two in
    let last : s.result ≤ q.result + 9 + 9 + 42 = s.ensures.upper_bound in
    let more : q.result ≤ p.result + 7 + 4 + 42 = q.ensures.upper_bound in
    omega (arith, p.ensures.upper_bound)
