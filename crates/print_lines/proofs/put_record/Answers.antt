-- `put_record` meets its contract: each line is put behind those before it.
use Prim.Native.Nat.{◌+◌, ◌≤◌}
use native.Mathlib.Omega.{arith}
use Rattle.print_line.specs.Words.{letters_up_to}
use Rattle.print_lines.proofs.LineLaws.{record_put}
use Rattle.print_lines.proofs.put_record.Goals as goal

pub put_two-a-requires : goal.put_two-a-requires
unfolding letters_up_to
put_two-a-requires c = omega arith

pub put_kind-b-requires : goal.put_kind-b-requires
unfolding letters_up_to
put_kind-b-requires c = let first : c.put_two-a.result ≤ 54 = c.put_two-a.ensures.upper_bound in omega arith

pub put_name-c-requires : goal.put_name-c-requires
unfolding letters_up_to
put_name-c-requires c = let first : c.put_two-a.result ≤ 54 = c.put_two-a.ensures.upper_bound in omega arith

pub put_two-requires : goal.put_two-requires
unfolding letters_up_to
put_two-requires c = let first : c.put_two-a.result ≤ 54 = c.put_two-a.ensures.upper_bound in omega arith

pub returns-clause-begins : goal.returns-clause-begins
unfolding letters_up_to
returns-clause-begins c =
    let g = c.args in
    let p = c.put_two-a in
    let q = c.put_kind-b in
    let s = c.put_name-c in
    let t = c.put_two in
    let last : t.result ≤ s.result + 3 + 5 + 42 = t.ensures.upper_bound in record_put g.out.now p.new.out q.new.out s.new.out t.new.out p.result q.result s.result t.result
    g.number g.level g.kind g.name.code g.place g.size p.ensures.puts q.ensures.puts s.ensures.puts t.ensures.puts

pub returns-clause-upper_bound : goal.returns-clause-upper_bound
unfolding letters_up_to
returns-clause-upper_bound c =
    let g = c.args in
    let p = c.put_two-a in
    let q = c.put_kind-b in
    let s = c.put_name-c in
    let t = c.put_two in
    let first : p.result ≤ 54 = p.ensures.upper_bound in
    let last : t.result ≤ s.result + 3 + 5 + 42 = t.ensures.upper_bound in
    omega (arith, q.ensures.upper_bound, s.ensures.upper_bound)
