-- `put_refusal` meets its contract: its two lines are put at the buffer's start.
use native.Mathlib.Omega.{arith}
use Rattle.print_line.specs.Text.{refusal_text}
use Rattle.print_line.specs.Words.{letters_up_to}
use Rattle.print_lines.proofs.LineLaws.{from_start}
use Rattle.print_lines.proofs.put_refusal.Goals as goal

pub put_two-requires : goal.put_two-requires
unfolding letters_up_to
put_two-requires c = omega arith

pub returns-clause-begins : goal.returns-clause-begins
unfolding letters_up_to
returns-clause-begins c =
    let g = c.args in
    let p = c.put_two in
    from_start g.out.now p.new.out (refusal_text g.answer g.place) p.result p.ensures.puts

pub returns-clause-upper_bound : goal.returns-clause-upper_bound
unfolding letters_up_to
returns-clause-upper_bound c =
    let g = c.args in
    let p = c.put_two in
    p.ensures.upper_bound
