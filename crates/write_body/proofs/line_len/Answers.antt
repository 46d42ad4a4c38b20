-- The loop's invariant: what is counted and the rows to come make the line.
use Prim.Native.Nat.{◌≤◌}
use native.Mathlib.Omega.{arith}
use Rattle.write_body.proofs.Lines.{rows_step, rows_end, row_short}
use Rattle.write_body.proofs.Counting.{counting_more, counting_all}
use Rattle.write_body.proofs.line_len.Goals as goal

short : (c : goal.After-row_len-total) → c.row_len-total.result ≤ 8256
short c =
    let a = c.args in
    row_short a.compression _ a.line.now c.loop-k.k _ c.row_len-total.ensures c.requires.0

pub overflow_add-total : goal.overflow_add-total
overflow_add-total c = record { fits = omega (arith, short c) }

pub loop-k-preserved : goal.loop-k-preserved
loop-k-preserved c =
    record {
      short = omega (arith, short c);
      counted = counting_more _ _ _ c.loop-k.invariant.counted _ _ (rows_step _ _ _ _ _ c.loop-k-test.true) _ c.row_len-total.ensures;
    }

pub returns-clause-is : goal.returns-clause-is
returns-clause-is c = counting_all _ _ _ c.loop-k.invariant.counted (rows_end _ _ _ _ _ c.loop-k-test.false)
