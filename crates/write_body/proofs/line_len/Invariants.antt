-- The loop's invariant: what is counted and the rows to come make the line.
use Prim.Native.Nat.{◌≤◌, ◌*◌}
use Rattle.write_body.specs.Body.{line_rows}
use Rattle.write_body.proofs.Lines.{rows_from}
use Rattle.write_body.proofs.Counting.{Counting}
use Rattle.write_body.proofs.line_len.Given as goal

abbrev pub invariant-loop-k : goal.invariant-loop-k
invariant-loop-k l =
    record {
      short : l.total ≤ l.k * 8256;
      counted : Counting (line_rows l.compression l.n l.line 1 l.planes) l.total (rows_from l.compression l.n l.line l.planes l.k);
    }
