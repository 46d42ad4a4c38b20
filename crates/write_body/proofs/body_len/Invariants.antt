-- The loop's invariant: what is counted and the lines to come make BODY.
use Prim.Native.Nat.{◌≤◌, ◌*◌}
use Rattle.write_body.specs.Body.{body_bytes}
use Rattle.write_body.proofs.Body.{lines_from}
use Rattle.write_body.proofs.Counting.{Counting}
use Rattle.write_body.proofs.body_len.Given as goal

abbrev pub invariant-loop-y : goal.invariant-loop-y
invariant-loop-y l =
    record {
      short : l.total ≤ l.y * 132096;
      counted : Counting (body_bytes l.b l.frame l.shape) l.total (lines_from l.b l.frame l.shape l.y);
    }
