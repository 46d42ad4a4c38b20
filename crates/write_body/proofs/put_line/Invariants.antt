-- The loop's invariant: the rows passed stand at their place, one behind the other.
use Rattle.write_body.specs.Body.{line_rows}
use Rattle.write_plane_row.proofs.Buffers.{Putting}
use Rattle.write_body.proofs.Lines.{rows_from}
use Rattle.write_body.proofs.put_line.Given as goal

abbrev pub invariant-loop-k : goal.invariant-loop-k
invariant-loop-k l = Putting (line_rows l.compression l.n l.line 1 l.planes) l.initial.out l.at l.out l.q (rows_from l.compression l.n l.line l.planes l.k)
