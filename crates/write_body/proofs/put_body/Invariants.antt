-- The loop's invariant: the lines passed stand at their place, one behind the other.
use Rattle.write_body.specs.Body.{body_bytes}
use Rattle.write_plane_row.proofs.Buffers.{Putting}
use Rattle.write_body.proofs.Body.{lines_from}
use Rattle.write_body.proofs.put_body.Given as goal

abbrev pub invariant-loop-y : goal.invariant-loop-y
invariant-loop-y l = Putting (body_bytes l.b l.frame l.shape) l.initial.out l.place l.out l.q (lines_from l.b l.frame l.shape l.y)
