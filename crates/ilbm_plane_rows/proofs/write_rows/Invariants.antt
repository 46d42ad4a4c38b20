-- `write_rows` meets its contract. The loop's invariant: the first k rows stand in the buffer, and those from q on are the others. What is
-- written behind row k stands where the rows after it come.
use Rattle.ilbm_plane_rows.proofs.Writing.{Written}
use Rattle.ilbm_plane_rows.proofs.write_rows.Given as goal

abbrev pub invariant-loop-k : goal.invariant-loop-k
invariant-loop-k l = Written l.compression l.body l.n l.rows l.at l.k l.q l.buffer
