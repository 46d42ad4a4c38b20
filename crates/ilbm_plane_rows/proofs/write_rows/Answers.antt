-- `write_rows` meets its contract. The loop's invariant: the first k rows stand in the buffer, and those from q on are the others. What is
-- written behind row k stands where the rows after it come.
use native.Mathlib.Omega.{arith}
use Rattle.ilbm_plane_rows.proofs.Writing.{written_start, written_full, written_put, written_end}
use Rattle.ilbm_plane_rows.proofs.write_rows.Goals as goal

pub loop-k-init : goal.loop-k-init
loop-k-init c = written_start _ _ _ _ _ _ c.requires.read

pub unpack_into-q-requires-clause-full : goal.unpack_into-q-requires-clause-full
unpack_into-q-requires-clause-full c = written_full _ _ _ _ _ _ _ _ c.loop-k.invariant c.loop-k-test.true

pub loop-k-preserved : goal.loop-k-preserved
loop-k-preserved c =
    let i = c.loop-k in
    let row = c.unpack_into-q in
    written_put _ _ _ _ _ _ _ _ i.invariant c.loop-k-test.true _ _ (omega arith) row.auto.buffer row.ensures

pub returns : goal.returns
returns c = written_end _ _ _ _ _ _ _ _ c.loop-k.invariant c.loop-k.auto.k-end c.loop-k-test.false
