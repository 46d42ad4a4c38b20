-- The loop's invariant: the rows passed stand at their place, one behind the other.
use native.Mathlib.Omega.{arith}
use Rattle.write_plane_row.proofs.Buffers.{putting_room, putting_more, putting_all}
use Rattle.write_body.proofs.Lines.{rows_step, rows_end}
use Rattle.write_body.proofs.put_line.Goals as goal

pub put_row-q-requires : goal.put_row-q-requires
put_row-q-requires c =
    let p = c.requires in
    (omega arith, p.0, (putting_room _ _ _ _ _ _ c.loop-k.invariant p.2 _ _ (rows_step _ _ _ _ _ c.loop-k-test.true)).fits)

pub loop-k-preserved : goal.loop-k-preserved
loop-k-preserved c =
    let p = c.requires in
    let w = c.put_row-q.ensures in
    putting_more _ _ _ _ _ _ c.loop-k.invariant p.2 _ _ (rows_step _ _ _ _ _ c.loop-k-test.true) _ _ (omega (arith, w.is)) w.bytes

pub returns-clause-ends : goal.returns-clause-ends
returns-clause-ends c = (putting_all _ _ _ _ _ _ c.loop-k.invariant c.requires.2 (rows_end _ _ _ _ _ c.loop-k-test.false)).0

pub returns-clause-bytes : goal.returns-clause-bytes
returns-clause-bytes c = (putting_all _ _ _ _ _ _ c.loop-k.invariant c.requires.2 (rows_end _ _ _ _ _ c.loop-k-test.false)).1
