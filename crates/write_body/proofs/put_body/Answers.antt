-- The loop's invariant: the lines passed stand at their place, one behind the other.
use Rattle.write_plane_row.proofs.Buffers.{putting_none, putting_room, putting_more, putting_all}
use Rattle.write_body.proofs.Body.{lines_all, lines_step, lines_end}
use Rattle.write_body.proofs.put_body.Goals as goal

pub loop-y-init : goal.loop-y-init
loop-y-init c = putting_none _ _ _ _ (lines_all _ _ _)

pub put_shaped_line-q-requires : goal.put_shaped_line-q-requires
put_shaped_line-q-requires c =
    let p = c.requires in
    (p.0, putting_room _ _ _ _ _ _ c.loop-y.invariant p.3 _ _ (lines_step _ _ _ _ _ c.shape_width-shape_w.ensures.is c.loop-y-test.true))

pub loop-y-preserved : goal.loop-y-preserved
loop-y-preserved c =
    let w = c.put_shaped_line-q.ensures in
    let step = lines_step _ _ _ _ _ c.shape_width-shape_w.ensures.is c.loop-y-test.true in
    putting_more _ _ _ _ _ _ c.loop-y.invariant c.requires.3 _ _ step _ _ w.ends w.bytes

pub returns-clause-ends : goal.returns-clause-ends
returns-clause-ends c = (putting_all _ _ _ _ _ _ c.loop-y.invariant c.requires.3 (lines_end _ _ _ _ c.loop-y-test.false)).0

pub returns-clause-bytes : goal.returns-clause-bytes
returns-clause-bytes c = (putting_all _ _ _ _ _ _ c.loop-y.invariant c.requires.3 (lines_end _ _ _ _ c.loop-y-test.false)).1
