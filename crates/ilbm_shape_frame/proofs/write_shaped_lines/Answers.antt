-- `write_shaped_lines` meets its contract. The loop's invariant: the first y lines stand in the frame and their shapes in the other, and
-- those from q on are the rest of both.
use mathlib.Core.Path.{◌∙◌}
use borrow.Author.Rules.{rules}
use Rattle.ilbm_scan_frame.proofs.Frame.{drawing, drawn_line, drawn_put, drawn_end}
use Rattle.ilbm_shape_frame.proofs.write_shaped_lines.Goals as goal

pub loop-y-init : goal.loop-y-init
loop-y-init c = search (drawing, rules)

pub write_shaped_line-q-requires-clause-read : goal.write_shaped_line-q-requires-clause-read
write_shaped_line-q-requires-clause-read c = drawn_line _ _ _ _ _ _ _ _ _ _ c.loop-y.invariant.0 c.loop-y-test.true

pub loop-y-preserved : goal.loop-y-preserved
loop-y-preserved c =
    let i = c.loop-y in
    let less = c.loop-y-test.true in
    let line = c.write_shaped_line-q in
    let long = c.requires.frame_len in (
      drawn_put _ _ _ _ _ _ _ _ _ _ i.invariant.0 less _ _ (i.auto.frame ∙ long.0) line.auto.row line.ensures.colours,
      drawn_put _ _ _ _ _ _ _ _ _ _ i.invariant.1 less _ _ (i.auto.shape ∙ long.1) line.auto.shape line.ensures.shape,
    )

pub returns-clause-colours : goal.returns-clause-colours
returns-clause-colours c =
    let i = c.loop-y in
    drawn_end _ _ _ _ _ _ _ _ _ _ i.invariant.0 i.auto.y-end c.loop-y-test.false (i.auto.frame ∙ c.requires.frame_len.0)

pub returns-clause-shape : goal.returns-clause-shape
returns-clause-shape c =
    let i = c.loop-y in
    drawn_end _ _ _ _ _ _ _ _ _ _ i.invariant.1 i.auto.y-end c.loop-y-test.false (i.auto.shape ∙ c.requires.frame_len.1)
