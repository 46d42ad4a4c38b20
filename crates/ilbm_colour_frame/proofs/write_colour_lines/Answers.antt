-- `write_colour_lines` meets its contract. The loop's invariant: the first y lines stand in the frame, and those from q on are the others.
use mathlib.Core.Path.{◌∙◌}
use borrow.Author.Rules.{rules}
use Rattle.ilbm_scan_frame.proofs.Frame.{drawing, drawn_line, drawn_put, drawn_end}
use Rattle.ilbm_colour_frame.proofs.write_colour_lines.Goals as goal

pub loop-y-init : goal.loop-y-init
loop-y-init c = search (drawing, rules)

pub write_colour_line-q-requires-clause-read : goal.write_colour_line-q-requires-clause-read
write_colour_line-q-requires-clause-read c = drawn_line _ _ _ _ _ _ _ _ _ _ c.loop-y.invariant c.loop-y-test.true

pub loop-y-preserved : goal.loop-y-preserved
loop-y-preserved c =
    let i = c.loop-y in
    let line = c.write_colour_line-q in
    drawn_put _ _ _ _ _ _ _ _ _ _ i.invariant c.loop-y-test.true _ _ (i.auto.frame ∙ c.requires.w_in_bounds.1) line.auto.row line.ensures

pub returns : goal.returns
returns c =
    let i = c.loop-y in
    drawn_end _ _ _ _ _ _ _ _ _ _ i.invariant i.auto.y-end c.loop-y-test.false (i.auto.frame ∙ c.requires.w_in_bounds.1)
