-- `write_lines` meets its contract. The loop's invariant: the first y lines stand in the frame, and those from q on are the others.
use mathlib.Core.Path.{◌∙◌}
use borrow.Author.Rules.{rules}
use Rattle.ilbm_scan_frame.proofs.Frame.{drawing, drawn_end}
use Rattle.ilbm_scan_frame.proofs.write_lines.Goals as goal

pub loop-y-init : goal.loop-y-init
loop-y-init c = search (drawing, rules)

pub write_line_by-q-requires-clause-read : goal.write_line_by-q-requires-clause-read
write_line_by-q-requires-clause-read c = search (drawing, rules)

pub loop-y-preserved : goal.loop-y-preserved
loop-y-preserved c = search (drawing, rules)

pub returns : goal.returns
returns c =
    let l = c.loop-y in
    drawn_end _ _ _ _ _ _ _ _ _ _ l.invariant l.auto.y-end c.loop-y-test.false (l.auto.frame ∙ c.requires.w_in_bounds.1)
