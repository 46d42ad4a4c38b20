-- Without a BODY it is 25; with one, `colour_line_in_body` has the answer, for the header, the number of CAMG and the palette that count.
use borrow.Author.Rules.{rules}
use Rattle.ilbm_properties.proofs.Laws.{camg_right}
use Rattle.ilbm_colours.proofs.Body.{line_done}
use Rattle.ilbm_colours.proofs.picture_colour_line.Goals as goal

pub view_mode-mode-requires : goal.view_mode-mode-requires
view_mode-mode-requires c = search (camg_right, rules)

pub returns-in-Some : goal.returns-in-Some
returns-in-Some c =
    line_done _ _ _ _ _ c.view_mode-mode.ensures _ c.part_or_default-palette.ensures.0 _ _ c.in-Some.is _ _ _ _
    c.colour_line_in_body.ensures.answer c.colour_line_in_body.ensures.bytes
