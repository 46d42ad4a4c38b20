-- What is stored is what `palette_parts` tells of the view: the part begins at the place of the CMAP that counts and holds its data.
use Rattle.export_palette.proofs.PaletteLaws.{palette_numbers_lem, palette_part}
use Rattle.export_palette.proofs.ilbm_palette.Goals as goal

pub returns-clause-answer : goal.returns-clause-answer
returns-clause-answer c =
    let seen = c.view_picture.ensures in
    palette_numbers_lem _ _ _ seen _ c.palette_parts-numbers.ensures

pub returns-clause-part : goal.returns-clause-part
returns-clause-part c =
    let seen = c.view_picture.ensures in
    palette_part _ _ _ seen _ c.palette_parts-numbers.ensures
