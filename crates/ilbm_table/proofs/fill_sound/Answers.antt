-- The pictures are counted first: with fewer places it is 13, and otherwise every row has room.
use borrow.Author.Rules.{rules}
use Rattle.ilbm_find.proofs.ViewLaws.{sound_row, none_around}
use Rattle.ilbm_table.proofs.Whole.{all_filled}
use Rattle.ilbm_table.proofs.fill_sound.Goals as goal

pub fill-requires : goal.fill-requires
fill-requires c = search (sound_row, none_around, rules)

pub returns : goal.returns
returns c =
    let sound = c.requires in
    let none = c.none_shared.ensures in
    let filled = c.fill.ensures.0 in
    all_filled _ _ sound _ c.count_sound-pictures.ensures _ _ _ _ c.if-table-pictures.false none filled
