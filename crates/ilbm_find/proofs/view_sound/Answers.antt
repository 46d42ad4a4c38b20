-- The search finds the FORM of the picture, which lies in the file with what it shares, or tells that there are too few.
use Rattle.ilbm_find.proofs.ViewLaws.{sound_row, none_around, spot_form, view_here, view_left}
use borrow.Author.Rules.{rules}
use Rattle.ilbm_find.proofs.view_sound.Goals as goal

pub seek-requires : goal.seek-requires
seek-requires c = search (sound_row, none_around, rules)

pub view_form-requires : goal.view_form-requires
view_form-requires c = search (spot_form, rules)

pub returns-in-Break : goal.returns-in-Break
returns-in-Break c = search (view_here, rules)

pub returns-in-Continue : goal.returns-in-Continue
returns-in-Continue c = search (view_left, rules)
