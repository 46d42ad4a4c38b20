-- Each property has the size that the judgement asked for, so that its fields can be read; the header and the origins are copied.
use Rattle.ilbm_properties.proofs.Laws.{grab_right, dest_right, sprt_right, camg_right, picture_answered}
use borrow.Author.Rules.{rules}
use Rattle.ilbm_properties.proofs.picture_from.Goals as goal

pub grab_of-requires : goal.grab_of-requires
grab_of-requires c = search (grab_right, rules)

pub destination_of-requires : goal.destination_of-requires
destination_of-requires c = search (dest_right, rules)

pub word_of-requires : goal.word_of-requires
word_of-requires c = search (sprt_right, rules)

pub view_mode-requires : goal.view_mode-requires
view_mode-requires c = search (camg_right, rules)

pub returns : goal.returns
returns c =
    picture_answered _ _ _ _ _ _ _ c.grab_of.ensures c.destination_of.ensures c.word_of.ensures
    c.view_mode.ensures
