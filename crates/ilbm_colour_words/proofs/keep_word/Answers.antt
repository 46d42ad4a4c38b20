-- The two high bits choose what is held.
use Rattle.ilbm_colour_words.proofs.Laws.{keep_nothing, keep_for_blue, keep_for_red, keep_for_green}
use Rattle.ilbm_colour_words.proofs.keep_word.Goals as goal

pub returns-then-chosen-eq0 : goal.returns-then-chosen-eq0
returns-then-chosen-eq0 c =
    let s = c.args in
    keep_nothing s.planes s.code _ c.data_values.ensures.0 c.if-chosen-eq0.true

pub returns-then-chosen-eq1 : goal.returns-then-chosen-eq1
returns-then-chosen-eq1 c =
    let s = c.args in
    keep_for_blue s.planes s.code _ c.data_values.ensures.0 c.if-chosen-eq0.false c.if-chosen-eq1.true

pub returns-then-chosen-eq2 : goal.returns-then-chosen-eq2
returns-then-chosen-eq2 c =
    let s = c.args in
    keep_for_red s.planes s.code _ c.data_values.ensures.0 c.if-chosen-eq0.false c.if-chosen-eq1.false c.if-chosen-eq2.true

pub returns : goal.returns
returns c =
    let s = c.args in
    keep_for_green s.planes s.code _ c.data_values.ensures.0 c.if-chosen-eq0.false c.if-chosen-eq1.false c.if-chosen-eq2.false
