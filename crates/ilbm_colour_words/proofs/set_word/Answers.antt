-- The two high bits choose the entry, or the part that the data bits set.
use Rattle.ilbm_colour_words.proofs.Laws.{set_entry, set_blue, set_red, set_green}
use Rattle.ilbm_colour_words.proofs.set_word.Goals as goal

pub returns-then-choice-eq0 : goal.returns-then-choice-eq0
returns-then-choice-eq0 c =
    let s = c.args in
    set_entry s.planes s.code _ c.data_values-values.ensures.0 s.palette.now c.if-choice-eq0.true _ _
    c.entry.ensures c.word.ensures

pub returns-then-choice-eq1 : goal.returns-then-choice-eq1
returns-then-choice-eq1 c =
    let s = c.args in
    set_blue s.planes s.code _ c.data_values-values.ensures.0 s.palette.now c.if-choice-eq0.false _ c.part-level.ensures.0
    c.if-choice-eq1.true

pub returns-then-choice-eq2 : goal.returns-then-choice-eq2
returns-then-choice-eq2 c =
    let s = c.args in
    set_red s.planes s.code _ c.data_values-values.ensures.0 s.palette.now c.if-choice-eq0.false _ c.part-level.ensures.0
    c.if-choice-eq1.false c.if-choice-eq2.true

pub returns : goal.returns
returns c =
    let s = c.args in
    set_green s.planes s.code _ c.data_values-values.ensures.0 s.palette.now c.if-choice-eq0.false _
    c.part-level.ensures.0 c.if-choice-eq1.false c.if-choice-eq2.false
