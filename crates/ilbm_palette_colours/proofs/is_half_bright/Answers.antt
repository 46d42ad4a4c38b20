-- Bit 11 is looked at first, then the planes, then bit 7.
use Rattle.ilbm_palette_colours.proofs.Laws.{bright_holding, bright_other, bright_six}
use Rattle.ilbm_palette_colours.proofs.is_half_bright.Goals as goal

pub returns-then-holds : goal.returns-then-holds
returns-then-holds c =
    bright_holding c.args.mode c.args.planes _ c.holds.ensures c.if-holds.true

pub returns-then-planes-ne6 : goal.returns-then-planes-ne6
returns-then-planes-ne6 c =
    bright_other c.args.mode c.args.planes _ c.holds.ensures c.if-holds.false c.if-planes-ne6.true

pub returns : goal.returns
returns c =
    bright_six c.args.mode c.args.planes _ c.holds.ensures c.if-holds.false c.if-planes-ne6.false
