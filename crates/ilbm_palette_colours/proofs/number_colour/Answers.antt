-- The entry of the number, or the halves of the entry 32 before.
use Rattle.std.proofs.Common.{ap, not}
use Rattle.ilbm_palette_colours.proofs.Laws.{plain_number, low_number, half_number}
use Rattle.ilbm_palette_colours.proofs.number_colour.Goals as goal

pub returns-then-not-half : goal.returns-then-not-half
returns-then-not-half c =
    plain_number c.args.palette.now c.args.i c.args.half _ (ap not c.if-not-half.true) c.entry.ensures

pub returns-then-i-lt32 : goal.returns-then-i-lt32
returns-then-i-lt32 c =
    low_number c.args.palette.now c.args.i _ _ c.if-i-lt32.true c.entry-then-i-lt32.ensures

pub returns : goal.returns
returns c =
    half_number c.args.palette.now c.args.i c.args.half _ _ (ap not c.if-not-half.false) c.if-i-lt32.false
    c.entry-2.ensures c.halved.ensures
