-- All numbers from 256 on, from 32 after the entries on, or from the entries on.
use Rattle.ilbm_colour_words.proofs.Filled.{black_after_halves, black_after_entries}
use Rattle.ilbm_colour_words.proofs.number_count.Goals as goal

pub returns-then-half : goal.returns-then-half
returns-then-half c =
    black_after_halves c.args.half c.args.palette.now c.if-entries-ge224.false c.if-half.true

pub returns : goal.returns
returns c =
    black_after_entries c.args.half c.args.palette.now c.if-entries-ge224.false c.if-half.false
