-- The bytes of an entry that is there whole, or black.
use Rattle.ilbm_palette_colours.proofs.Laws.{entry_whole, entry_missing}
use Rattle.ilbm_palette_colours.proofs.entry.Goals as goal

pub returns-then-at-palette : goal.returns-then-at-palette
returns-then-at-palette c =
    entry_whole c.args.palette.now c.args.i c.if-at-palette.true

pub returns : goal.returns
returns c = entry_missing c.args.palette.now c.args.i c.if-at-palette.false
