-- Bit 11 is the lowest bit of the number divided by 2 ^ 11.
use borrow.Author.Rules.{rules}
use Rattle.ilbm_spec.specs.Colours.{holds}
use Rattle.ilbm_palette_colours.proofs.holds.Goals as goal

pub returns : goal.returns
unfolding holds
returns c = search rules
