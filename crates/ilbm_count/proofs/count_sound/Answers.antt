-- Before each turn the pictures counted and those among the chunks still to come are all of them. The measure is the bytes left.
use borrow.Author.Rules.{rules}
use Rattle.ilbm_count.proofs.Laws.{tally_laws}
use Rattle.ilbm_count.proofs.count_sound.Goals as goal

pub loop-p-init : goal.loop-p-init
loop-p-init c = search (tally_laws, rules)

pub loop-p-preserved : goal.loop-p-preserved
loop-p-preserved c = search (tally_laws, rules)

pub returns : goal.returns
returns c = search (tally_laws, rules)
