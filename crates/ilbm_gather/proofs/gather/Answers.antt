-- `gather` meets its contract. The loop's invariant: the first x pixels have their colours.
use borrow.Author.Rules.{rules}
use Rattle.ilbm_gather.proofs.Colours.{gathering}
use Rattle.ilbm_gather.proofs.gather.Goals as goal

pub loop-x-preserved : goal.loop-x-preserved
loop-x-preserved c = search (gathering, rules)
