-- One byte more of the run.
use borrow.Author.Rules.{rules}
use Rattle.byterun_copy.proofs.Runs.{copy_more}
use Rattle.byterun_copy.proofs.copy_ones.Goals as goal

pub loop-k-preserved : goal.loop-k-preserved
loop-k-preserved c = search (copy_more, rules)
