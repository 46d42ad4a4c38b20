-- By eights, and the rest one by one: a paste behind a paste.
use Rattle.byterun_copy.proofs.Runs.{rest_copied}
use borrow.Author.Rules.{rules}
use Rattle.byterun_copy.proofs.copy_run.Goals as goal

pub returns : goal.returns
returns c = search (rest_copied, rules)
