-- Three stores put three numbers, one behind the other.
use borrow.Author.Rules.{rules}
use Rattle.ilbm_table_row.proofs.Put.{three_put}
use Rattle.ilbm_table_row.proofs.put_three.Goals as goal

pub returns : goal.returns
returns c = search (three_put, rules)
