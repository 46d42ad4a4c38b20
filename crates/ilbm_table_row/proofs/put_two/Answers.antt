-- The second property is put behind the first.
use borrow.Author.Rules.{rules}
use Rattle.ilbm_table_row.proofs.Rows.{two_put}
use Rattle.ilbm_table_row.proofs.put_two.Goals as goal

pub returns : goal.returns
returns c = search (two_put, rules)
