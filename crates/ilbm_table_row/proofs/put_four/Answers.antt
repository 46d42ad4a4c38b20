-- The fourth number is put behind the three.
use borrow.Author.Rules.{rules}
use Rattle.ilbm_table_row.proofs.Put.{four_put}
use Rattle.ilbm_table_row.proofs.put_four.Goals as goal

pub returns : goal.returns
returns c = search (four_put, rules)
