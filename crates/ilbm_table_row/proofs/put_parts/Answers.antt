-- The properties are put two by two, each pair behind the one before, and the BODY behind them.
use borrow.Author.Rules.{rules}
use Rattle.ilbm_table_row.proofs.Rows.{parts_put}
use Rattle.ilbm_table_row.proofs.put_parts.Goals as goal

pub returns : goal.returns
returns c = search (parts_put, rules)
