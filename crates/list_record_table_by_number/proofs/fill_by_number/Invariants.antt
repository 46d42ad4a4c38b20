-- `fill_by_number` meets its contract: at each turn the table has the records before the number that is asked for.
use Rattle.std.proofs.Common.{◌≡◌}
use Rattle.list_record_table.proofs.RowLaws.{partly}
use Rattle.list_record_table_by_number.proofs.fill_by_number.Given as goal

abbrev pub invariant-loop-i : goal.invariant-loop-i
invariant-loop-i l = l.table ≡ partly l.s l.i l.initial.table
