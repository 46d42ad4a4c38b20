-- `put_records` meets its contract: at each turn the cursor stands at the record that is put next, if there is one, and the table has the
-- records before it.
use Rattle.std.proofs.Common.{◌≡◌, ◌<◌}
use Rattle.list_cursor.specs.Cursors.{Located}
use Rattle.list_record_table.proofs.RowLaws.{partly}
use Rattle.list_record_table.proofs.put_records.Given as goal

abbrev pub invariant-loop-i : goal.invariant-loop-i
invariant-loop-i l = record {
  at : 0 < l.n → Located l.s l.cur;
  numbered : l.cur.number ≡ l.i;
  put : l.table ≡ partly l.s l.i l.initial.table;
}
