-- `put_records` meets its contract: at each turn the cursor stands at the record that is put next, if there is one, and each column has
-- the fields of the records before it.
use Rattle.std.proofs.Common.{◌≡◌, ◌<◌}
use Rattle.list_cursor.specs.Cursors.{Located}
use Rattle.list_columns.proofs.ColumnLaws.{Columns}
use Rattle.list_columns.proofs.put_records.Given as goal

abbrev pub invariant-loop-i : goal.invariant-loop-i
invariant-loop-i l = record {
  at : 0 < l.n → Located l.s l.cur;
  numbered : l.cur.number ≡ l.i;
  put : Columns l.s l.i l.initial.numbers l.numbers l.initial.levels l.levels l.initial.kinds l.kinds l.initial.names l.names l.initial.places l.places l.initial.sizes l.sizes;
}
