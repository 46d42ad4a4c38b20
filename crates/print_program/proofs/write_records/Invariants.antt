-- `write_records` is safe and ends: the cursor is located at each turn, and one record further than before. What is written are the
-- lines of the records before it.
use Rattle.std.proofs.Common.{◌-◌, ◌≤◌}
use Rattle.std.specs.Io.KnownBytes.{Appends}
use Rattle.list_cursor.specs.Cursors.{Located}
use Rattle.print_listing.specs.Lines.{lines_from}
use Rattle.print_program.proofs.write_records.Given as goal

abbrev pub invariant-loop-cur : goal.invariant-loop-cur
invariant-loop-cur g l = record {
  located : Located l.s l.cur;
  upper_bound : l.cur.number ≤ l.chunks;
  written : Appends (g.W.Write.contents l.fn.to) (g.W.Write.contents l.to) (lines_from l.s 0 l.cur.number);
}

abbrev pub decreases-loop-cur : goal.decreases-loop-cur
decreases-loop-cur g l = l.chunks - l.cur.number
