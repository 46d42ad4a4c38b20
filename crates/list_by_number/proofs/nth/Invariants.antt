-- `nth` meets its contract: the cursor is located at each turn, and one record further than before.
use Prim.Native.Nat.{◌-◌, ◌≤◌}
use Rattle.list_cursor.specs.Cursors.{Located}
use Rattle.list_by_number.proofs.nth.Given as goal

abbrev pub invariant-loop-cur : goal.invariant-loop-cur
invariant-loop-cur l = (Located l.s l.cur) × (l.cur.number ≤ l.number)

abbrev pub decreases-loop-cur : goal.decreases-loop-cur
decreases-loop-cur l = l.number - l.cur.number
