-- `open_level` meets its contract: the level that is left at l is the level that is left at the start. The measure is l.
use Prim.Native.Nat.{◌≤◌}
use mathlib.Core.Path.{◌≡◌}
use Rattle.list_cursor.specs.Cursors.{open_level}
use Rattle.list_cursor.proofs.open_level.Given as goal

abbrev pub invariant-loop-l : goal.invariant-loop-l
invariant-loop-l l = (l.l ≤ 17) × (open_level l.ends l.place l.l ≡ open_level l.ends l.place l.level)

abbrev pub decreases-loop-l : goal.decreases-loop-l
decreases-loop-l l = l.l
