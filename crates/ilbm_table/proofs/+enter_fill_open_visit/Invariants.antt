-- The bytes that are left fall at each call; the loop in `fill` keeps what is still to be put for the chunks to come.
use Rattle.std.proofs.Common.{◌≡◌, ◌+◌, ◌-◌, ◌*◌, ◌≤◌, length}
use Rattle.ilbm_members.specs.Members.{Row}
use Rattle.ilbm_table.proofs.Laws.{Filling}
use Rattle.ilbm_table.proofs.+enter_fill_open_visit.Given as goal

abbrev pub decreases-enter : goal.decreases-enter
decreases-enter l = (l.e - l.q) * 4

abbrev pub decreases-fill : goal.decreases-fill
decreases-fill l = (l.e - l.p) * 4 + 3

abbrev pub decreases-open : goal.decreases-open
decreases-open l = (l.e - l.q) * 4 + 1

abbrev pub decreases-visit : goal.decreases-visit
decreases-visit l = (l.e - l.q) * 4 + 2

abbrev pub invariant-fill-loop-q : goal.invariant-fill-loop-q
invariant-fill-loop-q l =
    (l.p ≤ l.q) × (l.q ≤ l.e) × Row l.s l.q l.e × (length l.table ≡ length l.initial.table) × (l.next ≤ length l.table) ×
    Filling l.s l.p l.e l.scope l.initial.table l.at l.q l.table l.next

abbrev pub decreases-fill-loop-q : goal.decreases-fill-loop-q
decreases-fill-loop-q l = l.e - l.q
