-- The bytes that are left fall at each call; the loop in `find` keeps how many pictures are left to pass among the chunks to come.
use Rattle.std.proofs.Common.{◌+◌, ◌-◌, ◌*◌, ◌≤◌}
use Rattle.ilbm_members.specs.Members.{Row}
use Rattle.ilbm_locate.proofs.SeekLaws.{Passing}
use Rattle.ilbm_locate.proofs.+enter_find_open_visit.Given as goal

abbrev pub decreases-enter : goal.decreases-enter
decreases-enter l = (l.e - l.q) * 4

abbrev pub decreases-open : goal.decreases-open
decreases-open l = (l.e - l.q) * 4 + 1

abbrev pub decreases-find : goal.decreases-find
decreases-find l = (l.e - l.p) * 4 + 3

abbrev pub decreases-visit : goal.decreases-visit
decreases-visit l = (l.e - l.q) * 4 + 2

abbrev pub invariant-find-loop-q : goal.invariant-find-loop-q
invariant-find-loop-q l = (l.p ≤ l.q) × (l.q ≤ l.e) × Row l.s l.q l.e × Passing l.s l.p l.e l.scope l.k l.q l.left

abbrev pub decreases-find-loop-q : goal.decreases-find-loop-q
decreases-find-loop-q l = l.e - l.q
