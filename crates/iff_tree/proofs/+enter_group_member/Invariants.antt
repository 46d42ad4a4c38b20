-- The levels that are left fall at each call of `group`; the loop in `group` keeps that the members still to come, after the chunks so
-- far, bring the walk to its result, and that p is the place of one of the members, so that what `fresh` says of each holds there.
use Rattle.std.proofs.Common.{◌-◌, ◌+◌, ◌*◌, ◌≤◌}
use Rattle.iff_repeated_props.proofs.RepeatLaws.{OnWay}
use Rattle.iff_tree.specs.Judge.{chunk_at, members_of, walked_of}
use Rattle.iff_tree.proofs.WalkLaws.{Runs}
use Rattle.iff_tree.proofs.+enter_group_member.Given as goal

abbrev pub decreases-enter : goal.decreases-enter
decreases-enter l = l.levels * 3

abbrev pub decreases-group : goal.decreases-group
decreases-group l = l.levels * 3 + 2

abbrev pub decreases-member : goal.decreases-member
decreases-member l = l.levels * 3 + 1

abbrev pub invariant-group-loop-p : goal.invariant-group-loop-p
invariant-group-loop-p l =
    (l.p ≤ l.e) × (l.count ≤ l.p) × OnWay l.s l.from l.p ×
    Runs (chunk_at l.levels l.s l.from) l.s l.at l.p l.e l.count (walked_of l.n (members_of l.levels l.s l.from l.initial.at l.from l.e))

abbrev pub decreases-group-loop-p : goal.decreases-group-loop-p
decreases-group-loop-p l = l.e - l.p
