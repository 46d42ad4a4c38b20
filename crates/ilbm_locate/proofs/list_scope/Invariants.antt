-- Before each turn the members still to come give the scope that all give: a PROP ILBM decides, and at the end the scope around is left.
use Prim.Native.Nat.{◌-◌, ◌≤◌}
use Rattle.ilbm_members.specs.Members.{Row}
use Rattle.ilbm_locate.proofs.ScopeLaws.{Sharing}
use Rattle.ilbm_locate.proofs.list_scope.Given as goal

abbrev pub invariant-loop-q : goal.invariant-loop-q
invariant-loop-q l = (l.p ≤ l.q) × (l.q ≤ l.e) × Row l.s l.q l.e × Sharing l.s l.p l.e l.q

abbrev pub decreases-loop-q : goal.decreases-loop-q
decreases-loop-q l = l.e - l.q
