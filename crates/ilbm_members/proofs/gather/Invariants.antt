-- Before each turn what the members so far and those still to come give is what all of them give. The measure is the bytes left.
use Prim.Native.Nat.{◌-◌, ◌≤◌}
use Rattle.ilbm_members.specs.Members.{Row}
use Rattle.ilbm_members.proofs.PassLaws.{Gathering}
use Rattle.ilbm_members.proofs.gather.Given as goal

abbrev pub invariant-loop-q : goal.invariant-loop-q
invariant-loop-q l = (l.q ≤ l.e) × Row l.s l.q l.e × Gathering l.s l.p l.e l.whole l.q l.g

abbrev pub decreases-loop-q : goal.decreases-loop-q
decreases-loop-q l = l.e - l.q
