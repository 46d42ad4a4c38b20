-- Each chunk ends after it begins, so there are no more chunks than bytes.
use Prim.Native.Nat.{◌-◌, ◌≤◌}
use Rattle.iff_repeated_props.proofs.prop_run.Given as goal

abbrev pub invariant-loop-q : goal.invariant-loop-q
invariant-loop-q l = l.chunks ≤ l.q

abbrev pub decreases-loop-q : goal.decreases-loop-q
decreases-loop-q l = l.limit - l.q
