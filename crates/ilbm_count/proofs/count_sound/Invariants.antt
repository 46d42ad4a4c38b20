-- Before each turn the pictures counted and those among the chunks still to come are all of them. The measure is the bytes left.
use Prim.Native.Nat.{◌-◌, ◌≤◌}
use Rattle.ilbm_count.proofs.Laws.{Tally}
use Rattle.ilbm_count.proofs.count_sound.Given as goal

abbrev pub invariant-loop-p : goal.invariant-loop-p
invariant-loop-p l = (l.n ≤ l.p) × Tally l.s l.end l.p l.n

abbrev pub decreases-loop-p : goal.decreases-loop-p
decreases-loop-p l = l.end - l.p
