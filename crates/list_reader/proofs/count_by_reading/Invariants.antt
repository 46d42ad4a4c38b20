-- `count_by_reading` meets its contract: after n turns the place is that of n steps, and a record is given as long as n is below the count.
use Prim.Native.Nat.{◌-◌}
use Rattle.list_spec.specs.Records.{count_of}
use Rattle.list_reader.proofs.ReaderLaws.{Counting}
use Rattle.list_reader.proofs.count_by_reading.Given as goal

abbrev pub invariant-loop-place : goal.invariant-loop-place
invariant-loop-place l = Counting l.s l.place l.n

abbrev pub decreases-loop-place : goal.decreases-loop-place
decreases-loop-place l = count_of l.s - l.n
