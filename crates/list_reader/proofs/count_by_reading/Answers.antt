-- `count_by_reading` meets its contract: a turn is made as long as there is a record, and there are fewer than 16,777,216.
use Rattle.std.proofs.Common.{arith}
use Rattle.list_reader.proofs.ReaderLaws.{count_start, count_done, count_more, count_on}
use Rattle.list_reader.proofs.count_by_reading.Goals as goal

pub loop-place-init : goal.loop-place-init
loop-place-init c = count_start _ _ (λ i. omega (arith, c.type_inv.s i)) c.opening_of.ensures

pub overflow_add-n : goal.overflow_add-n
overflow_add-n c = omega (arith, (count_more c.loop-place.invariant cc).1)

pub loop-place-smaller : goal.loop-place-smaller
loop-place-smaller c = omega (arith, (count_more c.loop-place.invariant cc).0)

pub loop-place-preserved : goal.loop-place-preserved
loop-place-preserved c = count_on c.loop-place.invariant (count_more c.loop-place.invariant cc).0 _ c.place_after-place.ensures

pub returns : goal.returns
returns c = count_done c.loop-place.invariant cc
