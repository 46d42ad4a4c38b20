-- `packed_len` meets its contract. The loop's invariant: the bytes counted, and the packed length of what is left of the row, are the whole
-- length; the measure is what is left of the row.
use borrow.Author.Rules.{rules}
use Rattle.byterun_pack.proofs.Turns.{count_ends, same_fits, same_less, same_counted, plain_fits, plain_less, plain_with_code_fits, plain_total_fits, plain_counted}
use Rattle.byterun_pack.proofs.packed_len.Goals as goal

pub overflow_add-i : goal.overflow_add-i
overflow_add-i c = search (same_fits, rules)

pub loop-i-smaller-then-three_at : goal.loop-i-smaller-then-three_at
loop-i-smaller-then-three_at c = search (same_less, rules)

pub loop-i-preserved-then-three_at : goal.loop-i-preserved-then-three_at
loop-i-preserved-then-three_at c =
    let l = c.loop-i in
    same_counted _ _ _ c.three_at.ensures c.loop-i-test.true _ c.if-three_at.true c.same_at-count.ensures _ _ l.invariant.1 l.invariant.2

pub overflow_add-i-else-three_at : goal.overflow_add-i-else-three_at
overflow_add-i-else-three_at c = search (plain_fits, rules)

pub overflow_add-total-else-three_at : goal.overflow_add-total-else-three_at
overflow_add-total-else-three_at c = search (plain_with_code_fits, rules)

pub overflow_add-total-else-three_at-2 : goal.overflow_add-total-else-three_at-2
overflow_add-total-else-three_at-2 c = search (plain_total_fits, rules)

pub loop-i-smaller : goal.loop-i-smaller
loop-i-smaller c = search (plain_less, rules)

pub loop-i-preserved : goal.loop-i-preserved
loop-i-preserved c =
    let l = c.loop-i in
    plain_counted _ _ _ c.three_at.ensures c.loop-i-test.true _ c.if-three_at.false c.plain_at-count.ensures _ _ l.invariant.1 l.invariant.2

pub returns : goal.returns
returns c = search (count_ends, rules)
