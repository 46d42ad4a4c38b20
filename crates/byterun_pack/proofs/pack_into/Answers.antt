-- `pack_into` meets its contract. The loop's invariant: the bytes written, and what is left of the row, packed, are the packed row, and the
-- bytes after it stand; the measure is what is left of the row.
use borrow.Author.Rules.{rules}
use Rattle.byterun_pack.specs.Pack.{packed}
use Rattle.byterun_pack.proofs.Turns.{count_ends, repeat_fits, repeat_less, repeat_room, repeat_put, literal_fits, literal_less, literal_room, literal_with_code_fits, literal_at_fits, literal_put, put_ends}
use Rattle.byterun_pack.proofs.pack_into.Goals as goal

pub put_repeat-requires : goal.put_repeat-requires
put_repeat-requires c =
    let l = c.loop-from in
    repeat_room _ _ _ c.piece_at.ensures c.loop-from-test.true l.out (packed c.args.row.now) _ _ l.invariant.1 c.requires l.invariant.2 _ c.in-Repeat.is

pub overflow_add-from : goal.overflow_add-from
overflow_add-from c = search (repeat_fits, rules)

pub loop-from-smaller-in-Repeat : goal.loop-from-smaller-in-Repeat
loop-from-smaller-in-Repeat c = search (repeat_less, rules)

pub loop-from-preserved-in-Repeat : goal.loop-from-preserved-in-Repeat
loop-from-preserved-in-Repeat c =
    let l = c.loop-from in
    repeat_put _ _ _ c.piece_at.ensures c.loop-from-test.true l.out (packed c.args.row.now) _ _ l.invariant.1 c.requires l.invariant.2 _ c.in-Repeat.is _ _ c.put_repeat.ensures l.invariant.3 l.invariant.4

pub put_literal-requires : goal.put_literal-requires
put_literal-requires c =
    let l = c.loop-from in
    literal_room _ _ _ c.piece_at.ensures c.loop-from-test.true l.out (packed c.args.row.now) _ _ l.invariant.1 c.requires l.invariant.2 _ c.in-Literal.is

pub overflow_add-from-in-Literal : goal.overflow_add-from-in-Literal
overflow_add-from-in-Literal c = search (literal_fits, rules)

pub overflow_add-at-in-Literal : goal.overflow_add-at-in-Literal
overflow_add-at-in-Literal c = search (literal_with_code_fits, rules)

pub overflow_add-at-in-Literal-2 : goal.overflow_add-at-in-Literal-2
overflow_add-at-in-Literal-2 c = search (literal_at_fits, rules)

pub loop-from-smaller : goal.loop-from-smaller
loop-from-smaller c = search (literal_less, rules)

pub loop-from-preserved : goal.loop-from-preserved
loop-from-preserved c =
    let l = c.loop-from in
    literal_put _ _ _ c.piece_at.ensures c.loop-from-test.true l.out (packed c.args.row.now) _ _ l.invariant.1 c.requires l.invariant.2 _ c.in-Literal.is _ _ c.put_literal.ensures l.invariant.3 l.invariant.4

pub returns-clause-is : goal.returns-clause-is
returns-clause-is c =
    let l = c.loop-from in
    let left = c.loop-from-test.false in
    count_ends _ _ _ _ left l.invariant.2

pub returns-clause-bytes : goal.returns-clause-bytes
returns-clause-bytes c =
    let l = c.loop-from in
    let left = c.loop-from-test.false in
    put_ends _ _ _ _ _ _ left l.invariant.2 l.invariant.3 l.invariant.4
