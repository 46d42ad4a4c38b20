-- Before each turn the buffer is clean up to p, and from there on the chunks still to come are as the file has them.
use native.Mathlib.Omega.{arith}
use lib.ListN.{length}
use borrow.Author.Rules.{rules}
use Rattle.iff_copy.proofs.Laws.{cleaning_laws, cleaning_header, cleaning_room}
use Rattle.iff_copy.proofs.zero_pads.Goals as goal

pub loop-p-init : goal.loop-p-init
loop-p-init c = search (cleaning_laws, rules)

pub zero_pad-p-requires : goal.zero_pad-p-requires
zero_pad-p-requires c =
    let l = c.loop-p in
    let h = c.loop-p-test.true in
    (cleaning_header _ _ _ _ _ l.invariant.1 h, cleaning_room _ _ _ _ _ l.invariant.1 h (length l.out) (omega arith))

pub loop-p-preserved : goal.loop-p-preserved
loop-p-preserved c = search (cleaning_laws, rules)

pub returns : goal.returns
returns c = search (cleaning_laws, rules)
