-- A buffer that is too short is refused before a byte is written; else the first bytes are copied, and a copy with its pads made
-- zero is the result.
use Rattle.iff_copy.proofs.Laws.{refused_room, refused_same, written_length, copied_same}
use borrow.Author.Rules.{rules}
use Rattle.iff_copy.proofs.copy_sound.Goals as goal

pub returns-then-out-end-clause-is : goal.returns-then-out-end-clause-is
returns-then-out-end-clause-is c = search (refused_room, rules)

pub returns-clause-is : goal.returns-clause-is
returns-clause-is c = search (written_length, rules)

pub returns-clause-copied : goal.returns-clause-copied
returns-clause-copied c =
    let fits = c.if-out-end.false in
    let sound = c.requires in copied_same _ _ sound _ _ fits c.copy_bytes.ensures _ c.zero_pads.ensures

pub returns-then-out-end-clause-copied : goal.returns-then-out-end-clause-copied
returns-then-out-end-clause-copied c =
    let sound = c.requires in refused_same _ _ sound c.args.out.now c.if-out-end.true
