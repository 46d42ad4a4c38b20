-- The header of a member lies inside the file, and the next one stands behind its data and pad: the size made even is the size
-- and its pad.
use native.Mathlib.Omega.{arith}
use Rattle.ilbm_members.proofs.Laws.{row_room, front_read, sibling_inside}
use Rattle.ilbm_members.proofs.sibling_at.Goals as goal

pub size_at-z-requires : goal.size_at-z-requires
size_at-z-requires c = omega (arith, row_room _ _ _ c.requires.0 c.requires.1)

pub name_at-requires : goal.name_at-requires
name_at-requires c = omega (arith, row_room _ _ _ c.requires.0 c.requires.1)

pub returns : goal.returns
returns c =
    let r = c.requires.0 in
    let l = c.requires.1 in
    let a = c.name_at.ensures in
    let b = c.size_at-z.ensures.0 in
    record { front = front_read _ _ _ _ _ a b l; later = omega arith; inside = sibling_inside _ _ _ _ _ a b l r }
