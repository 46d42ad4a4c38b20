-- `colour_by_palette` meets its contract. The loop's invariant: the front has the first x pixels. The last pixel has no fourth byte.
use Prim.Native.Nat.{◌-◌}
use mathlib.Core.Path.{◌≡◌}
use mathlib.Core.List.{[], ◌∷◌}
use native.Mathlib.Omega.{arith}
use Rattle.ilbm_colour_pixels.proofs.Front.{front_start, front_next, front_end}
use Rattle.ilbm_colour_pixels.proofs.colour_by_palette.Goals as goal

pub returns-then-w-eq0 : goal.returns-then-w-eq0
returns-then-w-eq0 c = front_end _ _ _ _ _ _ c.requires (front_start _ _ _) (omega arith)

pub loop-x-preserved : goal.loop-x-preserved
loop-x-preserved c =
    let step = c.looked_up-v.ensures in
    (_, front_next _ _ _ _ _ _ (omega arith) c.loop-x.invariant.1 _ _ (_ ∷ []) step (omega arith) (omega arith) c.put_four.ensures)

pub returns : goal.returns
returns c =
    let at_last : c.loop-x.x ≡ c.args.w - 1 = omega arith in
    let front = rw at_last at c.loop-x.invariant.1 in
    let step = c.looked_up-v-2.ensures in
    let last = front_next _ _ _ _ _ _ (omega arith) front _ _ [] step (omega arith) (omega arith) c.put_last.ensures in
    front_end _ _ _ _ _ _ (omega arith) last (omega arith)
