-- The picture of a given number, found by going through the members of each group and into each group, by the laws of SeekLaws.antt.
use Rattle.std.proofs.Common.{rules, arith, refl, ap}
use Rattle.ilbm_locate.specs.Spots.{spot_of}
use Rattle.ilbm_locate.proofs.Laws.{group_laws}
use Rattle.ilbm_locate.proofs.ScopeLaws.{scope_same}
use Rattle.ilbm_locate.proofs.SeekLaws.{passing_end, passing_here, passing_more, seek_laws, visit_laws}
use Rattle.ilbm_locate.proofs.+enter_find_open_visit.Goals as goal

pub enter-size_at-requires : goal.enter-size_at-requires
enter-size_at-requires t c = search (group_laws, visit_laws, rules)

pub enter-name_at-name-requires : goal.enter-name_at-name-requires
enter-name_at-name-requires t c = search (group_laws, rules)

pub enter-find-requires : goal.enter-find-requires
enter-find-requires t c = search (group_laws, visit_laws, rules)

pub enter-returns-then-name : goal.enter-returns-then-name
enter-returns-then-name t c = search (visit_laws, rules)

pub enter-find-requires-2 : goal.enter-find-requires-2
enter-find-requires-2 t c = search (group_laws, visit_laws, rules)

pub enter-returns : goal.enter-returns
enter-returns t c = search (visit_laws, scope_same, rules)

pub open-name_at-requires : goal.open-name_at-requires
open-name_at-requires t c = search (group_laws, visit_laws, rules)

pub open-name_at-requires-2 : goal.open-name_at-requires-2
open-name_at-requires-2 t c = search (group_laws, visit_laws, rules)

pub open-returns-then-k-eq0 : goal.open-returns-then-k-eq0
open-returns-then-k-eq0 t c = search (group_laws, visit_laws, rules)

pub open-returns-then-is_picture : goal.open-returns-then-is_picture
open-returns-then-is_picture t c = search (group_laws, visit_laws, rules)

pub open-returns : goal.open-returns
open-returns t c = search (group_laws, visit_laws, rules)

pub find-returns-in_err-left : goal.find-returns-in_err-left
find-returns-in_err-left t c =
    let there = ap (λ r. spot_of r c.visit.new.found) c.in_err-left.was in
    rw c.from_residual.ensures (passing_here _ _ _ _ _ _ _ _ c.loop-q.invariant.3 c.visit.ensures _ _ refl there)

pub visit-name_at-n-requires : goal.visit-name_at-n-requires
visit-name_at-n-requires t c = search (group_laws, visit_laws, rules)

pub visit-returns : goal.visit-returns
visit-returns t c = search (group_laws, visit_laws, rules)

pub find-loop-q-preserved : goal.find-loop-q-preserved
find-loop-q-preserved t c =
    let left = ap (λ r. spot_of r c.visit.new.found) c.in_ok-left.was in
    let going = passing_more _ _ _ _ c.sibling_at-q.ensures _ _ _ _ _ c.loop-q.invariant.3 c.visit.ensures _ left in
    (search (seek_laws, rules), search (seek_laws, rules), search (seek_laws, rules), going)

pub find-returns : goal.find-returns
find-returns t c = passing_end _ _ _ _ _ _ _ (omega arith) c.loop-q.invariant.3
