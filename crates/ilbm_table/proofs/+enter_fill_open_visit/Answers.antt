-- The rows of all pictures, by going through the members of each group and into each group, by the laws of Laws.antt.
use Rattle.std.proofs.Common.{rules, arith}
use Rattle.ilbm_locate.proofs.Laws.{group_laws}
use Rattle.ilbm_locate.proofs.ScopeLaws.{scope_same}
use Rattle.ilbm_table.proofs.Laws.{inside_put, group_put, put_laws, filling_end, loop_laws}
use Rattle.ilbm_table.proofs.+enter_fill_open_visit.Goals as goal

pub enter-size_at-requires : goal.enter-size_at-requires
enter-size_at-requires t c = search (group_laws, put_laws, rules)

pub enter-name_at-name-requires : goal.enter-name_at-name-requires
enter-name_at-name-requires t c = search (group_laws, rules)

pub enter-fill-requires : goal.enter-fill-requires
enter-fill-requires t c = search (group_laws, put_laws, rules)

pub enter-fill-requires-2 : goal.enter-fill-requires-2
enter-fill-requires-2 t c = search (group_laws, put_laws, rules)

pub visit-name_at-n-requires : goal.visit-name_at-n-requires
visit-name_at-n-requires t c = search (group_laws, put_laws, rules)

pub visit-returns : goal.visit-returns
visit-returns t c = search (group_laws, put_laws, rules)

pub fill-loop-q-preserved : goal.fill-loop-q-preserved
fill-loop-q-preserved t c = search (loop_laws, rules)

pub enter-returns-then-name : goal.enter-returns-then-name
enter-returns-then-name t c =
    let filled = c.fill.ensures in
    let a = c.args in
    (inside_put a.s.now a.q a.e _ _ _ _ _ _ _ c.size_at.ensures.0 c.inner_scope-inner.ensures filled.0, filled.1)

pub enter-returns : goal.enter-returns
enter-returns t c =
    let filled = c.fill-2.ensures in
    let a = c.args in
    let same = scope_same a.s.now a.q a.e a.scope.now _ c.name_at-name.ensures c.if-name.false in
    (inside_put a.s.now a.q a.e _ _ _ _ _ _ _ c.size_at.ensures.0 same filled.0, filled.1)

pub fill-returns : goal.fill-returns
fill-returns t c =
    let k = c.loop-q.invariant in
    (filling_end _ _ _ _ _ _ _ _ _ (omega arith) k.5, (k.3, omega (arith, k.3, k.4)))

pub open-returns : goal.open-returns
open-returns t c =
    let own = c.put_own-next.ensures in
    let inside = c.enter.ensures in
    let group = c.requires.0 in
    let a = own.1 in
    let b = inside.1 in
    (group_put _ _ _ _ _ _ _ _ _ _ group own.0 inside.0, (omega (arith, a, b), omega (arith, a, b)))
