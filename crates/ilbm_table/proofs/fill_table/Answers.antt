-- What the check accepts is sound, so that its pictures can be counted and told; what it refuses is passed on.
use mathlib.Core.Path.{sym, ◌∙◌}
use native.Mathlib.Omega.{arith}
use Rattle.std.proofs.lemmas.Result.{err_from_is_err_and}
use Rattle.iff_walk.specs.laws.Coming.{accepted_sound}
use Rattle.ilbm_table.proofs.Whole.{file_refused}
use Rattle.ilbm_table.proofs.fill_table.Goals as goal

pub fill_sound-requires : goal.fill_sound-requires
fill_sound-requires c = accepted_sound _ (λ i. omega (arith, c.type_inv.s i)) _ (sym c.check.ensures ∙ c.in_ok-accepted.was)

pub returns-in_err-accepted : goal.returns-in_err-accepted
returns-in_err-accepted c =
    let p = err_from_is_err_and c.from_residual.result c.from_residual.ensures.1 in
    let refused = file_refused _ c.args.table.now _ _ c.check.ensures c.in_err-accepted.was in
    rw (p.1, p.2) (record { answer = refused.0; numbers = refused.1 })
