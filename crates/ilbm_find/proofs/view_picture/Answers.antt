-- What the check accepts is sound, so that the picture can be looked for; what it refuses is passed on.
use mathlib.Core.Path.{sym, ◌∙◌}
use native.Mathlib.Omega.{arith}
use borrow.Author.Rules.{rules}
use Rattle.std.proofs.lemmas.Result.{err_from_is_err_and}
use Rattle.iff_walk.specs.laws.Coming.{accepted_sound}
use Rattle.ilbm_find.proofs.ViewLaws.{view_refused}
use Rattle.ilbm_find.proofs.view_picture.Goals as goal

pub view_sound-requires : goal.view_sound-requires
view_sound-requires c = accepted_sound _ (λ i. omega (arith, c.type_inv.s i)) _ (sym c.check.ensures ∙ c.in_ok-accepted.was)

pub returns-in_err-accepted : goal.returns-in_err-accepted
returns-in_err-accepted c =
    let p = err_from_is_err_and c.from_residual.result c.from_residual.ensures.1 in
    rw (p.1, p.2) (search (view_refused, rules))
