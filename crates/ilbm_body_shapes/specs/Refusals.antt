-- 28 and 44 as one check, by the definitions that give them.
use Rattle.std.specs.Prelude.{ℕ, ◌≡◌, Bool, Result}
use Rattle.iff_refusal.specs.declared.Reason.{Reason}
use Rattle.ilbm_spec.specs.Pictures.{passing}
use Rattle.ilbm_spec.specs.Rows.{Read, right_length}
use Rattle.ilbm_spec.specs.Shapes.{Shaped, shape_asked}

-- whatever is read, this refuses it or passes as the lengths and the masking say
pub record Refuses (refusal : Result (Unit {0}) Reason) (right : Bool) (masking : ℕ) : Type 0 where
  pub settles : (rows : Read Shaped) → passing refusal rows ≡ right_length right (shape_asked masking rows)
