-- The refusal of a mode.
use Rattle.std.specs.Prelude.{ℕ, Result, Ok, Err}
use Rattle.iff_refusal.specs.declared.Reason.{Reason}
use Rattle.iff_refusal.specs.declared.Reason.TheVariants.{HoldPlanes}
use Rattle.iff_name.specs.Name.{pick}
use Rattle.ilbm_spec.specs.Colours.{wrong_planes}

-- 46, or none
abbrev pub mode_refusal : ℕ → ℕ → Result (Unit {0}) Reason
mode_refusal mode planes = pick (wrong_planes mode planes) (Err HoldPlanes) (Ok tt)
