-- Each field of an empty header is read as 0.
use mathlib.Core.Path.{refl}
use Rattle.ilbm_spec.specs.Pictures.{header_in}
use Rattle.ilbm_fields.proofs.no_header.Goals as goal

pub returns : goal.returns
unfolding header_in
returns c = refl
