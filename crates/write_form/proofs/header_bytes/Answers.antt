-- Each field is two bytes or one; a signed field goes through its bits.
use mathlib.Core.Path.{◌∙◌}
use native.Mathlib.Omega.{arith}
use Rattle.write_form.specs.File.{header_bytes}
use Rattle.write_form.proofs.Signed.{two_bytes, signed_bytes}
use Rattle.write_form.proofs.header_bytes.Goals as goal

pub returns : goal.returns
unfolding header_bytes
returns c =
    let b = c.args.b in
    let f = c.well_formed.0.1.1.1.1 in
    let g = f.1.1.1.1.1.1.1.1.1 in
    rw (
      c.to_be_bytes.ensures ∙ two_bytes b.w (omega arith),
      c.to_be_bytes-2.ensures ∙ two_bytes b.h (omega arith),
      c.to_be_bytes-3.ensures ∙ signed_bytes b.x (record { sfits = f.0.1 }),
      c.to_be_bytes-4.ensures ∙ signed_bytes b.y (record { sfits = f.1.0.1 }),
      c.to_be_bytes-5.ensures ∙ two_bytes b.transparent (omega arith),
      c.to_be_bytes-6.ensures ∙ signed_bytes b.page_width (record { sfits = g.0.1 }),
      c.to_be_bytes-7.ensures ∙ signed_bytes b.page_height (record { sfits = g.1.0.1 }),
    )
