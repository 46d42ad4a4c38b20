-- The code asks of each byte, and of each two neighbours, what the definition asks, and joins the answers as it does.
use Rattle.std.proofs.Common.{arith, ◌∙◌}
use Rattle.iff_name.specs.Name.{well_formed}
use Rattle.iff_name.proofs.Bytes.{four_bytes}
use Rattle.iff_name.proofs.Name.is_well_formed.Goals as goal

pub returns : goal.returns
unfolding well_formed
returns c =
    rw (
      c.printable.ensures,
      c.printable-2.ensures,
      c.printable-3.ensures,
      c.printable-4.ensures,
      c.space_then.ensures,
      c.space_then-2.ensures,
      c.space_then-3.ensures,
      c.to_be_bytes.ensures ∙ four_bytes c.args.self.code (omega arith),
    )
