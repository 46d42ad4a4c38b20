-- The code asks of each of the four bytes what the definition asks of it.
use Rattle.std.proofs.Common.{arith, ◌∙◌}
use Rattle.iff_name.specs.Name.{type_bytes}
use Rattle.iff_name.proofs.Bytes.{four_bytes}
use Rattle.iff_name.proofs.Name.has_type_bytes.Goals as goal

pub returns : goal.returns
unfolding type_bytes
returns c =
    rw
    (c.type_byte.ensures, c.type_byte-2.ensures, c.type_byte-3.ensures, c.type_byte-4.ensures, c.to_be_bytes.ensures ∙ four_bytes c.args.self.code (omega arith))
