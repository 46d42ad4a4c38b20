-- What the check accepts is sound, because the elements of a slice are bytes.
use Rattle.std.proofs.Common.{arith}
use Rattle.iff_copy.proofs.Laws.{accepted_file}
use Rattle.iff_copy.proofs.clean_copy.Goals as goal

pub copy_sound-requires : goal.copy_sound-requires
copy_sound-requires c = accepted_file _ _ c.check.ensures (λ i. omega (arith, c.type_inv.s i)) _ c.in_ok-accepted.was
