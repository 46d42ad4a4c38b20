-- The header of no BMHD is the one with every field 0.
use Rattle.ilbm_spec.specs.Pictures.{header_in}
use Rattle.export_property_numbers.proofs.header_numbers.Goals as goal

pub returns-in-Err : goal.returns-in-Err
unfolding header_in
returns-in-Err c = rw c.in-Err.is (rw c.no_header.ensures at c.refused_with.ensures)
