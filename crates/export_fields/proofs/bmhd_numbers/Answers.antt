-- The header of no BMHD is the one with every field 0.
use Rattle.ilbm_spec.specs.Pictures.{header_in}
use Rattle.export_fields.proofs.bmhd_numbers.Goals as goal

pub returns-in-Err : goal.returns-in-Err
unfolding header_in
returns-in-Err c = rw (c.in-Err.is, c.number.ensures, c.no_header.ensures)
