-- `data` meets its contract: the part of the file that the extent names is the data, and it lies where the extent says.
use Rattle.std.proofs.Common.{◌∙◌}
use Rattle.list_data.proofs.DataLaws.{part_data}
use Rattle.list_data.proofs.data.Goals as goal

pub returns-in-Ok : goal.returns-in-Ok
returns-in-Ok c =
    let same = c.part_of.ensures.0 ∙ part_data _ _ _ c.in-Ok.ensures.lies in
    rw (← c.in-Ok.ensures.is) (cc, c.part_of.ensures.1)
