-- The parts are put behind the answer, the place and the type.
use mathlib.Core.Path.{refl}
use Rattle.ilbm_spec.specs.Names.{ILBM}
use Rattle.ilbm_table_row.proofs.Rows.{row_put}
use Rattle.ilbm_table_row.proofs.put_row.Goals as goal

pub returns : goal.returns
returns c =
    row_put _ _ _ _ _ ILBM c.args.c _ refl c.requires c.put_three.ensures c.put_parts.ensures
