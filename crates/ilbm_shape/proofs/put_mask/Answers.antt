-- `put_mask` meets its contract: what is gathered from behind the planes' rows is the mask row.
use Rattle.ilbm_shape.proofs.Shapes.{mask_gathered}
use Rattle.ilbm_shape.proofs.put_mask.Goals as goal

pub returns : goal.returns
returns c = mask_gathered _ _ _ _ _ c.gather.ensures
