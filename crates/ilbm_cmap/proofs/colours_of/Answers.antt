-- A picture that is seen has its CMAP as a part, or none.
use Rattle.ilbm_cmap.proofs.PaletteLaws.{colours_seen}
use Rattle.ilbm_cmap.proofs.colours_of.Goals as goal

pub returns-in-Ok : goal.returns-in-Ok
returns-in-Ok c = colours_seen _ _ _ c.view_picture.ensures _ _ c.in-Ok.is
