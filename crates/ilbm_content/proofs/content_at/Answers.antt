-- One pass over the FORM gathers its own chunks; each property is its own or the shared one.
use mathlib.Core.Path.{refl}
use Rattle.ilbm_content.proofs.Laws.{all_content}
use Rattle.ilbm_content.proofs.content_at.Goals as goal

pub returns : goal.returns
returns c =
    all_content _ _ _ _ _ _ c.gather-g.ensures
    c.property.ensures
    c.property-2.ensures
    c.property-3.ensures
    c.property-4.ensures
    c.property-5.ensures
    c.property-6.ensures
    refl
    c.part_at.ensures
