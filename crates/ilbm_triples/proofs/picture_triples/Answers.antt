-- The CAMG that counts has four bytes and the CMAP lies inside the file; what the palette gives is the picture's.
use borrow.Author.Rules.{rules}
use Rattle.ilbm_properties.proofs.Laws.{camg_right}
use Rattle.ilbm_triples.proofs.Pictures.{triples_are}
use Rattle.ilbm_triples.proofs.picture_triples.Goals as goal

pub view_mode-mode-requires : goal.view_mode-mode-requires
view_mode-mode-requires c = search (camg_right, rules)

pub returns : goal.returns
returns c =
    let s = c.args in
    triples_are _ _ s.header _ _ _ _ c.view_mode-mode.ensures c.part_or_default-palette.ensures.0 c.palette_triples.ensures
