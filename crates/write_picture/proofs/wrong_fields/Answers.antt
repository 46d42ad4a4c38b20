-- Any test that holds makes the fields wrong; where none does, the frame's length decides.
use Rattle.write_picture.proofs.Refusals.{wrong_width, wrong_height, no_planes, many_planes, wrong_masking}
use Rattle.write_picture.proofs.Refusals.{wrong_compression, no_triples, long_palette, wrong_frame}
use Rattle.write_picture.proofs.wrong_fields.Goals as goal

pub returns-then-b-eq0 : goal.returns-then-b-eq0
returns-then-b-eq0 c = wrong_width _ _ _ c.if-b-eq0.true

pub returns-then-b-eq0-2 : goal.returns-then-b-eq0-2
returns-then-b-eq0-2 c = wrong_height _ _ _ c.if-b-eq0-2.true

pub returns-then-b-eq0-3 : goal.returns-then-b-eq0-3
returns-then-b-eq0-3 c = no_planes _ _ _ c.if-b-eq0-3.true

pub returns-then-b-gt8 : goal.returns-then-b-gt8
returns-then-b-gt8 c = many_planes _ _ _ c.if-b-gt8.true

pub returns-then-b-gt3 : goal.returns-then-b-gt3
returns-then-b-gt3 c = wrong_masking _ _ _ c.if-b-gt3.true

pub returns-then-b-gt1 : goal.returns-then-b-gt1
returns-then-b-gt1 c = wrong_compression _ _ _ c.if-b-gt1.true

pub returns-then-palette-ne0 : goal.returns-then-palette-ne0
returns-then-palette-ne0 c = no_triples _ _ _ c.if-palette-ne0.true

pub returns-then-palette-gt768 : goal.returns-then-palette-gt768
returns-then-palette-gt768 c = long_palette _ _ _ c.if-palette-gt768.true

pub returns : goal.returns
returns c =
    wrong_frame _ _ _ c.if-b-eq0.false c.if-b-eq0-2.false c.if-b-eq0-3.false c.if-b-gt8.false c.if-b-gt3.false c.if-b-gt1.false
    c.if-palette-ne0.false c.if-palette-gt768.false
