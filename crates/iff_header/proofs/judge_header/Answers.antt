-- 4, 5, 3 and 6 are tested in that order; 8 bytes up to the end keep the name and the size inside when they are read.
use Rattle.iff_header.proofs.HeaderLaws.{refuse_4, refuse_3, refuse_6, refuse_5, well_named}
use Rattle.iff_header.proofs.judge_header.Goals as goal

pub returns-then-e-p-lt8-clause-is : goal.returns-then-e-p-lt8-clause-is
returns-then-e-p-lt8-clause-is c = refuse_4 _ _ _ _ _ _ c.if-e-p-lt8.true

pub returns-then-is_version-clause-is : goal.returns-then-is_version-clause-is
returns-then-is_version-clause-is c = refuse_3 _ _ _ _ _ _ c.if-e-p-lt8.false c.name_at-n.ensures c.is_well_formed.ensures
    c.if-is_well_formed.true c.is_version.ensures c.if-is_version.true

pub returns-then-misplaced-clause-is : goal.returns-then-misplaced-clause-is
returns-then-misplaced-clause-is c = refuse_6 _ _ _ _ _ _ c.if-e-p-lt8.false c.name_at-n.ensures c.is_well_formed.ensures
    c.if-is_well_formed.true c.is_version.ensures c.if-is_version.false c.misplaced.ensures
    c.if-misplaced.true

pub returns-then-is_well_formed-clause-is : goal.returns-then-is_well_formed-clause-is
returns-then-is_well_formed-clause-is c = well_named _ _ _ _ _ _ c.if-e-p-lt8.false c.name_at-n.ensures c.is_well_formed.ensures
    c.if-is_well_formed.true c.is_version.ensures c.if-is_version.false c.misplaced.ensures
    c.if-misplaced.false c.kind-k.ensures c.sized_header.ensures.is

pub returns-clause-is : goal.returns-clause-is
returns-clause-is c = refuse_5 _ _ _ _ _ _ c.if-e-p-lt8.false c.name_at-n.ensures c.is_well_formed.ensures
    c.if-is_well_formed.false
