-- 9, 10, 11 and 12 are tested in that order; a size of 4 or more keeps the type inside the file when it is read.
use Rattle.iff_header.proofs.HeaderLaws.{refuse_9, refuse_10, refuse_11, refuse_12, group_sound}
use Rattle.iff_header.proofs.group_header.Goals as goal

pub returns-then-levels-eq0-clause-is : goal.returns-then-levels-eq0-clause-is
returns-then-levels-eq0-clause-is c = refuse_9 _ _ _ _ _ _ c.if-levels-eq0.true

pub returns-then-z-lt4-clause-is : goal.returns-then-z-lt4-clause-is
returns-then-z-lt4-clause-is c = refuse_10 _ _ _ _ _ _ c.if-levels-eq0.false c.if-z-lt4.true

pub returns-then-second_prop-clause-is : goal.returns-then-second_prop-clause-is
returns-then-second_prop-clause-is c = refuse_12 _ _ _ _ _ _ c.if-levels-eq0.false
    c.if-z-lt4.false c.name_at-t.ensures
    c.group_type.ensures c.if-group_type.true c.second_prop.ensures
    c.if-second_prop.true

pub returns-then-group_type-clause-is : goal.returns-then-group_type-clause-is
returns-then-group_type-clause-is c = group_sound _ _ _ _ _ _ c.if-levels-eq0.false
    c.if-z-lt4.false c.name_at-t.ensures
    c.group_type.ensures c.if-group_type.true c.second_prop.ensures
    c.if-second_prop.false

pub returns-clause-is : goal.returns-clause-is
returns-clause-is c = refuse_11 _ _ _ _ _ _ c.if-levels-eq0.false c.if-z-lt4.false
    c.name_at-t.ensures c.group_type.ensures c.if-group_type.false
