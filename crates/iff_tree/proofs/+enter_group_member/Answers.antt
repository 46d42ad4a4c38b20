-- The walk over the bytes tells what `chunk_at` and `run` find, by the laws of WalkLaws.antt: one for each way through the code.
use Rattle.std.proofs.Common.{◌-◌, rules, refl}
use Rattle.iff_tree.specs.Judge.{run}
use Rattle.iff_tree.proofs.WalkLaws.{walk_laws}
use Rattle.iff_tree.proofs.WayLaws.{way_laws}
use Rattle.iff_tree.proofs.+enter_group_member.Goals as goal

pub enter-returns-clause-is : goal.enter-returns-clause-is
enter-returns-clause-is t c = search (c.in_ok-count.was, walk_laws, rules)

pub group-loop-p-init : goal.group-loop-p-init
group-loop-p-init t c = let a = c.args in (search rules, search rules, search (way_laws, rules), (a.e - a.from, (search rules, refl)))

pub group-member-requires : goal.group-member-requires
group-member-requires t c = search (walk_laws, way_laws, rules)

pub group-loop-p-preserved : goal.group-loop-p-preserved
group-loop-p-preserved t c = search (c.in_ok-at.was, walk_laws, way_laws, rules)

pub group-returns-in_err-at-clause-is : goal.group-returns-in_err-at-clause-is
unfolding run
group-returns-in_err-at-clause-is t c = search (walk_laws, rules)

pub group-returns-clause-is : goal.group-returns-clause-is
group-returns-clause-is t c = search (walk_laws, rules)

pub member-returns-in-Err-clause-is : goal.member-returns-in-Err-clause-is
member-returns-in-Err-clause-is t c = search (walk_laws, rules)

pub member-returns-in-Ok-Leaf-clause-is : goal.member-returns-in-Ok-Leaf-clause-is
member-returns-in-Ok-Leaf-clause-is t c = search (walk_laws, rules)

pub member-returns-in-Ok-Group-clause-is : goal.member-returns-in-Ok-Group-clause-is
member-returns-in-Ok-Group-clause-is t c = search (walk_laws, rules)
