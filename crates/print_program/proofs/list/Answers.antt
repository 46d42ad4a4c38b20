-- In an accepted file the first cursor is located, and the check has counted the records; a refused one has none.
use Rattle.std.proofs.Common.{arith, rules}
use Rattle.std.proofs.lemmas.Grind.{common_steps}
use Rattle.print_program.proofs.WalkLaws.{accepted_start, accepted_count, accepted_printed, refused_printed}
use Rattle.print_program.proofs.list.Goals as goal

pub write_records-requires : goal.write_records-requires
write_records-requires g c = grind (arith, common_steps, accepted_start, accepted_count)

pub returns-in-Ok : goal.returns-in-Ok
returns-in-Ok g c = search (accepted_printed, rules)

pub returns-in-Err : goal.returns-in-Err
returns-in-Err g c = search (refused_printed, rules)
