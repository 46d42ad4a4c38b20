-- Before the first turn nothing is written, and each turn writes the record at the cursor.
use Rattle.std.proofs.Common.{rules}
use Rattle.print_program.proofs.WalkLaws.{start_located, start_below, start_written, appends_record}
use Rattle.print_program.proofs.write_records.Goals as goal

pub loop-cur-init : goal.loop-cur-init
loop-cur-init g c = search (start_located, start_below, start_written, rules)

pub loop-cur-preserved : goal.loop-cur-preserved
loop-cur-preserved g c = search (appends_record, rules)
