-- `put_records` meets its contract: a turn puts the next record at its place.
use Rattle.std.proofs.Common.{refl, arith}
use Rattle.list_record_table.proofs.RowLaws.{starts, goes_on}
use Rattle.list_record_table.proofs.put_records.Goals as goal

pub loop-i-init : goal.loop-i-init
loop-i-init c = rw c.first-cur.ensures (record { at = λ h. (c.requires.0 h).0; numbered = refl; put = starts c.args.s.now c.args.table.now })

pub loop-i-preserved : goal.loop-i-preserved
loop-i-preserved c = grind (arith, goes_on)
