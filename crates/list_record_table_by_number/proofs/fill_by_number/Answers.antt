-- `fill_by_number` meets its contract: each turn puts the record of its number, and as many are put as the answer for the table says.
use Rattle.std.proofs.Common.{◌≡◌, length, arith}
use Rattle.list_capacity.proofs.RoomLaws.{all_of}
use Rattle.list_record_table.proofs.RowLaws.{starts, goes_on}
use Rattle.list_record_table_by_number.proofs.fill_by_number.Goals as goal

pub loop-i-init : goal.loop-i-init
loop-i-init c = starts c.args.s.now c.args.table.now

pub loop-i-preserved : goal.loop-i-preserved
loop-i-preserved c = rw c.loop-i.invariant (goes_on _ _ _ _ c.record_below.ensures)

pub returns : goal.returns
returns c =
    let all = all_of (length c.args.table.now) c.args.s.now in
    let end : c.loop-i.i ≡ c.to_put-n.result = omega arith in
    (c.answer-v.ensures.0, cc)
