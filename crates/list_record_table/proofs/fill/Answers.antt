-- `fill` meets its contract: as many records are put as the answer for the table says.
use Rattle.std.proofs.Common.{length}
use Rattle.list_capacity.proofs.RoomLaws.{all_of}
use Rattle.list_record_table.proofs.fill.Goals as goal

pub returns : goal.returns
returns c = let all = all_of (length c.args.table.now) c.args.s.now in (c.answer-v.ensures.0, cc)
