-- `fill_table` meets its contract: as many records are put as the answer for the shortest column says.
use Rattle.list_capacity.proofs.RoomLaws.{all_of}
use Rattle.list_column_table.proofs.fill_table.Goals as goal

pub returns : goal.returns
returns c =
    let all = all_of c.shortest.result c.args.s.now in
    record { answer = cc; numbers_are = cc; levels_are = cc; kinds_are = cc; names_are = cc; places_are = cc; sizes_are = cc }
