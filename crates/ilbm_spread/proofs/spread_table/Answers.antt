-- `spread_table` meets its contract: the test over all entries passes.
use mathlib.Core.Path.{refl}
use Rattle.ilbm_spread.proofs.Entries.{is_spread}
use Rattle.ilbm_spread.proofs.spread_table.Goals as goal

pub returns : goal.returns
returns c = is_spread _ refl refl
