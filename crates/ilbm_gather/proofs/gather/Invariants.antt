-- `gather` meets its contract. The loop's invariant: the first x pixels have their colours.
use Rattle.ilbm_gather.specs.Buffer.{rows_in}
use Rattle.ilbm_gather.proofs.Colours.{Gathered}
use Rattle.ilbm_gather.proofs.gather.Given as goal

abbrev pub invariant-loop-x : goal.invariant-loop-x
invariant-loop-x l = Gathered (rows_in l.n l.planes 0 l.buffer) l.x l.row
