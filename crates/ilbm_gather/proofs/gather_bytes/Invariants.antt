-- `gather_bytes` meets its contract. The loop's invariant: the pixels of the first j bytes have their colours.
use Prim.Native.Nat.{◌*◌}
use Rattle.ilbm_gather.specs.Buffer.{rows_in}
use Rattle.ilbm_gather.proofs.Colours.{Gathered}
use Rattle.ilbm_gather.proofs.gather_bytes.Given as goal

abbrev pub invariant-loop-j : goal.invariant-loop-j
invariant-loop-j l = Gathered (rows_in l.n l.planes 0 l.buffer) (8 * l.j) l.row
