-- `colour_at` meets its contract. The loop's invariant: colour is the colour number of the planes from k on.
use Rattle.ilbm_gather.proofs.Colours.{Coloured}
use Rattle.ilbm_gather.proofs.colour_at.Given as goal

abbrev pub invariant-loop-k : goal.invariant-loop-k
invariant-loop-k l = Coloured l.buffer l.n l.planes l.x l.k l.colour
