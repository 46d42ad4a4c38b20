-- The loop's invariant: the first j bytes of the row stand at their place.
use Prim.Native.Nat.{◌^◌}
use Rattle.write_plane_row.proofs.Planes.{Filled}
use Rattle.write_plane_row.proofs.plane_row.Given as goal

abbrev pub invariant-loop-j : goal.invariant-loop-j
invariant-loop-j l = Filled (2 ^ l.k) l.line l.initial.out l.out l.at l.j
