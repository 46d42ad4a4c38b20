-- `pack_into` meets its contract. The loop's invariant: the bytes written, and what is left of the row, packed, are the packed row, and the
-- bytes after it stand; the measure is what is left of the row.
use Prim.Native.Nat.{◌+◌, ◌-◌, ◌≤◌}
use mathlib.Core.Path.{◌≡◌}
use mathlib.Core.List.{◌++◌}
use lib.ListN.{length, drop, take}
use Rattle.byterun_pack.specs.Pack.{packed}
use Rattle.byterun_pack.proofs.pack_into.Given as goal

abbrev pub invariant-loop-from : goal.invariant-loop-from
invariant-loop-from l =
    (l.from ≤ length l.row) × (length l.out ≡ length l.initial.out) × (l.at + length (packed (drop l.from l.row)) ≡ length (packed l.row))
    × (take l.at l.out ++ packed (drop l.from l.row) ≡ packed l.row) × (drop (length (packed l.row)) l.out ≡ drop (length (packed l.row)) l.initial.out)

abbrev pub decreases-loop-from : goal.decreases-loop-from
decreases-loop-from l = length l.row - l.from
