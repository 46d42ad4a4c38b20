-- One law for each way through the functions that ask for a record by its number, in the form in which the code's needs have it.
use Prim.Native.Nat.{ℕ, ◌≤◌, ◌<◌}
use mathlib.Core.Path.{◌≡◌, sym}
use mathlib.Core.List.{List}
use native.Mathlib.Omega.{arith}
use Rattle.iff_tree.specs.Judge.{check_of}
use Rattle.iff_grammar.specs.Words.{Bytes}
use Rattle.list_spec.specs.Records.{record_of, count_of}
use Rattle.list_spec.proofs.laws.Counts.{record_beyond}
use Rattle.list_cursor.specs.Cursors.{first_cursor, Located}
use Rattle.list_cursor.proofs.laws.Walk.{located_first}
use Rattle.iff_refusal.specs.declared.Reason.TheVariants.{NoRecord}
use Rattle.iff_refusal.specs.Numbers.{refusing}
use Rattle.iff_tree.specs.declared.Accepted.{Accepted}
use Rattle.std.specs.Prelude.{Ok}

-- by the acceptance of the check

module _ (s : List ℕ) (b : Bytes s) (v : Accepted) (d : Ok v ≡ check_of s) where
  pub accepted_start : Located s first_cursor
  accepted_start = (located_first s b v d).0

  pub accepted_more : (i : ℕ) → i < v.chunks → i < count_of s
  accepted_more i h = omega (arith, (located_first s b v d).1)

  pub accepted_beyond : (i : ℕ) → v.chunks ≤ i → refusing NoRecord 0 ≡ record_of s i
  accepted_beyond i h = let f = located_first s b v d in sym (record_beyond s f.0.tree i f.0.accepted (omega arith))

pub ruleset record_laws = (accepted_start, accepted_more, accepted_beyond)
