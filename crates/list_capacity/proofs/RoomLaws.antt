-- The answer by the check's verdict and the table's places m, and that as many records are put as the answer says.
use Prim.Native.Nat.{ℕ}
use mathlib.Core.Path.{◌≡◌, refl}
use mathlib.Core.Bool.{Bool, true, false}
use mathlib.Core.List.{List, []}
use native.Mathlib.Omega.{arith}
use lib.Dec.{leb}
use lib.ListN.{take}
use lib.Seq.{take_all}
use Rattle.iff_name.specs.Name.{pick}
use Rattle.iff_chunk.specs.Chunks.{Chunk, before, none, count}
use Rattle.iff_tree.specs.Judge.{Found, found, refused, read_file, verdict_of, check_of}
use Rattle.iff_grammar.specs.Words.{Bytes}
use Rattle.list_spec.specs.Records.{records_of}
use Rattle.list_spec.proofs.laws.Counts.{length_records}
use Rattle.list_cursor.proofs.laws.Walk.{located_first}
use Rattle.list_capacity.specs.Capacity.{records_in, records_for, answer_of, to_put, Ready}
use Rattle.iff_refusal.specs.declared.Reason.TheVariants.{TableTooShort}
use Rattle.iff_refusal.specs.Numbers.{refusing}
use Rattle.iff_tree.specs.declared.Accepted.{Accepted}
use Rattle.iff_tree.specs.Judge.{accepting}
use Rattle.std.specs.Prelude.{Ok}

module _ (s : List ℕ) (v : Accepted) (d : Ok v ≡ check_of s) where
  pub accepted_ready : Bytes s → Ready s v.chunks
  accepted_ready b _ = located_first s b v d

-- a table that is not too short gets every record, any other none
pub all_of : (m : ℕ) (s : List ℕ) → take (to_put (answer_of m (check_of s))) (records_in (read_file s)) ≡ records_for m (read_file s)
all_of m s = go (read_file s)
  where
    picked : (c : Chunk) (a t : ℕ) (y : Bool) → take (to_put (pick y (accepting (count (before c none)) a t) (refusing TableTooShort 0))) (records_of c) ≡ pick y (records_of c) []
    picked c a t true = take_all (count (before c none)) (records_of c) (omega (arith, length_records 1 0 0 (before c none)))
    picked c a t false = refl

    go : (x : Found Chunk) → take (to_put (answer_of m (verdict_of s x))) (records_in x) ≡ records_for m x
    go (found c) = picked c _ _ (leb (count (before c none)) m)
    go (refused k p) = refl
