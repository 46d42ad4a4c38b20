-- There is a record of each number below the count, so no refusal is met there.
use Rattle.std.proofs.Common.{ℕ, zero, suc, ◌<◌, List, [], ◌∷◌, length, refl, arith}
use Rattle.std.specs.Prelude.{IsOk}
use Rattle.iff_chunk.specs.Chunks.{before, none}
use Rattle.iff_tree.specs.Judge.{Found, found, refused, read_file}
use Rattle.list_spec.specs.declared.Record.{Record}
use Rattle.list_spec.specs.Records.{records_of, pick_record, record_in, record_of, count_in, count_of}
use Rattle.list_spec.proofs.laws.Counts.{length_records}
use Rattle.iff_chunk.specs.Chunks.{Chunk}

picked : (all : List Record) (i : ℕ) → i < length all → IsOk (pick_record all i)
unfolding pick_record
picked [] i h = absurd (omega (arith, h))
picked (r ∷ rs) zero h = refl
picked (r ∷ rs) (suc i) h = picked rs i (omega (arith, h))

pub record_there : (s : List ℕ) (i : ℕ) → i < count_of s → IsOk (record_of s i)
record_there s i h = go (read_file s) h
  where
    go : (f : Found Chunk) → i < count_in f → IsOk (record_in f i)
    go (found c) b = picked (records_of c) i (omega (arith, b, length_records 1 0 0 (before c none)))
    go (refused j q) b = absurd (omega (arith, b))
