-- A file has one record for each chunk; what is listed of a number below the count, at or above it, and in a refused file.
use Rattle.std.specs.Prelude.{ℕ, zero, suc, ◌+◌, ◌≤◌, ◌≡◌, refl, List, [], ◌∷◌, length, drop}
use Rattle.std.proofs.Common.{sym, ap, ◌∙◌, arith, length-append, drop-drop}
use Rattle.iff_chunk.specs.Chunks.{Chunks, none, leaf, group, Chunk, before, bytes, count}
use Rattle.iff_tree.specs.Judge.{Found, found, refused, read_file, verdict_of, check_of}
use Rattle.list_spec.specs.declared.Record.{Record}
use Rattle.list_spec.specs.Records.{records_from, records_of, pick_record, record_in, record_of, count_of}
use Rattle.iff_refusal.specs.declared.Reason.TheVariants.{NoRecord}
use Rattle.iff_refusal.specs.declared.Refusal.{Refusal}
use Rattle.iff_refusal.specs.Numbers.{refusing}
use Rattle.std.specs.Prelude.{Ok, Err}

-- there is one for each chunk
pub length_records : (l n p : ℕ) (F : Chunks) → length (records_from l n p F) ≡ count F
unfolding records_from count
length_records l n p none = refl
length_records l n p (leaf c d pd F) = ap suc (length_records l (n + 1) (p + 8 + length d + length pd) F) ∙ omega arith
length_records l n p (group c t G F) =
    let g = length_records (l + 1) (n + 1) (p + 12) G in
    let f = length_records l (n + 1 + count G) (p + 12 + length (bytes G)) F in
    simp length-append (omega arith)

pub pick_drop : (all : List Record) (n : ℕ) (r : Record) (rest : List Record) → drop n all ≡ r ∷ rest → pick_record all n ≡ Ok r
unfolding pick_record
pick_drop [] zero r rest e = cc
pick_drop [] (suc n) r rest e = cc
pick_drop (x ∷ all) zero r rest e = cc
pick_drop (x ∷ all) (suc n) r rest e = pick_drop all n r rest e

pub pick_beyond : (all : List Record) (n : ℕ) → length all ≤ n → pick_record all n ≡ refusing NoRecord 0
unfolding pick_record
pick_beyond [] n h = refl
pick_beyond (x ∷ all) zero h = absurd (omega arith)
pick_beyond (x ∷ all) (suc n) h = pick_beyond all n (omega arith)

pub drop_one : (all : List Record) (n : ℕ) (r : Record) (rest : List Record) → drop n all ≡ r ∷ rest → drop (n + 1) all ≡ rest
drop_one all n r rest e = sym (drop-drop 1 n all) ∙ ap (λ (l : List Record). drop 1 l) e

-- A refusal of the check is the listing's.
pub refused_record : (s : List ℕ) (i : ℕ) (r : Refusal) → Err r ≡ check_of s → Err r ≡ record_of s i
refused_record s i r v = go (read_file s) v
  where
    go : (f : Found Chunk) → Err r ≡ verdict_of s f → Err r ≡ record_in f i
    go (found c) y = let z : ◌≡◌ {A = ℕ} 0 1 = cc in absurd (omega arith)
    go (refused m q) y = cc

-- At or behind the count there is no record.
pub record_beyond : (s : List ℕ) (c : Chunk) (i : ℕ) → read_file s ≡ found c → count_of s ≤ i → record_of s i ≡ refusing NoRecord 0
record_beyond s c i e h =
    let n : count (before c none) ≤ i = rw e at h in
    rw e (pick_beyond (records_of c) i (omega (arith, length_records 1 0 0 (before c none))))
