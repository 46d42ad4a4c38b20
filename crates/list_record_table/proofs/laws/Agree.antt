-- The table of records, the table of columns and the record by its number agree.
use Rattle.std.specs.Prelude.{ℕ, zero, suc, ◌≤◌, ◌<◌, ◌≡◌, refl, Bool, true, false, List, [], ◌∷◌, map, leb, length, get_or}
use Rattle.std.proofs.Common.{ap, arith, leb→le}
use Rattle.iff_name.specs.Name.{pick}
use Rattle.iff_chunk.specs.Chunks.{Chunk, before, none, count}
use Rattle.iff_tree.specs.Judge.{Found, found, refused, read_file, verdict_of, check_of}
use Rattle.list_spec.specs.declared.Record.{Record}
use Rattle.list_spec.specs.Records.{records_of, pick_record, record_in, record_of}
use Rattle.list_spec.proofs.laws.Counts.{length_records}
use Rattle.list_capacity.specs.Capacity.{records_for, answer_of, to_put}
use Rattle.list_columns.specs.Columns.{column}
use Rattle.list_record_table.specs.Rows.{placed}
use Rattle.iff_refusal.specs.declared.Reason.TheVariants.{TableTooShort}
use Rattle.iff_refusal.specs.declared.Reason.{Reason}
use Rattle.iff_refusal.specs.Numbers.{refusing}
use Rattle.iff_tree.specs.Judge.{accepting}
use Rattle.std.specs.Prelude.{Ok}

-- Each column holds a field of each place of the table, if it did so before.
pub columns_agree : (f : Record → ℕ) (rs old : List Record) → column f rs (map f old) ≡ map f (placed rs old)
unfolding column placed
columns_agree f [] old = refl
columns_agree f (r ∷ rs) [] = refl
columns_agree f (r ∷ rs) (x ∷ old) = ap (λ (l : List ℕ). f r ∷ l) (columns_agree f rs old)

picked : (rs old : List Record) (i : ℕ) (d : Record) → i < length rs → i < length old → pick_record rs i ≡ Ok (get_or (placed rs old) i d)
unfolding placed pick_record
picked [] old i d h k = absurd (omega (arith, h))
picked (r ∷ rs) [] i d h k = absurd (omega (arith, k))
picked (r ∷ rs) (x ∷ old) zero d h k = refl
picked (r ∷ rs) (x ∷ old) (suc i) d h k = picked rs old i d (omega (arith, h)) (omega (arith, k))

-- After acceptance place i holds the record that the call by number gives for i.
pub numbers_agree :
    (s : List ℕ) (old : List Record) (n e t : ℕ) → answer_of (length old) (check_of s) ≡ accepting n e t → (i : ℕ) (d : Record) → i < n →
    record_of s i ≡ Ok (get_or (placed (records_for (length old) (read_file s)) old) i d)
numbers_agree s old n e t a i d h = go (read_file s) a
  where
    here : (c : Chunk) (p q : ℕ) (y : Bool) → leb (count (before c none)) (length old) ≡ y → pick y (accepting (count (before c none)) p q) (refusing TableTooShort 0) ≡ accepting n e t →
        pick_record (records_of c) i ≡ Ok (get_or (placed (pick y (records_of c) []) old) i d)
    here c p q true l v =
        let m : count (before c none) ≡ n = ap to_put v in
        let k : count (before c none) ≤ length old = leb→le (count (before c none)) (length old) (rw l tt) in
        picked (records_of c) old i d (omega (arith, length_records 1 0 0 (before c none))) (omega arith)
    here c p q false l v = let z : ◌≡◌ {A = ℕ} 0 1 = cc in absurd (omega arith)

    go : (x : Found Chunk) → answer_of (length old) (verdict_of s x) ≡ accepting n e t → record_in x i ≡ Ok (get_or (placed (records_for (length old) x) old) i d)
    go (found c) v = here c _ _ (leb (count (before c none)) (length old)) refl v
    go (refused k p) v = let z : ◌≡◌ {A = ℕ} 0 1 = cc in absurd (omega arith)

-- Places behind the records are as found, and after any refusal every place is.
pub beyond : (rs old : List Record) (i : ℕ) (d : Record) → length rs ≤ i → get_or (placed rs old) i d ≡ get_or old i d
unfolding placed
beyond [] old i d h = refl
beyond (r ∷ rs) [] i d h = refl
beyond (r ∷ rs) (x ∷ old) zero d h = absurd (omega (arith, h))
beyond (r ∷ rs) (x ∷ old) (suc i) d h = beyond rs old i d (omega (arith, h))

pub refusal_keeps : (s : List ℕ) (old : List Record) (k : Reason) (p : ℕ) → answer_of (length old) (check_of s) ≡ refusing k p → placed (records_for (length old) (read_file s)) old ≡ old
unfolding placed
refusal_keeps s old k p a = go (read_file s) a
  where
    here : (c : Chunk) (n e t : ℕ) (y : Bool) → pick y (accepting n e t) (refusing TableTooShort 0) ≡ refusing k p → placed (pick y (records_of c) []) old ≡ old
    here c n e t true v = let z : ◌≡◌ {A = ℕ} 0 1 = cc in absurd (omega arith)
    here c n e t false v = refl

    go : (x : Found Chunk) → answer_of (length old) (verdict_of s x) ≡ refusing k p → placed (records_for (length old) x) old ≡ old
    go (found c) v = here c _ _ _ (leb (count (before c none)) (length old)) v
    go (refused j q) v = refl
