-- The reader gives the record of each number in turn, and then the end for ever.
use Rattle.std.specs.Prelude.{ℕ, zero, suc, ◌≤◌, ◌<◌, ◌≡◌, refl, Bool, true, false, List, [], ◌∷◌, leb, length, get_or}
use Rattle.std.proofs.Common.{sym, ap, ◌∙◌, arith, le-leb, leb-true, leb-false}
use Rattle.std.proofs.lemmas.Bool.{lt-leb}
use Rattle.iff_name.specs.Name.{pick}
use Rattle.iff_chunk.specs.Chunks.{Chunk, before, none, count}
use Rattle.iff_tree.specs.Judge.{Found, found, refused, read_file, verdict_of, check_of}
use Rattle.iff_grammar.specs.Words.{Bytes}
use Rattle.list_spec.specs.declared.Record.{Record}
use Rattle.list_spec.specs.Records.{records_of, pick_record, record_in, record_of, count_in, count_of}
use Rattle.list_spec.proofs.laws.Counts.{length_records, refused_record, record_beyond}
use Rattle.list_cursor.specs.declared.Cursor.{Cursor}
use Rattle.list_cursor.specs.Cursors.{record_at, onward_at}
use Rattle.list_cursor.proofs.laws.Walk.{located_record, located_place, located_first, located_onward, onward_number}
use Rattle.list_checked_cursor.specs.Checked.{lies_at, read_at, moved_at}
use Rattle.list_checked_cursor.specs.laws.Checked.{located_lies}
use Rattle.list_capacity.specs.Capacity.{records_for}
use Rattle.list_columns.specs.Columns.{column}
use Rattle.list_reader.specs.declared.Place.{Place}
use Rattle.list_reader.specs.Reading.{chunks_in, step_in, step_at, place_after}
use Rattle.list_reader.specs.Agree.{place_before, Stood, Agrees}
use Rattle.iff_refusal.specs.declared.Reason.TheVariants.{NoRecord}
use Rattle.iff_refusal.specs.declared.Refusal.{Refusal}
use Rattle.iff_refusal.specs.Numbers.{Answer, refusing}
use Rattle.iff_tree.specs.declared.Accepted.{Accepted}
use Rattle.iff_tree.specs.Judge.{accepting}
use Rattle.std.specs.Prelude.{Ok, Err, Some, None}

module _ (s : List ℕ) (i : ℕ) (p : Place) (h : Stood s i p) where
  stood_next : Stood s (suc i) (place_after s p)
  stood_next = go (leb p.chunks p.cursor.number) refl
    where
      go : (t : Bool) → leb p.chunks p.cursor.number ≡ t → Stood s (suc i) (pick t p (record { cursor = moved_at s p.cursor; chunks = p.chunks }))
      go true e =
          let last = leb-true p.chunks p.cursor.number e in
          record { located = h.located; counted = h.counted; number = omega (arith, h.counted, h.number) }
      go false e =
          let more : p.cursor.number < count_of s = omega (arith, leb-false p.chunks p.cursor.number e, h.counted) in
          rw (located_lies s p.cursor h.located more)
          (record {
            located = located_onward s p.cursor h.located more;
            counted = h.counted;
            number = onward_number s p.cursor ∙ omega (arith, h.number);
          })

  stood_gives : i < count_of s → step_at s p ≡ step_in (record_of s i)
  stood_gives more =
      let at : p.cursor.number ≡ i = omega (arith, h.number) in
      let below : p.cursor.number < count_of s = omega arith in
      let within : p.cursor.number < p.chunks = omega (arith, h.counted) in
      rw (lt-leb p.chunks p.cursor.number within, located_lies s p.cursor h.located below)
      (ap step_in (sym (located_record s p.cursor h.located below) ∙ ap (record_of s) at))

  stood_ends : count_of s ≤ i → step_at s p ≡ None
  stood_ends last =
      let behind : p.chunks ≤ p.cursor.number = omega (arith, h.counted, h.number) in
      rw (le-leb p.chunks p.cursor.number behind)

-- accepted files

stood : (s : List ℕ) → Bytes s → (v : Accepted) → Ok v ≡ check_of s → (i : ℕ) → Stood s i (place_before s i)
unfolding place_before
stood s b v d zero = let f = located_first s b v d in record { located = f.0; counted = sym (ap chunks_in d) ∙ f.1; number = omega arith }
stood s b v d (suc i) = stood_next s i (place_before s i) (stood s b v d i)

-- behind the last record: "14 if there is none", and the end
pub ends_behind :
    (s : List ℕ) → Bytes s → (n e t i : ℕ) → accepting n e t ≡ check_of s → count_of s ≤ i → (record_of s i ≡ refusing NoRecord 0) × (step_at s (place_before s i) ≡ None)
ends_behind s b n e t i d last =
    let h = stood s b _ d i in
    (record_beyond s h.located.tree i h.located.accepted last, stood_ends s i (place_before s i) h last)

-- refused files: "such a reader gives only "end""

chunks_stay : (s : List ℕ) (p : Place) → (place_after s p).chunks ≡ p.chunks
chunks_stay s p = go (leb p.chunks p.cursor.number)
  where
    go : (t : Bool) → (pick t p (record { cursor = moved_at s p.cursor; chunks = p.chunks })).chunks ≡ p.chunks
    go true = refl
    go false = refl

none_read : (s : List ℕ) (r : Refusal) → Err r ≡ check_of s → (i : ℕ) → (place_before s i).chunks ≡ 0
unfolding place_before
none_read s r d zero = sym (ap chunks_in d)
none_read s r d (suc i) = chunks_stay s (place_before s i) ∙ none_read s r d i

pub refused_ends : (s : List ℕ) (r : Refusal) (i : ℕ) → Err r ≡ check_of s → step_at s (place_before s i) ≡ None
refused_ends s r i d =
    let none : (place_before s i).chunks ≤ (place_before s i).cursor.number = omega (arith, none_read s r d i) in
    rw (le-leb (place_before s i).chunks (place_before s i).cursor.number none)

-- After i steps the reader of any file, a list of bytes, gives record i, and the end where there is none.
pub reader_gives : (s : List ℕ) → Bytes s → (i : ℕ) → step_at s (place_before s i) ≡ step_in (record_of s i)
reader_gives s b i = go (check_of s) refl
  where
    by_count : (t : Bool) → leb (count_of s) i ≡ t → (v : Accepted) → Ok v ≡ check_of s → step_at s (place_before s i) ≡ step_in (record_of s i)
    by_count true j v d = let h = ends_behind s b v.chunks v.end v.trailing i d (leb-true (count_of s) i j) in h.1 ∙ sym (ap step_in h.0)
    by_count false j v d = stood_gives s i (place_before s i) (stood s b v d i) (leb-false (count_of s) i j)

    go : (a : Answer Accepted) → a ≡ check_of s → step_at s (place_before s i) ≡ step_in (record_of s i)
    go (Ok v) d = by_count (leb (count_of s) i) refl v d
    go (Err r) d = refused_ends s r i d ∙ ap step_in (refused_record s i r d)

-- "then "end" for ever": at the end the place stays
pub end_stays : (s : List ℕ) (p : Place) → step_at s p ≡ None → place_after s p ≡ p
end_stays s p = by_count (leb p.chunks p.cursor.number)
  where
    by-chunk :
        (b : Bool) → step_in (pick b (Ok (record_at s p.cursor.level p.cursor.number p.cursor.place)) (refusing NoRecord 0)) ≡ None →
        (c : Cursor) → record { cursor = pick b c p.cursor; chunks = p.chunks } ≡ p
    by-chunk true e c = let z : ◌≡◌ {A = ℕ} 0 1 = cc in absurd (omega arith)
    by-chunk false e c = refl

    by_count : (t : Bool) → pick t None (step_in (read_at s p.cursor)) ≡ None → pick t p (record { cursor = moved_at s p.cursor; chunks = p.chunks }) ≡ p
    by_count true e = refl
    by_count false e = by-chunk (lies_at s p.cursor) e (onward_at s p.cursor)

-- as many as the file has chunks

picked_below : (all : List Record) (i : ℕ) (r : Record) → step_in (pick_record all i) ≡ Some r → i < length all
unfolding pick_record
picked_below [] i r e = let z : ◌≡◌ {A = ℕ} 0 1 = cc in absurd (omega arith)
picked_below (x ∷ xs) zero r e = omega arith
picked_below (x ∷ xs) (suc i) r e = let h = picked_below xs i r e in omega arith

picked_behind : (all : List Record) (i : ℕ) → step_in (pick_record all i) ≡ None → length all ≤ i
unfolding pick_record
picked_behind [] i e = omega arith
picked_behind (x ∷ xs) zero e = let z : ◌≡◌ {A = ℕ} 0 1 = cc in absurd (omega arith)
picked_behind (x ∷ xs) (suc i) e = let h = picked_behind xs i e in omega arith

pub given_below : (s : List ℕ) → Bytes s → (i : ℕ) (r : Record) → step_at s (place_before s i) ≡ Some r → i < count_of s
given_below s b i r e = go (read_file s) (sym (reader_gives s b i) ∙ e)
  where
    go : (x : Found Chunk) → step_in (record_in x i) ≡ Some r → i < count_in x
    go (found c) y = omega (arith, picked_below (records_of c) i r y, length_records 1 0 0 (before c none))
    go (refused k p) y = let z : ◌≡◌ {A = ℕ} 0 1 = cc in absurd (omega arith)

pub ended_behind : (s : List ℕ) → Bytes s → (i : ℕ) → step_at s (place_before s i) ≡ None → count_of s ≤ i
ended_behind s b i e = go (read_file s) (sym (reader_gives s b i) ∙ e)
  where
    go : (x : Found Chunk) → step_in (record_in x i) ≡ None → count_in x ≤ i
    go (found c) y = omega (arith, picked_behind (records_of c) i y, length_records 1 0 0 (before c none))
    go (refused k p) y = omega arith

-- the numbers of records are small
pub number_small : (s : List ℕ) → Bytes s → (i : ℕ) → i < count_of s → i < 16777216
number_small s b i more = go (check_of s) refl
  where
    go : (a : Answer Accepted) → a ≡ check_of s → i < 16777216
    go (Ok v) d =
        let h = stood s b v d i in
        let p = (place_before s i).cursor in
        let at : p.number ≡ i = omega (arith, h.number) in
        let below : p.number < count_of s = omega arith in
        omega (arith, h.located.stands.low, located_place s p h.located below)
    go (Err r) d = absurd (none-there (read_file s) d more)
      where
        none-there : (x : Found Chunk) → Err r ≡ verdict_of s x → i < count_in x → ⊥
        none-there (found c) y h = let z : ◌≡◌ {A = ℕ} 0 1 = cc in omega arith
        none-there (refused j q) y h = omega arith

-- a row of a filled table

cell : (f : Record → ℕ) (all : List Record) (i : ℕ) (r : Record) (old : List ℕ) → pick_record all i ≡ Ok r → length all ≤ length old → get_or (column f all old) i 0 ≡ f r
unfolding pick_record column
cell f [] i r old e h = let z : ◌≡◌ {A = ℕ} 0 1 = cc in absurd (omega arith)
cell f (x ∷ xs) i r [] e h = absurd (omega arith)
cell f (x ∷ xs) zero r (y ∷ old) e h = let k : x ≡ r = cc in ap f k
cell f (x ∷ xs) (suc i) r (y ∷ old) e h = cell f xs i r old e (omega arith)

row :
    (s : List ℕ) (i : ℕ) (r : Record) → record_of s i ≡ Ok r → (f : Record → ℕ) (m : ℕ) (old : List ℕ) → count_of s ≤ m → m ≤ length old →
    get_or (column f (records_for m (read_file s)) old) i 0 ≡ f r
row s i r e f m old h k = go (read_file s) e h
  where
    go : (x : Found Chunk) → record_in x i ≡ Ok r → count_in x ≤ m → get_or (column f (records_for m x) old) i 0 ≡ f r
    go (found c) y z =
        rw (le-leb (count (before c none)) m z)
        (cell f (records_of c) i r old y (omega (arith, length_records 1 0 0 (before c none))))
    go (refused j p) y z = let w : ◌≡◌ {A = ℕ} 0 1 = cc in absurd (omega arith)

pub agree : (s : List ℕ) → Bytes s → (i : ℕ) (r : Record) → record_of s i ≡ Ok r → Agrees s i r
agree s b i r e = record {
  by_reader = reader_gives s b i ∙ ap step_in e;
  by_table = row s i r e;
}
