-- A walk over an accepted file starts at its outermost chunk. What is printed for a file are the lines of its answer and those of its
-- records, of which a refused one has none.
use Rattle.std.proofs.Common.{◌≡◌, ℕ, zero, suc, ◌+◌, ◌≤◌, List, [], ◌++◌, Option, refl, sym, ap, ◌∙◌, append_assoc, append-nil, subst, arith}
use Rattle.std.specs.Io.KnownBytes.{Appends}
use Rattle.iff_tree.specs.Judge.{Found, found, refused, read_file, verdict_of, check_of}
use Rattle.iff_chunk.specs.Chunks.{Chunk}
use Rattle.iff_grammar.specs.Words.{Bytes}
use Rattle.list_spec.specs.Records.{record_of, count_in, count_of}
use Rattle.list_cursor.specs.declared.Cursor.{Cursor}
use Rattle.list_cursor.specs.Cursors.{first_cursor, Located}
use Rattle.list_cursor.proofs.laws.Walk.{located_first}
use Rattle.print_listing.specs.Lines.{answer_lines, listed_lines, lines_from, printed}
use Rattle.print_program.proofs.KnownBytes.{appends_none, appends_both}
use Rattle.iff_refusal.specs.declared.Refusal.{Refusal}
use Rattle.iff_tree.specs.declared.Accepted.{Accepted}
use Rattle.std.specs.Prelude.{Ok, Err}

module _ (s : List ℕ) (b : Bytes s) (v : Accepted) (d : Ok v ≡ check_of s) where
  pub accepted_start : Located s first_cursor
  accepted_start = (located_first s b v d).0

  pub accepted_count : v.chunks ≡ count_of s
  accepted_count = (located_first s b v d).1

-- the lines of n + 1 records are those of n and those of the last
pub lines_next : (s : List ℕ) (m n k : ℕ) → m + n ≡ k
    → lines_from s m (suc n) ≡ lines_from s m n ++ listed_lines (record_of s k)
unfolding lines_from
lines_next s m zero k e =
    let first : m ≡ k = omega (arith, e) in
    append-nil (listed_lines (record_of s m)) ∙ ap (λ i. listed_lines (record_of s i)) first
lines_next s m (suc n) k e =
    let first = listed_lines (record_of s m) in
    let rest = lines_next s (suc m) n k (omega (arith, e)) in
    ap (λ l. first ++ l) rest ∙ sym (append_assoc first (lines_from s (suc m) n) (listed_lines (record_of s k)))

refused_count : (s : List ℕ) (r : Refusal) (f : Found Chunk) → Err r ≡ verdict_of s f → count_in f ≡ 0
refused_count s r (found c) e = let z : ◌≡◌ {A = ℕ} 0 1 = cc in absurd (omega arith)
refused_count s r (refused i q) e = refl

module _ (s : List ℕ) (a b : Option (List ℕ)) (h : Appends a b (answer_lines s)) where
  pub accepted_printed : (c : Option (List ℕ)) (n : ℕ) → n ≡ count_of s → Appends b c (lines_from s 0 n)
      → Appends a c (printed s)
  accepted_printed c n e g =
      appends_both a b c (answer_lines s) (lines_from s 0 (count_of s)) h (subst (λ m. Appends b c (lines_from s 0 m)) e g)

  pub refused_printed : (r : Refusal) → Err r ≡ check_of s → Appends a b (printed s)
  unfolding lines_from
  refused_printed r d =
      let none : lines_from s 0 (count_of s) ≡ [] = ap (lines_from s 0) (refused_count s r (read_file s) d) in
      subst (Appends a b) (sym (ap (λ l. answer_lines s ++ l) none ∙ append-nil (answer_lines s))) h

-- the lines of the records before m, then those of m
pub appends_record : (s : List ℕ) (a b c : Option (List ℕ)) (m n : ℕ) → n ≡ m + 1
    → Appends a b (lines_from s 0 m) → Appends b c (listed_lines (record_of s m)) → Appends a c (lines_from s 0 n)
appends_record s a b c m n e g h =
    let next : suc m ≡ n = omega (arith, e) in
    let lines = sym (lines_next s 0 m m (omega arith)) ∙ ap (lines_from s 0) next in
    subst (Appends a c) lines (appends_both a b c (lines_from s 0 m) (listed_lines (record_of s m)) g h)

-- the cursor that a walk starts at
module _ (s : List ℕ) (r : Cursor) (e : r ≡ first_cursor) where
  pub start_located : Located s first_cursor → Located s r
  start_located h = rw e h

  pub start_below : (n : ℕ) → r.number ≤ n
  start_below n = rw e (omega arith)

  pub start_written : (a : Option (List ℕ)) → Appends a a (lines_from s 0 r.number)
  unfolding lines_from
  start_written a = rw e (appends_none a)
