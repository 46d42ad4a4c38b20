-- What is judged of so many rows: a row that is full leaves what is told of the others, and any other row settles it.
use Prim.Native.Nat.{ℕ, suc, ◌+◌, ◌-◌, ◌<◌, ◌≤◌}
use mathlib.Core.Path.{◌≡◌, refl, sym, ◌∙◌}
use mathlib.Core.List.{List, [], ◌∷◌}
use native.Mathlib.Omega.{arith}
use Rattle.byterun_row.specs.ByteRun.{Row, filled, over, short, row_of, answer_of}
use Rattle.ilbm_spec.specs.Rows.{Read, then_read, IsRead, row_read, rows_from, line_answer, bytes_after}
use Rattle.iff_tree.specs.Judge.{found, refused}
use Rattle.iff_refusal.specs.declared.Refusal.{Refusal}
use Rattle.iff_refusal.specs.Numbers.{Answer}
use Rattle.std.specs.Prelude.{Ok, Err}

-- what is told of a reading settles whether it is read, and a refusal changes nothing
module _ {A : Type 0} (v : Read A) (r : Answer ℕ) (j : r ≡ line_answer v) where
  pub answered_next : (q : ℕ) → r ≡ Ok q → IsRead v
  answered_next q d = go v (sym j ∙ d)
    where
      go : (v : Read A) → line_answer v ≡ Ok q → IsRead v
      go (found (a, p)) u = tt
      go (refused k p) u = let z : ◌≡◌ {A = ℕ} 0 1 = cc in absurd (omega arith)

pub answered_refusal : (v : Read (List ℕ)) (e : Refusal) (old : List ℕ) → line_answer v ≡ Err e → old ≡ bytes_after v old
answered_refusal (found (a, s)) e old u = let z : ◌≡◌ {A = ℕ} 0 1 = cc in absurd (omega arith)
answered_refusal (refused k p) e old u = refl

-- what is read of some rows, with one more in front
abbrev pub onward : List ℕ → Read (List (List ℕ)) → Read (List (List ℕ))
onward bs later = then_read later (λ rest r. found ((bs ∷ rest), r))

pub answered_onward : (bs : List ℕ) (later : Read (List (List ℕ))) → line_answer (onward bs later) ≡ line_answer later
answered_onward bs (found (a, q)) = refl
answered_onward bs (refused k p) = refl

-- where rows are left, the first of them is read, and then the others
pub rows_once :
    (compression : ℕ) (body : List ℕ) (n rows k q : ℕ) → k < rows →
    rows_from compression body n (rows - k) q ≡ then_read (row_read (row_of compression body q n)) (λ bs p. onward bs (rows_from compression body n (rows - (k + 1)) p))
unfolding rows_from
rows_once compression body n rows k q h = let e : rows - k ≡ suc (rows - (k + 1)) = omega arith in rw e

pub rows_none : (compression : ℕ) (body : List ℕ) (n rows k q : ℕ) → rows ≤ k → rows_from compression body n (rows - k) q ≡ found ([], q)
unfolding rows_from
rows_none compression body n rows k q h = let e : rows - k ≡ 0 = omega arith in rw e

-- what is told of a row, and then of the rows after it
then_told : Answer ℕ → (ℕ → Answer ℕ) → Answer ℕ
then_told (Ok p) more = more p
then_told (Err e) more = Err e

row_told :
    (row : Row) (more : ℕ → Read (List (List ℕ))) →
    line_answer (then_read (row_read row) (λ bs p. onward bs (more p))) ≡ then_told (answer_of row) (λ p. line_answer (more p))
unfolding then_told
row_told (filled bs p) more = answered_onward bs (more p)
row_told (over p) more = refl
row_told (short p) more = refl

-- the rows from q on, after k of them, are told of as all the rows are
pub record Judged (compression : ℕ) (body : List ℕ) (n rows at k q : ℕ) : Type 0 where
  pub is : line_answer (rows_from compression body n (rows - k) q) ≡ line_answer (rows_from compression body n rows at)

module _ (compression : ℕ) (body : List ℕ) (n rows at : ℕ) where
  pub judged_start : Judged compression body n rows at 0 at
  judged_start = let e : rows - 0 ≡ rows = omega arith in record { is = rw e }

  module _ (k q : ℕ) (j : Judged compression body n rows at k q) where
    module _ (r : Answer ℕ) (i : r ≡ answer_of (row_of compression body q n)) (h : k < rows) where
      first :
          then_told r (λ p. line_answer (rows_from compression body n (rows - (k + 1)) p)) ≡
          line_answer (rows_from compression body n rows at)
      first =
          let f : ℕ → Read (List (List ℕ)) = λ p. rows_from compression body n (rows - (k + 1)) p in
          rw i (sym (row_told (row_of compression body q n) f) ∙ (rw (rows_once compression body n rows k q h) at j.is))

      pub judged_more : (p : ℕ) → r ≡ Ok p → Judged compression body n rows at (k + 1) p
      unfolding then_told
      judged_more p e = record { is = rw e at first }

      pub judged_refused : (e : Refusal) → r ≡ Err e → Err e ≡ line_answer (rows_from compression body n rows at)
      unfolding then_told
      judged_refused e d = rw d at first

    pub judged_end : rows ≤ k → Ok q ≡ line_answer (rows_from compression body n rows at)
    judged_end h = rw (rows_none compression body n rows k q h) at j.is

pub ruleset judging = (judged_start, judged_more, judged_refused, judged_end)
