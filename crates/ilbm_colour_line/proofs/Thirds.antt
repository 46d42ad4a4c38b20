-- The colour numbers of a line stand in the last third of its row, and are coloured from there.
use Prim.Native.Nat.{ℕ, ◌-◌, ◌*◌, ◌≤◌}
use mathlib.Core.Path.{◌≡◌, ap, ◌∙◌}
use mathlib.Core.List.{List, [], ◌++◌, append-nil}
use lib.ListN.{length, take, drop, length-take, length-drop, drop_of_length-le}
use lib.Seq.{take_all, drop_at}
use native.Mathlib.Nat.{min-eq_left}
use native.Mathlib.Omega.{arith}
use Rattle.iff_tree.specs.Judge.{found, refused}
use Rattle.ilbm_spec.specs.Rows.{row_length, Read, then_read, rows_from, colour_numbers, line_with, line_by}
use Rattle.ilbm_spec.proofs.laws.Rows.{one_value, one_place}
use Rattle.ilbm_colour_words.specs.Words.{WordStep, carried_words, word_pixels}

module _ (compression w planes rows : ℕ) (body : List ℕ) (at : ℕ) where
  pub line_coloured :
      (step : WordStep) (codes : List ℕ) (q : ℕ) → line_by compression w planes rows body at ≡ found (codes, q) → (new cs : List ℕ) →
      new ≡ carried_words step 0 cs → cs ≡ codes →
      line_with (word_pixels w planes step) compression (row_length w) rows body at ≡ found (new, q)
  line_coloured step codes q e new cs i j = go (rows_from compression body (row_length w) rows at) e
    where
      go :
          (v : Read (List (List ℕ))) → then_read v (λ rs p. found ((colour_numbers w planes rs), p)) ≡ found (codes, q) →
          then_read v (λ rs p. found ((word_pixels w planes step rs), p)) ≡ found (new, q)
      go (found (rs, p)) f = rw (i, j, one_value f, one_place f)
      go (refused k p) f = let z : ◌≡◌ {A = ℕ} 0 1 = cc in absurd (omega arith)

pub third_long : (w : ℕ) (row : List ℕ) → length row ≡ 3 * w → length (take (length row - 2 * w) (drop (2 * w) row)) ≡ w
third_long w row e =
    let n : length (drop (2 * w) row) ≡ w = length-drop (2 * w) row ∙ omega arith in
    ap length (take_all (length row - 2 * w) (drop (2 * w) row) (omega arith)) ∙ n

-- what was written there is read from there
pub third_is :
    (n : ℕ) (row new : List ℕ) → n ≤ length row → drop n (take n row ++ (new ++ drop (length row - n) (drop n row))) ≡ new
third_is n row new l =
    let none : drop (length row - n) (drop n row) ≡ [] =
    drop_of_length-le (drop n row) {i = length row - n} (rw length-drop (omega arith)) in
    drop_at (take n row) (new ++ drop (length row - n) (drop n row)) n (length-take n row ∙ min-eq_left l) ∙ rw none (append-nil new)
