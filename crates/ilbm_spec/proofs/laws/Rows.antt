-- One reading finds one value and one next place; a line has a colour number for each pixel.
use Rattle.std.specs.Prelude.{ℕ, zero, suc, ◌≡◌, refl, List, length}
use Rattle.std.proofs.Common.{ap}
use Rattle.iff_tree.specs.Judge.{found}
use Rattle.ilbm_spec.specs.Rows.{Read, colours_from}

-- what is found twice by one reading is one value, and one next place
module _ {A : Type 0} {a b : A} {q r : ℕ} (e : ◌≡◌ {A = Read A} (found (a, q)) (found (b, r))) where
  one_pair : ◌≡◌ {A = A × ℕ} (a, q) (b, r)
  one_pair = cc

  pub one_value : a ≡ b
  one_value = ap (λ (p : A × ℕ). p.0) one_pair

  pub one_place : q ≡ r
  one_place = ap (λ (p : A × ℕ). p.1) one_pair

pub colours_count : (x n : ℕ) (rows : List (List ℕ)) → length (colours_from x n rows) ≡ n
unfolding colours_from
colours_count x zero rows = refl
colours_count x (suc n) rows = ap suc (colours_count (suc x) n rows)
