-- Two readings of the same rows are one with a shape: what both found stands in the lent rows; the refusal of the first is that of both.
use Prim.Native.Nat.{ℕ}
use mathlib.Core.Path.{◌≡◌, refl, sym, ap, ◌∙◌}
use mathlib.Core.List.{List}
use native.Mathlib.Omega.{arith}
use Rattle.iff_tree.specs.Judge.{found, refused}
use Rattle.ilbm_spec.specs.Rows.{Read, line_answer}
use Rattle.ilbm_spec.specs.Shapes.{Shaped, together, colours_after, shape_after}
use Rattle.iff_refusal.specs.declared.Refusal.{Refusal}
use Rattle.iff_refusal.specs.Numbers.{Answer}
use Rattle.std.specs.Prelude.{Ok, Err}

-- what is told, and what stands in the lent rows afterwards
abbrev pub Done : Read Shaped → Answer ℕ → List ℕ → List ℕ → List ℕ → List ℕ → Type 0
Done v r row shape row₀ shape₀ = (r ≡ line_answer v) × (row ≡ colours_after v row₀) × (shape ≡ shape_after v shape₀)

module _ (colours bits : Read (List ℕ)) (r : Answer ℕ) (j : r ≡ line_answer colours) where
  pub both_read :
      (row shape row₀ shape₀ : List ℕ) (q a b : ℕ) → r ≡ Ok q → colours ≡ found (row, a) → bits ≡ found (shape, b) →
      Done (together colours bits) (Ok q) row shape row₀ shape₀
  both_read row shape row₀ shape₀ q a b d e f =
      let one : Ok q ≡ Ok a = sym d ∙ j ∙ ap line_answer e in
      let same : q ≡ a = cc in
      rw (e, f, same) (refl, refl, refl)

  pub both_refused : (row₀ shape₀ : List ℕ) (e : Refusal) → r ≡ Err e → Done (together colours bits) (Err e) row₀ shape₀ row₀ shape₀
  both_refused row₀ shape₀ e d = go colours (sym d ∙ j)
    where
      go : (v : Read (List ℕ)) → Err e ≡ line_answer v → Done (together v bits) (Err e) row₀ shape₀ row₀ shape₀
      go (found (cs, q)) f = let z : ◌≡◌ {A = ℕ} 0 1 = cc in absurd (omega arith)
      go (refused k p) f = (f, refl, refl)
