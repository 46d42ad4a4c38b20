-- Numbers put into a table: one store puts one number; what is put behind numbers just put is put with them; and the table keeps its
-- length.
use Prim.Native.Nat.{ℕ, zero, suc, ◌+◌, ◌≤◌, ◌<◌}
use mathlib.Core.Path.{◌≡◌, refl, ap, ◌∙◌}
use mathlib.Core.List.{List, [], ◌∷◌, ◌++◌}
use lib.ListN.{length, drop, set}
use native.Mathlib.Omega.{arith}
use Rattle.ilbm_table_row.specs.Put.{put_at}

pub one_put : (at x : ℕ) (t : List ℕ) → at < length t → set t at x ≡ put_at at (x ∷ []) t
unfolding put_at
one_put zero x [] l = absurd (omega arith)
one_put zero x (y ∷ t) l = refl
one_put (suc at) x [] l = absurd (omega arith)
one_put (suc at) x (y ∷ t) l = ap (λ (r : List ℕ). y ∷ r) (one_put at x t (omega arith))

pub put_length : (at : ℕ) (xs t : List ℕ) → at + length xs ≤ length t → length (put_at at xs t) ≡ length t
unfolding put_at
put_length zero [] t l = refl
put_length zero (x ∷ xs) [] l = absurd (omega arith)
put_length zero (x ∷ xs) (y ∷ t) l = ap suc (put_length zero xs t (omega arith))
put_length (suc at) xs [] l = absurd (omega arith)
put_length (suc at) xs (y ∷ t) l = ap suc (put_length at xs t (omega arith))

-- from the table's start
behind : (xs ys t : List ℕ) → length xs ≤ length t → put_at (length xs) ys (xs ++ drop (length xs) t) ≡ put_at zero (xs ++ ys) t
unfolding put_at
behind [] ys t l = refl
behind (x ∷ xs) ys [] l = absurd (omega arith)
behind (x ∷ xs) ys (y ∷ t) l = ap (λ (r : List ℕ). x ∷ r) (behind xs ys t (omega arith))

pub put_more : (at m : ℕ) (xs ys t : List ℕ) → m ≡ at + length xs → at + length xs ≤ length t →
    put_at m ys (put_at at xs t) ≡ put_at at (xs ++ ys) t
unfolding put_at
put_more zero m xs ys t e l =
    let i : m ≡ length xs = omega arith in
    rw i (behind xs ys t (omega arith))
put_more (suc at) m xs ys [] e l = absurd (omega arith)
put_more (suc at) zero xs ys (y ∷ t) e l = absurd (omega arith)
put_more (suc at) (suc m) xs ys (y ∷ t) e l = ap (λ (r : List ℕ). y ∷ r) (put_more at m xs ys t (omega arith) (omega arith))

-- one number more behind those just put
next_put : (at m x : ℕ) (xs t : List ℕ) → m ≡ at + length xs → m < length t → set (put_at at xs t) m x ≡ put_at at (xs ++ (x ∷ [])) t
next_put at m x xs t e l =
    let k = put_length at xs t (omega arith) in
    one_put m x (put_at at xs t) (omega (arith, k)) ∙ put_more at m xs (x ∷ []) t e (omega arith)

module _ (at a b c : ℕ) (t : List ℕ) where
  pub three_put : at + 3 ≤ length t → set (set (set t at a) (at + 1) b) (at + 2) c ≡ put_at at (a ∷ b ∷ c ∷ []) t
  three_put l =
      let one = one_put at a t (omega arith) in
      let two = next_put at (at + 1) b (a ∷ []) t refl (omega arith) in
      let three = next_put at (at + 2) c (a ∷ b ∷ []) t refl (omega arith) in
      rw (one, two) three

  pub four_put : (d : ℕ) (t₁ : List ℕ) → at + 4 ≤ length t → t₁ ≡ put_at at (a ∷ b ∷ c ∷ []) t →
      set t₁ (at + 3) d ≡ put_at at (a ∷ b ∷ c ∷ d ∷ []) t
  four_put d t₁ l e = rw e (next_put at (at + 3) d (a ∷ b ∷ c ∷ []) t refl (omega arith))
