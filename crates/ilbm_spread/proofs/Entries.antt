-- The rule of the table, by one test that is computed over all its entries: where it passes, each entry is the spread byte of its place.
use Prim.Native.Nat.{ℕ, zero, suc, ◌+◌, ◌<◌}
use mathlib.Core.Path.{◌≡◌, refl, ◌∙◌, ap}
use mathlib.Core.Bool.{Bool, true, false}
use mathlib.Core.List.{List, [], ◌∷◌}
use lib.Dec.{eqb}
use lib.ListN.{length, get_or}
use borrow.Author.Tests.{eqb-true}
use native.Mathlib.Omega.{arith}
use Rattle.ilbm_spread.specs.Spread.{spread_of, IsSpread}

abbrev pub both : Bool → Bool → Bool
both true b = b
both false b = false

-- the entries from place b on
abbrev pub spread_from : ℕ → List ℕ → Bool
spread_from b [] = true
spread_from b (x ∷ xs) = both (eqb x (spread_of b)) (spread_from (suc b) xs)

both_left : (a b : Bool) → both a b ≡ true → a ≡ true
both_left true b e = refl
both_left false b e = e

both_right : (a b : Bool) → both a b ≡ true → b ≡ true
both_right true b e = e
both_right false b e = let z : ◌≡◌ {A = ℕ} 0 1 = cc in absurd (omega arith)

entry_at : (b : ℕ) (xs : List ℕ) → spread_from b xs ≡ true → (k : ℕ) → k < length xs → get_or xs k 0 ≡ spread_of (b + k)
entry_at b [] e k h = absurd (omega arith)
entry_at b (x ∷ xs) e zero h =
    let z : b + 0 ≡ b = omega arith in
    rw z (eqb-true x (spread_of b) (both_left (eqb x (spread_of b)) (spread_from (suc b) xs) e))
entry_at b (x ∷ xs) e (suc k) h =
    let z : b + suc k ≡ suc b + k = omega arith in
    rw z (entry_at (suc b) xs (both_right (eqb x (spread_of b)) (spread_from (suc b) xs) e) k (omega arith))

pub is_spread : (xs : List ℕ) → length xs ≡ 256 → spread_from 0 xs ≡ true → IsSpread xs
unfolding IsSpread
is_spread xs l e b h = let z : 0 + b ≡ b = omega arith in rw z at (entry_at 0 xs e b (omega arith))
