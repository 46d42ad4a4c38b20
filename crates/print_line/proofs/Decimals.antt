-- The digits that `io::decimal` counts and spells are those of `decimal`: with one digit the number is under 10, with more it is not,
-- and all digits but the last are those of its tenth.
use Prim.Native.Nat.{ℕ, zero, suc, ◌+◌, ◌-◌, ◌*◌, ◌/◌, ◌%◌, ◌^◌, ◌≤◌, ◌<◌}
use mathlib.Core.Bool.{Bool, true, false, cond}
use mathlib.Core.Path.{◌≡◌, refl, ap, ◌∙◌}
use mathlib.Core.List.{[], ◌∷◌}
use native.Mathlib.Omega.{arith}
use native.Mathlib.Numerals.{unary_clauses}
use native.Mathlib.Nat.{pow-suc, pow-le-pow_right}
use lib.Dec.{ltb}
use borrow.Author.Tests.{ltb-true, ltb-false}
use Rattle.io.specs.Digits.{IsDigitCount, last_digits, hex_digit_ascii}
use Rattle.print_line.specs.Text.{decimal_up_to, decimal}

digit : (d : ℕ) → d < 10 → hex_digit_ascii d ≡ 48 + d
digit d h = by_cases (ltb d 10) refl
  where
    by_cases : (b : Bool) → ltb d 10 ≡ b → cond (ltb d 10) (48 + d) (87 + d) ≡ 48 + d
    by_cases true e = rw e
    by_cases false e = let k = ltb-false d 10 e in absurd (omega arith)

under_ten : (n : ℕ) → n < 10 → ltb n 10 ≡ true
under_ten n h = by_cases (ltb n 10) refl
  where
    by_cases : (b : Bool) → ltb n 10 ≡ b → ltb n 10 ≡ true
    by_cases true e = e
    by_cases false e = let k = ltb-false n 10 e in absurd (omega arith)

ten_or_more : (n : ℕ) → 10 ≤ n → ltb n 10 ≡ false
ten_or_more n h = by_cases (ltb n 10) refl
  where
    by_cases : (b : Bool) → ltb n 10 ≡ b → ltb n 10 ≡ false
    by_cases true e = let k = ltb-true n 10 e in absurd (omega arith)
    by_cases false e = e

-- the tenth has one digit less
tenth : (n i : ℕ) → IsDigitCount 10 1 n (suc (suc i)) → IsDigitCount 10 1 (n / 10) (suc i)
tenth n i f =
    let p : 10 ^ suc (suc i) ≡ 10 ^ suc i * 10 = pow-suc 10 (suc i) in
    let q : 10 ^ suc i ≡ 10 ^ i * 10 = pow-suc 10 i in
    let low : 10 ^ i * 10 ≤ n = simp unary_clauses at (f.2 (omega arith)) in
    let at-tenth : 10 ^ i ≤ n / 10 = omega arith in
    let last : suc i - 1 ≡ i = omega arith in
    let under : n < 10 ^ suc (suc i) = f.1 in
    (omega arith, omega arith, λ h. rw last at-tenth)

ten_at_least : (n i : ℕ) → IsDigitCount 10 1 n (suc (suc i)) → 10 ≤ n
ten_at_least n i f =
    let p : 10 ^ 0 ≤ 10 ^ i = pow-le-pow_right (omega arith) {i = 0} {j = i} (omega arith) in
    let low : 10 ^ i * 10 ≤ n = simp unary_clauses at (f.2 (omega arith)) in
    omega arith

spelled_up_to : (j k n : ℕ) → n < 10 ^ suc k → IsDigitCount 10 1 n (suc j) → last_digits 10 (suc j) n ≡ decimal_up_to k n
unfolding decimal_up_to
spelled_up_to zero zero n h f = ap (λ (d : ℕ). d ∷ []) (digit (n % 10) (omega arith))
spelled_up_to zero (suc k) n h f =
    let u : n < 10 = f.1 in
    let m : n % 10 ≡ n = omega arith in
    rw (under_ten n u) (ap (λ (d : ℕ). d ∷ []) (digit (n % 10) (omega arith) ∙ ap (λ (d : ℕ). 48 + d) m))
spelled_up_to (suc i) zero n h f =
    let t = ten_at_least n i f in
    let u : n < 10 = h in
    absurd (omega arith)
spelled_up_to (suc i) (suc k) n h f =
    let t = ten_at_least n i f in
    let p : 10 ^ suc (suc k) ≡ 10 ^ suc k * 10 = pow-suc 10 (suc k) in
    rw (ten_or_more n t, digit (n % 10) (omega arith), spelled_up_to i k (n / 10) (omega arith) (tenth n i f))

pub spelled : (n k : ℕ) → n < 2 ^ 64 → IsDigitCount 10 1 n k → last_digits 10 k n ≡ decimal n
spelled n zero h f = absurd (omega (arith, f.0))
spelled n (suc j) h f = spelled_up_to j 19 n (omega arith) f
