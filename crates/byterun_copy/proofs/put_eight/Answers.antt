-- Eight stores are one paste.
use Prim.Native.Nat.{ℕ, suc, ◌+◌, ◌≤◌}
use mathlib.Core.Path.{◌≡◌}
use mathlib.Core.List.{List, [], ◌∷◌}
use lib.ListN.{length, set}
use lib.Seq.{paste, sets-eq}
use native.Mathlib.Omega.{arith}
use borrow.Author.Rules.{rules}
use Rattle.byterun_copy.proofs.put_eight.Goals as goal

pasted_eight :
    (row : List ℕ) (x a b c d e f g h : ℕ) → x + 8 ≤ length row →
    set (set (set (set (set (set (set (set row x a) (x + 1) b) (x + 2) c) (x + 3) d) (x + 4) e) (x + 5) f) (x + 6) g) (x + 7) h
    ≡ paste row x (a ∷ b ∷ c ∷ d ∷ e ∷ f ∷ g ∷ h ∷ []) 8
pasted_eight row x a b c d e f g h l =
    let x1 : x + 1 ≡ suc x = omega arith in
    let x2 : x + 2 ≡ suc (suc x) = omega arith in
    let x3 : x + 3 ≡ suc (suc (suc x)) = omega arith in
    let x4 : x + 4 ≡ suc (suc (suc (suc x))) = omega arith in
    let x5 : x + 5 ≡ suc (suc (suc (suc (suc x)))) = omega arith in
    let x6 : x + 6 ≡ suc (suc (suc (suc (suc (suc x))))) = omega arith in
    let x7 : x + 7 ≡ suc (suc (suc (suc (suc (suc (suc x)))))) = omega arith in
    rw (x1, x2, x3, x4, x5, x6, x7) (sets-eq (a ∷ b ∷ c ∷ d ∷ e ∷ f ∷ g ∷ h ∷ []) row x l)

pub returns : goal.returns
returns c = search (pasted_eight, rules)
