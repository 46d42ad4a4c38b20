-- Texts that are put one behind another are put as one text; so are the lines of a number, a kind and a name.
use Prim.Native.Nat.{ℕ, ◌+◌, ◌^◌, ◌≤◌, ◌<◌}
use mathlib.Core.Path.{◌≡◌, sym, ap, subst, ◌∙◌}
use mathlib.Core.List.{List, [], ◌∷◌, ◌++◌, append_assoc}
use native.Mathlib.Omega.{arith}
use lib.ListN.{length, take, length-append}
use Rattle.io.specs.Digits.{IsDigitCount, last_digits}
use Rattle.iff_name.specs.declared.Kind.{Kind}
use Rattle.iff_name.specs.declared.Kind.TheVariants.{FORM, LIST, CAT, PROP, FILLER, LOCAL}
use Rattle.print_line.specs.Text.{Puts, number_line, kind_text, kind_line, name_text, name_line, kind=, name=}
use Rattle.print_line.specs.Words.{letters, kind_word}
use Rattle.print_line.specs.laws.Words.{kind_letters}
use Rattle.print_line.proofs.Decimals.{spelled}

pub behind : (o m e x y : List ℕ) (at a r : ℕ) → Puts o at x m a → Puts m a y e r → Puts o at (x ++ y) e r
behind o m e x y at a r h k =
    let l : length (x ++ y) ≡ length x + length y = length-append x y in
    (omega (arith, h.0, k.0), k.1 ∙ ap (λ (t : List ℕ). t ++ y) h.1 ∙ append_assoc (take at o) x y)

two_behind : (o m e x y z : List ℕ) (at a r : ℕ) → Puts o at x m a → Puts m a (y ++ z) e r → Puts o at (x ++ y ++ z) e r
two_behind o m e x y z at a r h k = let l : Puts o at (x ++ (y ++ z)) e r = behind o m e x (y ++ z) at a r h k in rw (append_assoc x y z) l

pub number_put :
    (o m e label ds : List ℕ) (at a r n k : ℕ) → n < 2 ^ 64 → IsDigitCount 10 1 n k → ds ≡ last_digits 10 k n →
    Puts o at label m a → Puts m a (ds ++ (10 ∷ [])) e r → Puts o at (number_line label n) e r
unfolding number_line
number_put o m e label ds at a r n k h f d p q =
    let l : Puts o at (label ++ ds ++ (10 ∷ [])) e r = two_behind o m e label ds (10 ∷ []) at a r p q in
    rw (sym (spelled n k h f), sym d) l

kind_size : (k : Kind) → length (kind_text k) ≤ 6
kind_size FORM = omega arith
kind_size LIST = omega arith
kind_size CAT = omega arith
kind_size PROP = omega arith
kind_size FILLER = omega arith
kind_size LOCAL = omega arith

module _ (w : ℕ) (k : Kind) (h : w ≡ kind_word k) where
  kind_text_lem : letters w ≡ kind_text k
  kind_text_lem = ap letters h ∙ kind_letters k

  pub few_letters : length (letters w) ≤ 6
  few_letters = let e : length (letters w) ≡ length (kind_text k) = ap length kind_text_lem in omega (arith, kind_size k)

  pub kind_put : (o m e : List ℕ) (at a r : ℕ) → Puts o at kind= m a → Puts m a (letters w ++ (10 ∷ [])) e r → Puts o at (kind_line k) e r × (r ≤ at + 12)
  unfolding kind_line
  kind_put o m e at a r p q =
      let l : Puts o at (kind= ++ letters w ++ (10 ∷ [])) e r = two_behind o m e kind= (letters w) (10 ∷ []) at a r p q in
      let n : length (letters w ++ (10 ∷ [])) ≡ length (letters w) + 1 = length-append (letters w) (10 ∷ []) in
      (subst (λ (t : List ℕ). Puts o at (kind= ++ t ++ (10 ∷ [])) e r) kind_text_lem l, omega (arith, few_letters, p.0, q.0))

-- the bytes of a name behind the label
pub name_put :
    (o m e b : List ℕ) (at a r n : ℕ) → b ≡ name_text n → Puts o at name= m a → Puts m a (b ++ (10 ∷ [])) e r →
    Puts o at (name_line n) e r × (r ≤ at + 10)
unfolding name_line
name_put o m e b at a r n h p q =
    let l : Puts m a (name_text n ++ (10 ∷ [])) e r = subst (λ (t : List ℕ). Puts m a (t ++ (10 ∷ [])) e r) h q in
    (behind o m e name= (name_text n ++ (10 ∷ [])) at a r p l, omega (arith, p.0, l.0))
