-- What holds of sets of numbers and of results that are refused by one of a set: a choice of two such results is one, so is one after
-- the other, and a set may be widened to one that has all its numbers, which computing settles for two given sets.
use Rattle.std.specs.Prelude.{ℕ, ◌≡◌, refl, Bool, true, false, List, [], ◌∷◌, eqb, Ok, Err}
use Rattle.std.proofs.Common.{subst, eqb-true}
use Rattle.iff_name.specs.Name.{both, either, pick}
use Rattle.iff_tree.specs.Judge.{Found, found, refused, and_then}
use Rattle.theorem_demands.specs.Numbers.{placed, among, OneOf}
use Rattle.iff_refusal.specs.declared.Reason.{Reason}
use Rattle.iff_refusal.specs.Numbers.{Answer, refusing, refusal_in, number_of, number_in, place_in}

-- a result that is no refusal, or a refusal by one of these numbers
abbrev pub Refuses : {A : Type 0} → List ℕ → Found A → Type 0
Refuses numbers (found a) = Unit {0}
Refuses numbers (refused k p) = OneOf numbers (number_of k) p

either_true : (b : Bool) → either b true ≡ true
either_true true = refl
either_true false = refl

-- a refusal whose place is 0
pub without_place : (numbers : List ℕ) (k : ℕ) → among k numbers ≡ true → OneOf numbers k 0
without_place numbers k i = (i, either_true (among k placed))

-- where 0 is told for no refusal
pub none_told : (numbers : List ℕ) → OneOf (0 ∷ numbers) 0 0
unfolding among
none_told numbers = (refl, refl)

pub or_none : (numbers : List ℕ) (k p : ℕ) → OneOf numbers k p → OneOf (0 ∷ numbers) k p
unfolding among
or_none numbers k p i = (rw i.0 (either_true (eqb k 0)), i.1)

-- one of two results, as a check chooses
pub choice_refuses :
    {A : Type 0} (numbers : List ℕ) (b : Bool) (x y : Found A) → Refuses numbers x → Refuses numbers y → Refuses numbers (pick b x y)
choice_refuses numbers true x y i j = i
choice_refuses numbers false x y i j = j

pub then_refuses :
    {A B : Type 0} (numbers : List ℕ) (x : Found A) (f : A → Found B) → Refuses numbers x → ((a : A) → Refuses numbers (f a)) →
    Refuses numbers (and_then x f)
then_refuses numbers (found a) f i j = j a
then_refuses numbers (refused k p) f i j = i

-- every number of the one is in the other
unfoldable pub within : List ℕ → List ℕ → Bool
within [] ys = true
within (x ∷ xs) ys = both (among x ys) (within xs ys)

-- a number that is the first of the one, or among its others
by_first :
    (k x : ℕ) (xs ys : List ℕ) (b c : Bool) → eqb k x ≡ b → among x ys ≡ c → both c (within xs ys) ≡ true → either b (among k xs) ≡ true →
    (within xs ys ≡ true → among k xs ≡ true → among k ys ≡ true) → among k ys ≡ true
by_first k x xs ys true true e f u v rest = rw (eqb-true k x e) f
by_first k x xs ys false true e f u v rest = rest u v
by_first k x xs ys b false e f u v rest = cc

pub among_within : (xs ys : List ℕ) (k : ℕ) → within xs ys ≡ true → among k xs ≡ true → among k ys ≡ true
unfolding within among
among_within [] ys k w i = cc
among_within (x ∷ xs) ys k w i = by_first k x xs ys (eqb k x) (among x ys) refl refl w i (λ u v. among_within xs ys k u v)

pub one_of_more : (xs ys : List ℕ) → within xs ys ≡ true → (k p : ℕ) → OneOf xs k p → OneOf ys k p
one_of_more xs ys w k p i = (among_within xs ys k w i.0, i.1)

pub widened : {A : Type 0} (xs ys : List ℕ) → within xs ys ≡ true → (x : Found A) → Refuses xs x → Refuses ys x
widened xs ys w (found a) i = tt
widened xs ys w (refused k p) i = one_of_more xs ys w (number_of k) p i

-- what a call answers: its value, or a refusal by one of these numbers
abbrev pub AnswerBy : {A : Type 0} → List ℕ → Answer A → Type 0
AnswerBy numbers (Ok a) = Unit {0}
AnswerBy numbers (Err r) = OneOf numbers (number_of r.reason) r.place

pub told :
    {A : Type 0} (numbers : List ℕ) (a : Answer A) (k : Reason) (p : ℕ) → AnswerBy numbers a → a ≡ refusing k p →
    OneOf numbers (number_of k) p
told numbers a k p i e = subst (AnswerBy numbers) e i

pub refusal_told :
    {A : Type 0} (numbers : List ℕ) (a : Answer A) → AnswerBy numbers a →
    OneOf (0 ∷ numbers) (number_in (refusal_in a)) (place_in (refusal_in a))
refusal_told numbers (Ok a) i = none_told numbers
refusal_told numbers (Err r) i = or_none numbers (number_of r.reason) r.place i
