-- What writes one after another append, and what reads one after another consume.
use Rattle.std.proofs.Common.{◌≡◌, ℕ, ◌+◌, ◌≤◌, List, [], ◌++◌, None, Some, Option, length, take, sym, ap, ◌∙◌, append_assoc, append-nil, arith, length-take-le, take-take}
use Rattle.std.proofs.Math.Seq.{take-append-add}
use Rattle.std.specs.Prelude.{IfSome}
use Rattle.std.specs.Io.KnownBytes.{Appends, Consumes, IsAtEnd}

pub appends_none : (a : Option (List ℕ)) → Appends a a []
appends_none None = tt
appends_none (Some x) = sym (append-nil x)

pub appends_both : (a b c : Option (List ℕ)) (bs cs : List ℕ) → Appends a b bs → Appends b c cs → Appends a c (bs ++ cs)
appends_both None b c bs cs p q = tt
appends_both (Some x) None c bs cs p q = absurd p
appends_both (Some x) (Some y) None bs cs p q = absurd q
appends_both (Some x) (Some y) (Some z) bs cs p q = q ∙ ap (λ l. l ++ cs) p ∙ append_assoc x bs cs

pub consumes_both : (a b c : Option (List ℕ)) (bs cs : List ℕ) → Consumes a b bs → Consumes b c cs → Consumes a c (bs ++ cs)
consumes_both None b c bs cs p q = tt
consumes_both (Some x) None c bs cs p q = absurd p
consumes_both (Some x) (Some y) None bs cs p q = absurd q
consumes_both (Some x) (Some y) (Some z) bs cs p q = p ∙ ap (λ l. bs ++ l) q ∙ sym (append_assoc bs cs z)

-- a reader that is at its end gave all that it had
pub consumed_all : (a b : Option (List ℕ)) (bs : List ℕ) → Consumes a b bs → IsAtEnd b → IfSome a (λ s. s ≡ bs)
consumed_all None b bs p e = tt
consumed_all (Some x) None bs p e = absurd p
consumed_all (Some x) (Some y) bs p e = p ∙ ap (λ l. bs ++ l) e ∙ append-nil bs

-- a buffer whose first a bytes stayed and whose next ones are ys: its first a + n bytes
pub filled : (a n : ℕ) (xs ys zs : List ℕ) → take (a + length ys) zs ≡ take a xs ++ ys → a ≤ length xs → n ≤ length ys
    → take (a + n) zs ≡ take a xs ++ take n ys
filled a n xs ys zs e h g =
    let front = take a xs in
    let same : a + n ≡ length front + n = omega (arith, length-take-le a xs h) in
    let within = sym (take-take (a + n) (a + length ys) zs (omega (arith, g))) in
    within ∙ ap (take (a + n)) e ∙ ap (λ i. take i (front ++ ys)) same ∙ take-append-add front ys n
