-- The walk that looks for a PROP of a type passes each chunk of the group: having come to p it has met PROPs of the types `seen`,
-- and goes on from p as if it began there. Each chunk ends after it begins, so the fuel is enough.
use Rattle.std.specs.Prelude.{ℕ, zero, suc, ◌+◌, ◌-◌, ◌≤◌, ◌≡◌, refl, Bool, true, false, List, [], ltb}
use Rattle.std.proofs.Common.{sym, ap, ◌∙◌, arith, ltb-true, lt-ltb, le-ltb}
use Rattle.iff_name.specs.Name.{either, pick, kind_of}
use Rattle.iff_chunk.specs.Chunks.{word, next_at}
use Rattle.iff_rules.specs.Rules.{prop_at, prop_within, prop_before}
use Rattle.iff_grammar.specs.Grammar.{member, seen_after}
use Rattle.iff_grammar.proofs.laws.Names.{seen_member}

within_enough : (f g : ℕ) (s : List ℕ) (q p t : ℕ) → p - q ≤ f → p - q ≤ g → prop_within f s q p t ≡ prop_within g s q p t
unfolding prop_within
within_enough zero zero s q p t a b = refl
within_enough zero (suc g) s q p t a b = rw (le-ltb q p (omega arith))
within_enough (suc f) zero s q p t a b = rw (le-ltb q p (omega arith))
within_enough (suc f) (suc g) s q p t a b = go (λ c d. within_enough f g s (next_at s q) p t c d) (ltb q p) refl
  where
    go : (p - next_at s q ≤ f → p - next_at s q ≤ g → prop_within f s (next_at s q) p t ≡ prop_within g s (next_at s q) p t)
        → (l : Bool) → ltb q p ≡ l
        → pick l (either (prop_at s q t) (prop_within f s (next_at s q) p t)) false ≡ pick l (either (prop_at s q t) (prop_within g s (next_at s q) p t)) false
    go ih true e =
        let l = ltb-true q p e in
        ap (λ (r : Bool). either (prop_at s q t) r) (ih (omega arith) (omega arith))
    go ih false e = refl

-- the walk over the chunks from `from` on comes to p, and has met PROPs of exactly the types `seen`
abbrev pub Seen : List ℕ → ℕ → ℕ → List ℕ → Type 0
Seen s from p seen = (q u : ℕ) → p ≤ q → prop_before s from q u ≡ either (member u seen) (prop_before s p q u)

pub seen_start : (s : List ℕ) (from : ℕ) → Seen s from from []
seen_start s from q u h = refl

either_false : (a : Bool) → either a false ≡ a
either_false true = refl
either_false false = refl

either_swap : (a b c : Bool) → either b (either a c) ≡ either (either a b) c
either_swap true true c = refl
either_swap true false c = refl
either_swap false true c = refl
either_swap false false c = refl

pub seen_here : (s : List ℕ) (from p : ℕ) (seen : List ℕ) → Seen s from p seen → (u : ℕ) → prop_before s from p u ≡ member u seen
unfolding prop_within
seen_here s from p seen h u =
    let z : p - p ≡ 0 = omega arith in
    h p u (omega arith) ∙ ap (λ (f : ℕ). either (member u seen) (prop_within f s p p u)) z ∙ either_false (member u seen)

before_step : (s : List ℕ) (p q u : ℕ) → next_at s p ≤ q → prop_before s p q u ≡ either (prop_at s p u) (prop_before s (next_at s p) q u)
unfolding prop_within
before_step s p q u h =
    let k : ℕ = q - p - 1 in
    let e : q - p ≡ suc k = omega arith in
    ap (λ (f : ℕ). prop_within f s p q u) e
    ∙ rw (lt-ltb p q (omega arith)) (ap (λ (r : Bool). either (prop_at s p u) r) (within_enough k (q - next_at s p) s (next_at s p) q u (omega arith) (omega arith)))

pub seen_step : (s : List ℕ) (from p : ℕ) (seen : List ℕ) → Seen s from p seen
    → Seen s from (next_at s p) (seen_after (kind_of (word s p)) (word s (p + 8)) seen)
seen_step s from p seen h q u l =
    h q u (omega arith)
    ∙ ap (λ (r : Bool). either (member u seen) r) (before_step s p q u l)
    ∙ either_swap (prop_at s p u) (member u seen) (prop_before s (next_at s p) q u)
    ∙ ap (λ (r : Bool). either r (prop_before s (next_at s p) q u)) (sym (seen_member (word s p) (word s (p + 8)) u seen))
