-- The header at a place, both ways: where a chunk's conditions hold no test refuses it, and where no test refuses it they hold.
use Rattle.std.specs.Prelude.{ℕ, zero, suc, ◌+◌, ◌-◌, ◌%◌, ◌≤◌, ◌<◌, ◌≡◌, refl, Bool, true, false, not, List, ltb, eqb}
use Rattle.std.proofs.Common.{sym, ap, ◌∙◌, arith, ltb-false, le-ltb, ne_eqb}
use Rattle.std.proofs.lemmas.Bool.{not-false}
use Rattle.iff_name.specs.Codes.{JJJJ}
use Rattle.iff_name.specs.Name.{either, pick, well_formed, version_name, kind_of}
use Rattle.iff_name.specs.declared.Kind.{Kind}
use Rattle.iff_name.specs.declared.Kind.TheVariants.{FORM, LIST, CAT, PROP, FILLER, LOCAL}
use Rattle.iff_rules.specs.declared.Position.{Position}
use Rattle.iff_header.specs.declared.Header.{Header}
use Rattle.iff_header.specs.declared.Header.TheVariants.{Leaf, Group}
use Rattle.iff_chunk.specs.Chunks.{word, next_at}
use Rattle.iff_rules.specs.Rules.{is_group, allowed, misplaced, group_type, second_prop}
use Rattle.iff_header.specs.Checks.{header_of, group_header_of}
use Rattle.iff_grammar.specs.Grammar.{chunk_name, new_prop}
use Rattle.iff_grammar.proofs.laws.Names.{name_parts, chunk_name_lem}
use Rattle.iff_grammar.proofs.laws.Props.{Seen, seen_here}
use Rattle.iff_refusal.specs.declared.Reason.{Reason}
use Rattle.std.specs.Prelude.{Ok, Err, Result}

-- a PROP is the second of its type exactly if its type has been seen
pub new_second : (k : Kind) (s : List ℕ) (from p t : ℕ) (seen : List ℕ) → Seen s from p seen → new_prop k t seen ≡ not (second_prop k s from p t)
new_second FORM s from p t seen h = refl
new_second LIST s from p t seen h = refl
new_second CAT s from p t seen h = refl
new_second PROP s from p t seen h = ap not (sym (seen_here s from p seen h t))
new_second FILLER s from p t seen h = refl
new_second LOCAL s from p t seen h = refl

not_misplaced : (w : Position) (n : ℕ) → eqb n JJJJ ≡ false → allowed w (kind_of n) ≡ true → misplaced w n ≡ false
not_misplaced w n a b = rw (a, b)

-- the tests that leaves and groups have in common
header_passes : (levels : ℕ) (s : List ℕ) (from : ℕ) (w : Position) (p e : ℕ)
    → chunk_name (word s p) ≡ true → allowed w (kind_of (word s p)) ≡ true → next_at s p ≤ e
    → header_of levels s from w p e
    ≡ pick (is_group (kind_of (word s p))) (group_header_of levels s from (kind_of (word s p)) (word s (p + 4)) p)
    (Ok (Leaf (word s (p + 4))))
unfolding header_of
header_passes levels s from w p e c a h =
    let n = name_parts (word s p) c in
    rw (
      le-ltb (e - p) 8 (omega arith),
      n.0,
      n.1,
      not_misplaced w (word s p) n.2 a,
      le-ltb (e - p - 8) (word s (p + 4)) (omega arith),
      le-ltb (e - p - 8 - word s (p + 4)) (word s (p + 4) % 2) (omega arith),
    )

pub header_leaf : (levels : ℕ) (s : List ℕ) (from : ℕ) (w : Position) (p e : ℕ)
    → chunk_name (word s p) ≡ true → allowed w (kind_of (word s p)) ≡ true → next_at s p ≤ e → is_group (kind_of (word s p)) ≡ false
    → header_of levels s from w p e ≡ Ok (Leaf (word s (p + 4)))
header_leaf levels s from w p e c a h g = header_passes levels s from w p e c a h ∙ rw g

pub header_group : (levels : ℕ) (s : List ℕ) (from : ℕ) (w : Position) (p e : ℕ)
    → chunk_name (word s p) ≡ true → allowed w (kind_of (word s p)) ≡ true → next_at s p ≤ e → is_group (kind_of (word s p)) ≡ true
    → 4 ≤ word s (p + 4) → group_type (kind_of (word s p)) (word s (p + 8)) ≡ true → second_prop (kind_of (word s p)) s from p (word s (p + 8)) ≡ false
    → header_of (suc levels) s from w p e ≡ Ok (Group (kind_of (word s p)) (word s (p + 4)))
unfolding group_header_of
header_group levels s from w p e c a h g z t o =
    header_passes (suc levels) s from w p e c a h
    ∙ rw (g, ne_eqb (suc levels) 0 (λ x. omega arith), le-ltb (word s (p + 4)) 4 z, t, o)

-- what a header that is no refusal says of its chunk
abbrev pub Passed : ℕ → List ℕ → ℕ → Position → ℕ → ℕ → Result Header Reason → Type 0
Passed levels s from w p e (Err k) = Unit {0}
Passed levels s from w p e (Ok (Leaf z)) =
    (z ≡ word s (p + 4)) × (next_at s p ≤ e) × (chunk_name (word s p) ≡ true) × (is_group (kind_of (word s p)) ≡ false) × (allowed w (kind_of (word s p)) ≡ true)
Passed levels s from w p e (Ok (Group k z)) =
    (z ≡ word s (p + 4)) × (next_at s p ≤ e) × (k ≡ kind_of (word s p)) × (is_group (kind_of (word s p)) ≡ true) × (allowed w (kind_of (word s p)) ≡ true)
    × (group_type (kind_of (word s p)) (word s (p + 8)) ≡ true) × (second_prop (kind_of (word s p)) s from p (word s (p + 8)) ≡ false)
    × (4 ≤ word s (p + 4)) × (0 < levels)

sieve :
    (P : Result Header Reason → Type 0) (b : Bool) (k : Reason) (h : Result Header Reason) → P (Err k) → (b ≡ false → P h) →
    P (pick b (Err k) h)
sieve P true k h u f = u
sieve P false k h u f = f refl

fork : (P : Result Header Reason → Type 0) (b : Bool) (g h : Result Header Reason) → (b ≡ true → P g) → (b ≡ false → P h) → P (pick b g h)
fork P true g h f u = f refl
fork P false g h f u = u refl

misplaced_not : (w : Position) (n : ℕ) → misplaced w n ≡ false → (eqb n JJJJ ≡ false) × (allowed w (kind_of n) ≡ true)
misplaced_not w n e = go (eqb n JJJJ) (allowed w (kind_of n)) e
  where
    go : (a b : Bool) → either a (not b) ≡ false → (a ≡ false) × (b ≡ true)
    go true b x = (x, cc)
    go false b x = (refl, not-false b x)

positive : (n : ℕ) → eqb n 0 ≡ false → 0 < n
positive zero e = let z : ◌≡◌ {A = ℕ} 0 1 = cc in omega arith
positive (suc n) e = omega arith

pub header_sound : (levels : ℕ) (s : List ℕ) (from : ℕ) (w : Position) (p e : ℕ) → Passed levels s from w p e (header_of levels s from w p e)
unfolding header_of group_header_of
header_sound levels s from w p e =
    let P : Result Header Reason → Type 0 = Passed levels s from w p e in
    let n : ℕ = word s p in
    let z : ℕ = word s (p + 4) in
    let t : ℕ = word s (p + 8) in
    sieve P (ltb (e - p) 8) _ _ tt (λ b4. sieve P (not (well_formed n)) _ _ tt (λ b5. sieve P (version_name n) _ _ tt (λ b3.
    sieve P (misplaced w n) _ _ tt (λ b6. sieve P (ltb (e - p - 8) z) _ _ tt (λ b7. sieve P (ltb (e - p - 8 - z) (z % 2)) _ _ tt (λ b8.
    let l4 = ltb-false (e - p) 8 b4 in
    let l7 = ltb-false (e - p - 8) z b7 in
    let l8 = ltb-false (e - p - 8 - z) (z % 2) b8 in
    let inside : next_at s p ≤ e = omega arith in
    let m = misplaced_not w n b6 in
    fork P (is_group (kind_of n)) _ _
    (λ g. sieve P (eqb levels 0) _ _ tt (λ b9. sieve P (ltb z 4) _ _ tt (λ b10. sieve P (not (group_type (kind_of n) t)) _ _ tt (λ b11.
    sieve P (second_prop (kind_of n) s from p t) _ _ tt (λ b12.
    (refl, inside, refl, g, m.1, not-false (group_type (kind_of n) t) b11, b12, ltb-false z 4 b10, positive levels b9))))))
    (λ g. (refl, inside, chunk_name_lem n (not-false (well_formed n) b5) b3 m.0, g, m.1))))))))
