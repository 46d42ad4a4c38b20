-- Chunks in a row and then others: their bytes, their number and what may stand among them add up.
use Rattle.std.specs.Prelude.{ℕ, ◌+◌, ◌*◌, ◌≤◌, ◌<◌, ◌≡◌, refl, List, ◌++◌, length}
use Rattle.std.proofs.Common.{ap, ◌∙◌, append_assoc, arith, length-append}
use Rattle.iff_chunk.specs.Chunks.{Chunks, none, leaf, group, put_word, bytes, count}
use Rattle.iff_grammar.specs.Read.{Regular}
use Rattle.iff_grammar.proofs.laws.Read.{length_leaf, length_group}
use Rattle.iff_walk.specs.Order.{join, later}

pub join_bytes : (F K : Chunks) → bytes (join F K) ≡ bytes F ++ bytes K
unfolding join bytes
join_bytes none K = refl
join_bytes (leaf n d p F) K =
    ap (λ (l : List ℕ). put_word n (put_word (length d) (d ++ (p ++ l)))) (join_bytes F K) ∙ simp append_assoc
join_bytes (group n t G F) K =
    ap (λ (l : List ℕ). put_word n (put_word (4 + length (bytes G)) (put_word t (bytes G ++ l)))) (join_bytes F K) ∙ simp append_assoc

pub join_length : (F K : Chunks) → length (bytes (join F K)) ≡ length (bytes F) + length (bytes K)
join_length F K = ap length (join_bytes F K) ∙ length-append (bytes F) (bytes K)

pub join_regular : (F K : Chunks) → Regular F → Regular K → Regular (join F K)
unfolding join
join_regular none K r q = q
join_regular (leaf n d p F) K r q = (r.0, r.1, r.2, join_regular F K r.3 q)
join_regular (group n t G F) K r q = (r.0, r.1, r.2, r.3, join_regular F K r.4 q, r.5)

pub join_count : (F K : Chunks) → count (join F K) ≡ count F + count K
unfolding join count
join_count none K = omega arith
join_count (leaf n d p F) K = omega (arith, join_count F K)
join_count (group n t G F) K = omega (arith, join_count F K)

pub join_none : (F : Chunks) → join F none ≡ F
unfolding join
join_none none = refl
join_none (leaf n d p F) = ap (λ (K : Chunks). leaf n d p K) (join_none F)
join_none (group n t G F) = ap (λ (K : Chunks). group n t G K) (join_none F)

pub join_assoc : (F K L : Chunks) → join (join F K) L ≡ join F (join K L)
unfolding join
join_assoc none K L = refl
join_assoc (leaf n d p F) K L = ap (λ (M : Chunks). leaf n d p M) (join_assoc F K L)
join_assoc (group n t G F) K L = ap (λ (M : Chunks). group n t G M) (join_assoc F K L)

-- after the first chunk there is one less
pub later_count : (P : Chunks) → 0 < length (bytes P) → count P ≡ 1 + count (later P)
unfolding later count bytes
later_count none h = absurd (omega arith)
later_count (leaf n d p F) h = refl
later_count (group n t G F) h = omega (arith, join_count G F)

-- a chunk has at least eight bytes
pub count_bytes : (P : Chunks) → 8 * count P ≤ length (bytes P)
unfolding count bytes
count_bytes none = omega arith
count_bytes (leaf n d p F) = omega (arith, length_leaf n d p F, count_bytes F)
count_bytes (group n t G F) = omega (arith, length_group n t G F, count_bytes G, count_bytes F)
