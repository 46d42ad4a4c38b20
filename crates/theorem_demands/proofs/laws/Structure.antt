-- A file is refused by one of 1 to 12: each check of a header has one of 3 to 12, which are told with the chunk's place, and the walk over
-- the chunks passes a refusal on. What the file itself is refused with has place 0.
use Rattle.std.specs.Prelude.{ℕ, zero, suc, ◌≡◌, refl, Bool, true, false, List, [], ◌∷◌, Ok, Err, Result}
use Rattle.iff_name.specs.Name.{pick, kind_of}
use Rattle.iff_name.specs.declared.Kind.{Kind}
use Rattle.iff_rules.specs.declared.Position.{Position}
use Rattle.iff_header.specs.declared.Header.{Header}
use Rattle.iff_header.specs.declared.Header.TheVariants.{Leaf, Group}
use Rattle.iff_chunk.specs.Chunks.{Chunks, Chunk, word, next_at}
use Rattle.iff_rules.specs.Rules.{after}
use Rattle.iff_header.specs.Checks.{group_header_of, header_of}
use Rattle.iff_tree.specs.Judge.{Found, run, by_header, chunk_at, read_file}
use Rattle.theorem_demands.specs.Numbers.{structural, placed, among}
use Rattle.theorem_demands.proofs.laws.Numbers.{Refuses, choice_refuses, then_refuses, within, among_within}
use Rattle.iff_refusal.specs.declared.Reason.{Reason}
use Rattle.iff_refusal.specs.Numbers.{number_of}

-- the numbers of the table that a header is refused with
abbrev of_header : List ℕ
of_header = 3 ∷ 4 ∷ 5 ∷ 6 ∷ 7 ∷ 8 ∷ 9 ∷ 10 ∷ 11 ∷ 12 ∷ []

abbrev HeaderRefuses : Result Header Reason → Type 0
HeaderRefuses (Err k) = among (number_of k) of_header ≡ true
HeaderRefuses (Ok (Leaf z)) = Unit {0}
HeaderRefuses (Ok (Group k z)) = Unit {0}

header_or :
    (k : Reason) (b : Bool) (h : Result Header Reason) → among (number_of k) of_header ≡ true → HeaderRefuses h →
    HeaderRefuses (pick b (Err k) h)
header_or k true h i j = i
header_or k false h i j = j

leaf_or : (b : Bool) (z : ℕ) (h : Result Header Reason) → HeaderRefuses h → HeaderRefuses (pick b h (Ok (Leaf z)))
leaf_or true z h i = i
leaf_or false z h i = tt

group_refuses : (levels : ℕ) (s : List ℕ) (from : ℕ) (k : Kind) (z p : ℕ) → HeaderRefuses (group_header_of levels s from k z p)
unfolding group_header_of among
group_refuses levels s from k z p = search header_or

header_refuses : (levels : ℕ) (s : List ℕ) (from : ℕ) (w : Position) (p e : ℕ) → HeaderRefuses (header_of levels s from w p e)
unfolding header_of among
header_refuses levels s from w p e = search (header_or, leaf_or, group_refuses) depth 8

by_header_refuses :
    (h : Result Header Reason) (s : List ℕ) (p : ℕ) (members : Kind → ℕ → Found Chunks) → HeaderRefuses h →
    ((k : Kind) (z : ℕ) → Refuses structural (members k z)) → Refuses structural (by_header h s p members)
unfolding within among
by_header_refuses (Err k) s p members i j =
    (among_within of_header structural (number_of k) refl i, rw (among_within of_header placed (number_of k) refl i) refl)
by_header_refuses (Ok (Leaf z)) s p members i j = tt
by_header_refuses (Ok (Group k z)) s p members i j = search (then_refuses, j)

run_refuses :
    (chunk : Position → ℕ → ℕ → Found Chunk) → ((w : Position) (p e : ℕ) → Refuses structural (chunk w p e)) →
    (s : List ℕ) (fuel : ℕ) (w : Position) (p e : ℕ) → Refuses structural (run chunk s fuel w p e)
unfolding run
run_refuses chunk i s zero w p e = tt
run_refuses chunk i s (suc fuel) w p e =
    let rest = run_refuses chunk i s fuel (after w (kind_of (word s p))) (next_at s p) e in
    search (choice_refuses, then_refuses)

chunk_refuses : (levels : ℕ) (s : List ℕ) (from : ℕ) (w : Position) (p e : ℕ) → Refuses structural (chunk_at levels s from w p e)
unfolding chunk_at among
chunk_refuses zero s from w p e = search (by_header_refuses, header_refuses)
chunk_refuses (suc levels) s from w p e =
    let below : (f : ℕ) (v : Position) (a b : ℕ) → Refuses structural (chunk_at levels s f v a b) =
    λ f v a b. chunk_refuses levels s f v a b in
    search (by_header_refuses, header_refuses, run_refuses, below)

pub file_refuses : (s : List ℕ) → Refuses structural (read_file s)
unfolding read_file among
file_refuses s = search (choice_refuses, chunk_refuses)
