-- Chunks that may stand in a row are found again where they are written: by induction on the chunks, each chunk's header passes
-- every test, and the walk goes on where the next one stands.
use Rattle.std.specs.Prelude.{ℕ, zero, suc, ◌+◌, ◌-◌, ◌%◌, ◌≤◌, ◌<◌, ◌≡◌, refl, true, false, List, [], ◌++◌, length, drop}
use Rattle.std.proofs.Common.{sym, ap, ap₂, ◌∙◌, arith, lt-ltb, le-ltb}
use Rattle.std.proofs.Math.Seq.{slice}
use Rattle.std.proofs.lemmas.Bool.{not-true}
use Rattle.iff_name.specs.Name.{kind_of}
use Rattle.iff_name.specs.declared.Kind.{Kind}
use Rattle.iff_rules.specs.declared.Position.{Position}
use Rattle.iff_header.specs.declared.Header.TheVariants.{Leaf, Group}
use Rattle.iff_chunk.specs.Chunks.{Chunks, none, leaf, group, Chunk, a_leaf, a_group, before, bytes, word, next_at}
use Rattle.iff_rules.specs.Rules.{inside, after, group_type, second_prop}
use Rattle.iff_header.specs.Checks.{header_of}
use Rattle.iff_tree.specs.Judge.{Found, found, run, chunk_at, members_of}
use Rattle.iff_grammar.specs.Grammar.{chunk_name, seen_after, Members, height}
use Rattle.iff_grammar.proofs.laws.Read.{leaf_name, leaf_size, leaf_data, leaf_pad, leaf_next, leaf_rest, length_leaf}
use Rattle.iff_grammar.proofs.laws.Read.{length_group, group_name, group_size, group_type_lem, group_members, group_next}
use Rattle.iff_grammar.proofs.laws.Read.{group_rest}
use Rattle.iff_grammar.proofs.laws.Names.{members_regular, group_chunk_name, after_leaf, seen_leaf}
use Rattle.iff_grammar.proofs.laws.Props.{Seen, seen_start, seen_step}
use Rattle.iff_grammar.proofs.laws.Headers.{header_leaf, header_group, new_second}
use Rattle.std.specs.Prelude.{Ok}

by_leaf : (levels : ℕ) (s : List ℕ) (from : ℕ) (w : Position) (p e z : ℕ) → header_of levels s from w p e ≡ Ok (Leaf z)
    → chunk_at levels s from w p e ≡ found (a_leaf (word s p) (slice (p + 8) (p + 8 + z) s) (slice (p + 8 + z) (p + 8 + z + z % 2) s))
unfolding chunk_at
by_leaf zero s from w p e z h = rw h
by_leaf (suc levels) s from w p e z h = rw h

by_group : (levels : ℕ) (s : List ℕ) (from : ℕ) (w : Position) (p e : ℕ) (k : Kind) (z : ℕ) (G : Chunks) → header_of (suc levels) s from w p e ≡ Ok (Group k z)
    → run (chunk_at levels s (p + 12)) s (p + 8 + z - (p + 12)) (inside k) (p + 12) (p + 8 + z) ≡ found G
    → chunk_at (suc levels) s from w p e ≡ found (a_group (word s p) (word s (p + 8)) G)
unfolding chunk_at
by_group levels s from w p e k z G h r = rw (h, r)

leaf_header :
    (levels : ℕ) (s : List ℕ) (from : ℕ) (w : Position) (p e : ℕ) (seen : List ℕ) (n : ℕ) (d pd : List ℕ) (F : Chunks) (R : List ℕ) →
    Members w seen (leaf n d pd F) → length s ≤ 16777216 → drop p s ≡ bytes (leaf n d pd F) ++ R → p + 8 + length d + length pd ≤ e →
    header_of levels s from w p e ≡ Ok (Leaf (length d))
leaf_header levels s from w p e seen n d pd F R m short at fit =
    let r = members_regular w seen (leaf n d pd F) m in
    let name : word s p ≡ n = leaf_name s p n d pd F R r short at in
    let size : word s (p + 4) ≡ length d = leaf_size s p n d pd F R r short at in
    let next : next_at s p ≡ p + 8 + length d + length pd = leaf_next s p n d pd F R r short at in
    header_leaf levels s from w p e (rw name m.0) (rw name m.2) (rw next fit) (rw name m.1) ∙ ap (λ z. Ok (Leaf z)) size

leaf_complete :
    (levels : ℕ) (s : List ℕ) (from : ℕ) (w : Position) (p e : ℕ) (seen : List ℕ) (n : ℕ) (d pd : List ℕ) (F : Chunks) (R : List ℕ) →
    Members w seen (leaf n d pd F) → length s ≤ 16777216 → drop p s ≡ bytes (leaf n d pd F) ++ R → p + 8 + length d + length pd ≤ e →
    chunk_at levels s from w p e ≡ found (a_leaf n d pd)
leaf_complete levels s from w p e seen n d pd F R m short at fit =
    let r = members_regular w seen (leaf n d pd F) m in
    by_leaf levels s from w p e (length d) (leaf_header levels s from w p e seen n d pd F R m short at fit)
    ∙ rw (leaf_name s p n d pd F R r short at, leaf_data s p n d pd F R r short at, leaf_pad s p n d pd F R r short at)

group_header :
    (levels : ℕ) (s : List ℕ) (from : ℕ) (w : Position) (p e : ℕ) (seen : List ℕ) (n t : ℕ) (G F : Chunks) (R : List ℕ) →
    Members w seen (group n t G F) → length s ≤ 16777216 → drop p s ≡ bytes (group n t G F) ++ R → p + 12 + length (bytes G) ≤ e →
    Seen s from p seen → header_of (suc levels) s from w p e ≡ Ok (Group (kind_of n) (4 + length (bytes G)))
group_header levels s from w p e seen n t G F R m short at fit h =
    let r = members_regular w seen (group n t G F) m in
    let name : word s p ≡ n = group_name s p n t G F R r short at in
    let size : word s (p + 4) ≡ 4 + length (bytes G) = group_size s p n t G F R r short at in
    let type : word s (p + 8) ≡ t = group_type_lem s p n t G F R r short at in
    let next : next_at s p ≡ p + 12 + length (bytes G) = group_next s p n t G F R r short at in
    let four : 4 ≤ word s (p + 4) = omega arith in
    let known : group_type (kind_of (word s p)) (word s (p + 8)) ≡ true = rw (name, type) m.2 in
    let first : second_prop (kind_of n) s from p t ≡ false = not-true _ (sym (new_second (kind_of n) s from p t seen h) ∙ m.3) in
    let named : chunk_name (word s p) ≡ true = rw name (group_chunk_name n m.0) in
    header_group levels s from w p e named (rw name m.1) (rw next fit) (rw name m.0) four known (rw (name, type) first)
    ∙ ap₂ (λ k z. Ok (Group k z)) (ap kind_of name) size

pub group_complete :
    (levels : ℕ) (s : List ℕ) (from : ℕ) (w : Position) (p e : ℕ) (seen : List ℕ) (n t : ℕ) (G F : Chunks) (R : List ℕ) →
    Members w seen (group n t G F) → length s ≤ 16777216 → drop p s ≡ bytes (group n t G F) ++ R → p + 12 + length (bytes G) ≤ e →
    Seen s from p seen → members_of levels s (p + 12) (inside (kind_of n)) (p + 12) (p + 8 + (4 + length (bytes G))) ≡ found G →
    chunk_at (suc levels) s from w p e ≡ found (a_group n t G)
group_complete levels s from w p e seen n t G F R m short at fit h inner =
    let r = members_regular w seen (group n t G F) m in
    let head = group_header levels s from w p e seen n t G F R m short at fit h in
    by_group levels s from w p e (kind_of n) (4 + length (bytes G)) G head inner
    ∙ rw (group_name s p n t G F R r short at, group_type_lem s p n t G F R r short at)

run_cons : (chunk : Position → ℕ → ℕ → Found Chunk) (s : List ℕ) (fuel : ℕ) (w : Position) (p e : ℕ) (c : Chunk) (F : Chunks)
    → p < e → chunk w p e ≡ found c → run chunk s fuel (after w (kind_of (word s p))) (next_at s p) e ≡ found F
    → run chunk s (suc fuel) w p e ≡ found (before c F)
unfolding run
run_cons chunk s fuel w p e c F l h r = rw (lt-ltb p e l, h, r)

pub run_complete :
    (F : Chunks) (levels : ℕ) (s : List ℕ) (from : ℕ) (w : Position) (p e fuel : ℕ) (seen R : List ℕ) →
    Members w seen F → height F ≤ levels → length s ≤ 16777216 → drop p s ≡ bytes F ++ R → p + length (bytes F) ≡ e →
    length (bytes F) ≤ fuel → Seen s from p seen → run (chunk_at levels s from) s fuel w p e ≡ found F
unfolding run bytes
run_complete none levels s from w p e zero seen R m l short at to f h = refl
run_complete none levels s from w p e (suc fuel) seen R m l short at to f h = rw (le-ltb p e (omega arith))
run_complete (leaf n d pd F) levels s from w p e zero seen R m l short at to f h = absurd (omega arith)
run_complete (leaf n d pd F) levels s from w p e (suc fuel) seen R m l short at to f h =
    let r = members_regular w seen (leaf n d pd F) m in
    let len : length (bytes (leaf n d pd F)) ≡ 8 + length d + length pd + length (bytes F) = length_leaf n d pd F in
    let name : word s p ≡ n = leaf_name s p n d pd F R r short at in
    let next : next_at s p ≡ p + 8 + length d + length pd = leaf_next s p n d pd F R r short at in
    let rest : drop (next_at s p) s ≡ bytes F ++ R = leaf_rest s p n d pd F R r short at in
    let pos : after w (kind_of (word s p)) ≡ w = rw name (after_leaf w (kind_of n) m.1) in
    let same : seen_after (kind_of (word s p)) (word s (p + 8)) seen ≡ seen = rw name (seen_leaf (kind_of n) (word s (p + 8)) seen m.1) in
    let on : Seen s from (next_at s p) seen = rw same at (seen_step s from p seen h) in
    let one = leaf_complete levels s from w p e seen n d pd F R m short at (omega arith) in
    let others = run_complete F levels s from w (next_at s p) e fuel seen R m.4 l short rest (omega arith) (omega arith) on in
    run_cons (chunk_at levels s from) s fuel w p e (a_leaf n d pd) F (omega arith) one (rw pos others)
run_complete (group n t G F) levels s from w p e zero seen R m l short at to f h = absurd (omega arith)
run_complete (group n t G F) zero s from w p e (suc fuel) seen R m l short at to f h = absurd (omega arith)
run_complete (group n t G F) (suc levels) s from w p e (suc fuel) seen R m l short at to f h =
    let r = members_regular w seen (group n t G F) m in
    let len : length (bytes (group n t G F)) ≡ 12 + length (bytes G) + length (bytes F) = length_group n t G F in
    let name : word s p ≡ n = group_name s p n t G F R r short at in
    let type : word s (p + 8) ≡ t = group_type_lem s p n t G F R r short at in
    let next : next_at s p ≡ p + 12 + length (bytes G) = group_next s p n t G F R r short at in
    let body : drop (p + 12) s ≡ bytes G ++ (bytes F ++ R) = group_members s p n t G F R r short at in
    let rest : drop (next_at s p) s ≡ bytes F ++ R = group_rest s p n t G F R r short at in
    let q : ℕ = p + 12 in
    let to' : ℕ = p + 8 + (4 + length (bytes G)) in
    let w' : Position = after w (kind_of (word s p)) in
    let seen' : List ℕ = seen_after (kind_of (word s p)) (word s (p + 8)) seen in
    let m' : Members w' seen' F = rw (name, type) m.5 in
    let on = seen_step s from p seen h in
    let inner = run_complete G levels s q (inside (kind_of n)) q to' (to' - q) [] (bytes F ++ R) m.4 (omega arith) short body (omega arith) (omega arith) (seen_start s q) in
    let one = group_complete levels s from w p e seen n t G F R m short at (omega arith) h inner in
    let others = run_complete F (suc levels) s from w' (next_at s p) e fuel seen' R m' (omega arith) short rest (omega arith) (omega arith) on in
    run_cons (chunk_at (suc levels) s from) s fuel w p e (a_group n t G) F (omega arith) one others
