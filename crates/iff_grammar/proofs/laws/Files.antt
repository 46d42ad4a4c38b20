-- The whole file: its outermost chunk is a group at place 0 whose parent ends with the file, so what holds of a chunk at a place holds of it.
use Rattle.std.specs.Prelude.{ℕ, ◌+◌, ◌-◌, ◌≤◌, ◌≡◌, refl, Bool, true, false, List, [], ◌++◌, ltb, length, drop}
use Rattle.std.proofs.Common.{sym, ap, ap₂, ◌∙◌, subst, append-nil, arith, length-append, drop_at, ltb-false, le-ltb}
use Rattle.std.proofs.Math.Seq.{slice}
use Rattle.iff_name.specs.Name.{pick, version_name, kind_of}
use Rattle.iff_rules.specs.declared.Position.TheVariants.{Outermost}
use Rattle.iff_chunk.specs.Chunks.{Chunks, none, leaf, group, Chunk, a_leaf, a_group, before, bytes, count, word, next_at}
use Rattle.iff_rules.specs.Rules.{is_section, inside}
use Rattle.iff_tree.specs.Judge.{Found, found, refused, chunk_at, members_of, read_file, verdict_of, check_of}
use Rattle.iff_grammar.specs.Grammar.{height, ChunkFile}
use Rattle.iff_grammar.specs.Words.{Bytes}
use Rattle.iff_grammar.proofs.laws.Words.{drop_slice}
use Rattle.iff_grammar.proofs.laws.Read.{leaf_next, group_name, group_members, group_fits, group_next, length_leaf, length_group}
use Rattle.iff_grammar.proofs.laws.Names.{members_regular, name_parts, group_chunk_name, section_group}
use Rattle.iff_grammar.proofs.laws.Props.{seen_start}
use Rattle.iff_grammar.proofs.laws.Complete.{group_complete, run_complete}
use Rattle.iff_grammar.proofs.laws.Sound.{GoodChunk, chunk_sound}
use Rattle.iff_tree.specs.Judge.{accepting}
use Rattle.iff_tree.specs.declared.Accepted.{Accepted}
use Rattle.iff_refusal.specs.Numbers.{Answer}
use Rattle.std.specs.Prelude.{Ok}

-- the limits, as reading has them
file_short : (s : List ℕ) (c : Chunk) (R : List ℕ) → ChunkFile s c R → length s ≤ 16777216
file_short s c R f = omega (arith, f.short)

outermost_members :
    (s : List ℕ) (n t : ℕ) (G : Chunks) (R : List ℕ) → ChunkFile s (a_group n t G) R →
    members_of 15 s 12 (inside (kind_of n)) 12 (8 + (4 + length (bytes G))) ≡ found G
outermost_members s n t G R f =
    let r = members_regular Outermost [] (group n t G none) f.tree in
    let short = file_short s (a_group n t G) R f in
    let deep : height G ≤ 15 = omega (arith, f.nesting) in
    let body = group_members s 0 n t G none R r short f.whole in
    let e : ℕ = 8 + (4 + length (bytes G)) in
    run_complete G 15 s 12 (inside (kind_of n)) 12 e (e - 12) [] (bytes none ++ R) f.tree.4 deep short body (omega arith) (omega arith) (seen_start s 12)

pub file_complete : (s : List ℕ) (c : Chunk) (R : List ℕ) → ChunkFile s c R → read_file s ≡ found c
unfolding read_file
file_complete s (a_leaf n d pd) R f =
    let g = section_group (kind_of n) f.tree.2 in
    let h = f.tree.1 in
    let z : ◌≡◌ {A = ℕ} 0 1 = cc in
    absurd (omega arith)
file_complete s (a_group n t G) R f =
    let m = f.tree in
    let r = members_regular Outermost [] (group n t G none) m in
    let short = file_short s (a_group n t G) R f in
    let name : word s 0 ≡ n = group_name s 0 n t G none R r short f.whole in
    let fit : 0 + 12 + length (bytes G) ≤ length s = group_fits s 0 n t G none R r short f.whole in
    let inner = outermost_members s n t G R f in
    let chunk = group_complete 15 s 0 Outermost 0 (length s) [] n t G none R m short f.whole fit (seen_start s 0) inner in
    let version : version_name n ≡ false = (name_parts n (group_chunk_name n m.0)).1 in
    rw (le-ltb 16777216 (length s) short, le-ltb (length s) 4 (omega arith), name, version, m.1, chunk)

-- the outermost chunk ends where its bytes do
pub file_next : (s : List ℕ) (c : Chunk) (R : List ℕ) → ChunkFile s c R → next_at s 0 ≡ length (bytes (before c none))
unfolding bytes
file_next s (a_leaf n d pd) R f =
    let r = members_regular Outermost [] (leaf n d pd none) f.tree in
    omega (arith, leaf_next s 0 n d pd none R r (file_short s _ R f) f.whole, length_leaf n d pd none)
file_next s (a_group n t G) R f =
    let r = members_regular Outermost [] (group n t G none) f.tree in
    omega (arith, group_next s 0 n t G none R r (file_short s _ R f) f.whole, length_group n t G none)

-- what is trailing
pub file_rest : (s : List ℕ) (c : Chunk) (R : List ℕ) → ChunkFile s c R → drop (next_at s 0) s ≡ R
file_rest s c R f =
    ap (λ (l : List ℕ). drop (next_at s 0) l) f.whole ∙ drop_at (bytes (before c none)) R (next_at s 0) (sym (file_next s c R f))

abbrev pub GoodFile : List ℕ → Found Chunk → Type 0
GoodFile s (found c) = ChunkFile s c (drop (next_at s 0) s)
GoodFile s (refused k p) = Unit {0}

pass : (P : Found Chunk → Type 0) (b : Bool) (x y : Found Chunk) → (b ≡ true → P x) → (b ≡ false → P y) → P (pick b x y)
pass P true x y f g = f refl
pass P false x y f g = g refl

chunk_file : (s : List ℕ) → length s ≤ 16777216 → (r : Found Chunk) → GoodChunk 16 Outermost [] s 0 (length s) r → GoodFile s r
unfolding bytes
chunk_file s short (found c) g =
    let q : ℕ = next_at s 0 in
    let same : bytes (before c none) ≡ slice 0 q s = g.3 none ∙ append-nil (slice 0 q s) in
    record {
      whole = drop_slice s 0 q (omega arith) ∙ ap (λ (l : List ℕ). l ++ drop q s) (sym same);
      tree = g.1 none tt;
      nesting = g.2 none (omega arith);
      short = short;
    }
chunk_file s short (refused k p) g = tt

pub file_sound : (s : List ℕ) → Bytes s → GoodFile s (read_file s)
unfolding read_file
file_sound s b =
    pass (GoodFile s) (ltb 16777216 (length s)) _ _ (λ x. tt) (λ b1.
    pass (GoodFile s) (ltb (length s) 4) _ _ (λ x. tt) (λ b2.
    pass (GoodFile s) (version_name (word s 0)) _ _ (λ x. tt) (λ b3.
    pass (GoodFile s) (is_section (kind_of (word s 0))) _ _
    (λ x. chunk_file s (ltb-false 16777216 (length s) b1) (chunk_at 16 s 0 Outermost 0 (length s))
    (chunk_sound 16 s b 0 Outermost [] 0 (length s) (omega arith) (seen_start s 0)))
    (λ x. tt))))

-- a file that is found has a tree, whose bytes end where the outermost chunk does
pub found_file : (s : List ℕ) → Bytes s → (c : Chunk) → read_file s ≡ found c → (R : List ℕ) × ChunkFile s c R
found_file s b c e = (drop (next_at s 0) s, subst (GoodFile s) e (file_sound s b))

pub file_unique : (s : List ℕ) (c c' : Chunk) (R R' : List ℕ) → ChunkFile s c R → ChunkFile s c' R' → (c ≡ c') × (R ≡ R')
file_unique s c c' R R' f g =
    let a = file_complete s c R f in
    let b = file_complete s c' R' g in
    (cc, sym (file_rest s c R f) ∙ file_rest s c' R' g)

file_length : (s : List ℕ) (c : Chunk) (R : List ℕ) → ChunkFile s c R → length s - next_at s 0 ≡ length R
file_length s c R f =
    let a : length s ≡ length (bytes (before c none)) + length R = ap length f.whole ∙ length-append (bytes (before c none)) R in
    omega (arith, file_next s c R f)

pub file_verdict : (s : List ℕ) (c : Chunk) (R : List ℕ) → ChunkFile s c R
    → check_of s ≡ accepting (count (before c none)) (length (bytes (before c none))) (length R)
file_verdict s c R f =
    ap (verdict_of s) (file_complete s c R f) ∙ ap₂ (λ (e t : ℕ). accepting (count (before c none)) e t) (file_next s c R f) (file_length s c R f)

-- the file has a tree of n chunks and e bytes, and t bytes behind it
abbrev pub HasTree : List ℕ → ℕ → ℕ → ℕ → Type 0
HasTree s n e t =
    (c : Chunk) × (R : List ℕ) × ChunkFile s c R × (n ≡ count (before c none)) × (e ≡ length (bytes (before c none))) × (t ≡ length R)

pub same_accepted : (a b : Accepted) → ◌≡◌ {A = Answer Accepted} (Ok a) (Ok b) → a ≡ b
same_accepted a b e = cc

pub verdict_file : (s : List ℕ) → Bytes s → (n e t : ℕ) → check_of s ≡ accepting n e t → HasTree s n e t
verdict_file s b n e t v = go (read_file s) (file_sound s b) v
  where
    go : (r : Found Chunk) → GoodFile s r → verdict_of s r ≡ accepting n e t → HasTree s n e t
    go (found c) g x =
        let R : List ℕ = drop (next_at s 0) s in
        let same = sym (same_accepted _ _ x) in
        (c, R, g, ap (λ a. a.chunks) same, ap (λ a. a.end) same ∙ file_next s c R g, ap (λ a. a.trailing) same ∙ file_length s c R g)
    go (refused k p) g x = absurd cc

pub file_answered : (s : List ℕ) (n e t : ℕ) → HasTree s n e t → check_of s ≡ accepting n e t
file_answered s n e t h = file_verdict s h.0 h.1 h.2 ∙ rw (h.3, h.4, h.5)
