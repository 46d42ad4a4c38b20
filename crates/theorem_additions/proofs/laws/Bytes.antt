-- The file with an addition made is the bytes of the tree with it. Over the boundary, with what stands before the chunks: past a chunk
-- the bytes before grow by it; into a group its size word is mended, and the bytes before grow by its name, size and type.
use Rattle.std.specs.Prelude.{ℕ, ◌+◌, ◌≤◌, ◌<◌, ◌≡◌, refl, List, [], ◌++◌, length, take, drop}
use Rattle.std.proofs.Common.{sym, ap, ap₂, ◌∙◌, subst, append_assoc, arith, length-append, take_at, drop_at}
use Rattle.std.proofs.Math.Seq.{take-append-add, drop-append-add}
use Rattle.iff_rules.specs.declared.Position.{Position}
use Rattle.iff_chunk.specs.Chunks.{Chunks, none, leaf, group, Chunk, a_leaf, a_group, before, bytes, put_word, word}
use Rattle.iff_grammar.proofs.laws.Words.{word_at}
use Rattle.iff_grammar.proofs.laws.Read.{length_leaf, length_group}
use Rattle.theorem_additions.specs.Additions.{Boundary, here, past, into, May, insert, boundary_place, around, grow, grow_all, splice}
use Rattle.theorem_additions.specs.Additions.{bytes_of}

-- the boundary is one of these chunks
abbrev pub At : Boundary → Chunks → Type 0
At here F = Unit {0}
At (past i) none = ⊥
At (past i) (leaf n d p F) = At i F
At (past i) (group n t G F) = At i F
At (into i) none = ⊥
At (into i) (leaf n d p F) = ⊥
At (into i) (group n t G F) = At i G

pub may_at : (i : Boundary) (X : Chunk) (F : Chunks) (w : Position) (seen : List ℕ) → May w seen i X F → At i F
may_at here X F w seen h = tt
may_at (past i) X none w seen h = absurd h
may_at (past i) X (leaf n d p F) w seen h = may_at i X F w seen h
may_at (past i) X (group n t G F) w seen h = may_at i X F _ _ h
may_at (into i) X none w seen h = absurd h
may_at (into i) X (leaf n d p F) w seen h = absurd h
may_at (into i) X (group n t G F) w seen h = may_at i X G _ [] h

pub bytes_before : (X : Chunk) (F : Chunks) → bytes (before X F) ≡ bytes_of X ++ bytes F
unfolding bytes
bytes_before (a_leaf n d p) F =
    ap (λ (l : List ℕ). put_word n (put_word (length d) l))
    (sym (append_assoc d (p ++ []) (bytes F) ∙ ap (λ (l : List ℕ). d ++ l) (append_assoc p [] (bytes F))))
bytes_before (a_group n t G) F =
    ap (λ (l : List ℕ). put_word n (put_word (4 + length (bytes G)) (put_word t l))) (sym (append_assoc (bytes G) [] (bytes F)))

pub length_insert : (i : Boundary) (X : Chunk) (F : Chunks) → At i F → length (bytes (insert i X F)) ≡ length (bytes F) + length (bytes_of X)
unfolding insert
length_insert here X F h = ap length (bytes_before X F) ∙ length-append (bytes_of X) (bytes F) ∙ omega arith
length_insert (past i) X none h = absurd h
length_insert (past i) X (leaf n d p F) h = omega (arith, length_leaf n d p (insert i X F), length_leaf n d p F, length_insert i X F h)
length_insert (past i) X (group n t G F) h = omega (arith, length_group n t G (insert i X F), length_group n t G F, length_insert i X F h)
length_insert (into i) X none h = absurd h
length_insert (into i) X (leaf n d p F) h = absurd h
length_insert (into i) X (group n t G F) h = omega (arith, length_group n t (insert i X G) F, length_group n t G F, length_insert i X G h)

splice_at : (q : ℕ) (pre xs R : List ℕ) → length pre ≡ q → splice q xs (pre ++ R) ≡ pre ++ (xs ++ R)
splice_at q pre xs R e = rw (take_at pre R q e, drop_at pre R q e)

-- the size of the group that stands behind `pre`, mended
grow_at : (k p : ℕ) (pre : List ℕ) (n z : ℕ) (rest : List ℕ) → length pre ≡ p → z < 4294967296
    → grow k p (pre ++ put_word n (put_word z rest)) ≡ pre ++ put_word n (put_word (z + k) rest)
grow_at k p pre n z rest e h =
    let f : List ℕ = pre ++ put_word n (put_word z rest) in
    let at : (j : ℕ) (xs : List ℕ) → drop j (put_word n (put_word z rest)) ≡ xs → drop (p + j) f ≡ xs =
    λ j xs x. subst (λ (q : ℕ). drop (q + j) f ≡ xs) e (drop-append-add pre (put_word n (put_word z rest)) j ∙ x) in
    let front : take (p + 4) f ≡ pre ++ put_word n [] =
    subst (λ (q : ℕ). take (q + 4) f ≡ pre ++ put_word n []) e (take-append-add pre (put_word n (put_word z rest)) 4) in
    let size : word f (p + 4) ≡ z = word_at f (p + 4) z rest h (at 4 (put_word z rest) refl) in
    ap₂ (λ (a b : List ℕ). a ++ b) front (ap₂ (λ (a : ℕ) (b : List ℕ). put_word (a + k) b) size (at 8 rest refl))
    ∙ append_assoc pre (put_word n []) (put_word (z + k) rest)

-- what stands before the chunks, longer by a chunk that is passed
shift : (pre H T : List ℕ) (p q : ℕ) → length pre ≡ p → p + length H ≡ q → (length (pre ++ H) ≡ q) × (pre ++ (H ++ T) ≡ (pre ++ H) ++ T)
shift pre H T p q e f = (length-append pre H ∙ omega arith, sym (append_assoc pre H T))

module _ (pre : List ℕ) (c : Chunk) (F : Chunks) (R : List ℕ) where
  pub pass : pre ++ (bytes (before c F) ++ R) ≡ (pre ++ bytes_of c) ++ (bytes F ++ R)
  pass =
      ap (λ (l : List ℕ). pre ++ (l ++ R)) (bytes_before c F)
      ∙ ap (λ (l : List ℕ). pre ++ l) (append_assoc (bytes_of c) (bytes F) R)
      ∙ sym (append_assoc pre (bytes_of c) (bytes F ++ R))

-- the head of a group: name, size, type
head : ℕ → ℕ → ℕ → List ℕ
head n z t = put_word n (put_word z (put_word t []))

open_group : (n z t : ℕ) (pre G F R : List ℕ)
    → pre ++ (put_word n (put_word z (put_word t (G ++ F))) ++ R) ≡ (pre ++ head n z t) ++ (G ++ (F ++ R))
unfolding head
open_group n z t pre G F R =
    ap (λ (l : List ℕ). pre ++ put_word n (put_word z (put_word t l))) (append_assoc G F R)
    ∙ sym (append_assoc pre (head n z t) (G ++ (F ++ R)))

grow_group : (k p n t z : ℕ) (pre G F R : List ℕ) → length pre ≡ p → z < 4294967296
    → grow k p (pre ++ (put_word n (put_word z (put_word t (G ++ F))) ++ R)) ≡ (pre ++ head n (z + k) t) ++ (G ++ (F ++ R))
grow_group k p n t z pre G F R e h =
    grow_at k p pre n z (put_word t (G ++ F) ++ R) e h ∙ open_group n (z + k) t pre G F R

pub inserted : (i : Boundary) (X : Chunk) (F : Chunks) (p : ℕ) (pre R : List ℕ) → At i F → length pre ≡ p → length (bytes F) ≤ 16777216
    → splice (boundary_place i p F) (bytes_of X) (grow_all (length (bytes_of X)) (around i p F) (pre ++ (bytes F ++ R))) ≡ pre ++ (bytes (insert i X F) ++ R)
unfolding insert boundary_place around grow_all bytes head
inserted here X F p pre R h e s =
    splice_at p pre (bytes_of X) (bytes F ++ R) e
    ∙ ap (λ (l : List ℕ). pre ++ l) (sym (ap (λ (l : List ℕ). l ++ R) (bytes_before X F) ∙ append_assoc (bytes_of X) (bytes F) R))
inserted (past i) X none p pre R h e s = absurd h
inserted (past i) X (leaf n d pd F) p pre R h e s =
    let c : Chunk = a_leaf n d pd in
    let q : ℕ = p + (8 + length d + length pd) in
    let len = length_leaf n d pd none in
    let all = length_leaf n d pd F in
    let e' : length (pre ++ bytes_of c) ≡ q = length-append pre (bytes_of c) ∙ omega arith in
    ap (λ (f : List ℕ). splice (boundary_place i q F) (bytes_of X) (grow_all (length (bytes_of X)) (around i q F) f)) (pass pre c F R)
    ∙ inserted i X F q (pre ++ bytes_of c) R h e' (omega arith)
    ∙ sym (pass pre c (insert i X F) R)
inserted (past i) X (group n t G F) p pre R h e s =
    let c : Chunk = a_group n t G in
    let q : ℕ = p + (12 + length (bytes G)) in
    let len = length_group n t G none in
    let all = length_group n t G F in
    let e' : length (pre ++ bytes_of c) ≡ q = length-append pre (bytes_of c) ∙ omega arith in
    ap (λ (f : List ℕ). splice (boundary_place i q F) (bytes_of X) (grow_all (length (bytes_of X)) (around i q F) f)) (pass pre c F R)
    ∙ inserted i X F q (pre ++ bytes_of c) R h e' (omega arith)
    ∙ sym (pass pre c (insert i X F) R)
inserted (into i) X none p pre R h e s = absurd h
inserted (into i) X (leaf n d pd F) p pre R h e s = absurd h
inserted (into i) X (group n t G F) p pre R h e s =
    let k : ℕ = length (bytes_of X) in
    let z : ℕ = 4 + length (bytes G) in
    let q : ℕ = p + 12 in
    let all = length_group n t G F in
    let e' : length (pre ++ head n (z + k) t) ≡ q = length-append pre (head n (z + k) t) ∙ omega arith in
    let size : z + k ≡ 4 + length (bytes (insert i X G)) = omega (arith, length_insert i X G h) in
    ap (λ (f : List ℕ). splice (boundary_place i q G) (bytes_of X) (grow_all k (around i q G) f)) (grow_group k p n t z pre (bytes G) (bytes F) R e (omega arith))
    ∙ inserted i X G q (pre ++ head n (z + k) t) (bytes F ++ R) h e' (omega arith)
    ∙ sym (open_group n (z + k) t pre (bytes (insert i X G)) (bytes F) R)
    ∙ ap (λ (m : ℕ). pre ++ (put_word n (put_word m (put_word t (bytes (insert i X G) ++ bytes F))) ++ R)) size
