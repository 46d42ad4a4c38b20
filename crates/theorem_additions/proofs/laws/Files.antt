-- One addition that may be made leaves a file of the grammar such a file, and its tree is the edited one.
use Rattle.std.specs.Prelude.{ℕ, ◌+◌, ◌≤◌, ◌≡◌, refl, List, [], ◌++◌, length, take, drop}
use Rattle.std.proofs.Common.{ap, ◌∙◌, append_assoc, arith, length-append}
use Rattle.std.proofs.Math.Seq.{take-append-add, drop-append-add}
use Rattle.iff_name.specs.Name.{kind_of}
use Rattle.iff_rules.specs.declared.Position.TheVariants.{Outermost}
use Rattle.iff_chunk.specs.Chunks.{Chunks, none, group, Chunk, a_leaf, a_group, before, bytes}
use Rattle.iff_grammar.specs.Grammar.{height, ChunkFile}
use Rattle.iff_grammar.proofs.laws.Names.{section_group}
use Rattle.theorem_additions.specs.Additions.{Boundary, into, Addition, chunk, trailing, insert, boundary_place, around, grow_all}
use Rattle.theorem_additions.specs.Additions.{splice, bytes_of}
use Rattle.theorem_additions.specs.Additions.{tree_with, file_with, MayAdd}
use Rattle.theorem_additions.proofs.laws.Insert.{no, insert_members}
use Rattle.theorem_additions.proofs.laws.Bytes.{may_at, inserted}

-- the outermost chunk is no leaf
pub outermost_group : {A : Type 0} (s : List ℕ) (n : ℕ) (d p R : List ℕ) → ChunkFile s (a_leaf n d p) R → A
outermost_group s n d p R f =
    let g = section_group (kind_of n) f.tree.2 in
    let h = f.tree.1 in
    no cc

whole_after : (i : Boundary) (X : Chunk) (n t : ℕ) (G : Chunks) (f R : List ℕ) → ChunkFile f (a_group n t G) R →
    MayAdd (chunk i X) (a_group n t G) f
    → file_with (chunk i X) (a_group n t G) f ≡ bytes (group n t (insert i X G) none) ++ R
unfolding boundary_place around insert
whole_after i X n t G f R c h =
    let F : Chunks = group n t G none in
    let small : length (bytes F) ≤ 16777216 = omega (arith, ap length c.whole, length-append (bytes F) R, c.short) in
    ap (λ (l : List ℕ). splice (boundary_place (into i) 0 F) (bytes_of X) (grow_all (length (bytes_of X)) (around (into i) 0 F) l)) c.whole
    ∙ inserted (into i) X F 0 [] R (may_at (into i) X F Outermost [] h) refl small

pub file_with_lem : (a : Addition) (c : Chunk) (f R : List ℕ) → ChunkFile f c R → MayAdd a c f
    → length (file_with a c f) ≤ 16777216 → height (before (tree_with a c) none) ≤ 16
    → (R' : List ℕ) × ChunkFile (file_with a c f) (tree_with a c) R'
unfolding insert
file_with_lem (chunk i X) (a_leaf n d p) f R g h s l = outermost_group f n d p R g
file_with_lem (chunk i X) (a_group n t G) f R g h s l = (
  R,
  record {
    whole = whole_after i X n t G f R g h;
    tree = insert_members (into i) X (group n t G none) Outermost [] h g.tree;
    nesting = l;
    short = s;
  },
)
file_with_lem (trailing k xs) c f R g h s l =
    let B : List ℕ = bytes_of c in
    let q : ℕ = length B + k in
    let front : take q f ≡ B ++ take k R = ap (λ (l : List ℕ). take q l) g.whole ∙ take-append-add B R k in
    let back : drop q f ≡ drop k R = ap (λ (l : List ℕ). drop q l) g.whole ∙ drop-append-add B R k in
    let R' : List ℕ = take k R ++ (xs ++ drop k R) in (
      R',
      record {
        whole = rw (front, back) (append_assoc B (take k R) (xs ++ drop k R));
        tree = g.tree;
        nesting = l;
        short = s;
      },
    )
