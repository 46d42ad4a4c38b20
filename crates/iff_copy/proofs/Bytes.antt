-- The bytes of chunks whose pads are zero: as many as before, and the first chunk's stand before those of the rest in file order.
use Prim.Native.Nat.{ℕ, ◌+◌, ◌%◌}
use mathlib.Core.Path.{◌≡◌, refl, sym, ◌∙◌}
use mathlib.Core.List.{List, [], ◌∷◌, ◌++◌, append_assoc, append-nil}
use native.Mathlib.Omega.{arith}
use lib.Dec.{eqb}
use lib.ListN.{length, set, replicate, length-append, length-replicate}
use lib.Seq.{set_at}
use borrow.Author.Tests.{eq-eqb, ne_eqb}
use Rattle.iff_name.specs.Name.{pick}
use Rattle.iff_chunk.specs.Chunks.{Chunks, none, leaf, group, put_word, bytes}
use Rattle.iff_grammar.proofs.laws.Read.{length_leaf, length_group}
use Rattle.iff_walk.specs.Order.{join}
use Rattle.iff_walk.specs.laws.Order.{join_bytes}
use Rattle.iff_copy.specs.Clean.{zero_pads}

pub zero_join : (F K : Chunks) → zero_pads (join F K) ≡ join (zero_pads F) (zero_pads K)
unfolding zero_pads join
zero_join none K = refl
zero_join (leaf n d p F) K = rw (zero_join F K)
zero_join (group n t G F) K = rw (zero_join F K)

pub zero_length : (F : Chunks) → length (bytes (zero_pads F)) ≡ length (bytes F)
unfolding zero_pads
zero_length none = refl
zero_length (leaf n d p F) = simp (length_leaf, length-replicate, zero_length F)
zero_length (group n t G F) = simp (length_group, zero_length G, zero_length F)

-- a leaf without what follows it
abbrev pub leaf_head : ℕ → List ℕ → List ℕ → List ℕ
leaf_head n d pad = put_word n (put_word (length d) (d ++ pad))

-- the header of a group of that size
abbrev pub group_head : ℕ → ℕ → ℕ → List ℕ
group_head n z t = put_word n (put_word z (put_word t []))

pub leaf_split : (n : ℕ) (d pad : List ℕ) (F : Chunks) (A T : List ℕ)
    → A ++ (bytes (leaf n d pad F) ++ T) ≡ (A ++ leaf_head n d pad) ++ (bytes F ++ T)
unfolding bytes
leaf_split n d pad F A T = simp append_assoc

pub group_split : (n t : ℕ) (G F : Chunks) (A T : List ℕ)
    → A ++ (bytes (group n t G F) ++ T) ≡ (A ++ group_head n (4 + length (bytes G)) t) ++ (bytes (join G F) ++ T)
unfolding bytes
group_split n t G F A T = rw join_bytes (simp append_assoc)

pub group_split_zero : (n t : ℕ) (G F : Chunks) (A T : List ℕ)
    → A ++ (bytes (zero_pads (group n t G F)) ++ T) ≡ (A ++ group_head n (4 + length (bytes G)) t) ++ (bytes (zero_pads (join G F)) ++ T)
unfolding zero_pads
group_split_zero n t G F A T = rw (zero_join, ← zero_length G) (group_split n t (zero_pads G) (zero_pads F) A T)

-- the pad of a leaf made zero, if it has one
pub leaf_zeroed : (n : ℕ) (d pad : List ℕ) (F : Chunks) (A T : List ℕ) (q : ℕ) → length pad ≡ length d % 2 → length A + 8 + length d ≡ q →
    pick (eqb (length d % 2) 0) (A ++ (bytes (leaf n d pad F) ++ T)) (set (A ++ (bytes (leaf n d pad F) ++ T)) q 0)
    ≡ (A ++ leaf_head n d (replicate (length pad) 0)) ++ (bytes F ++ T)
leaf_zeroed n d [] F A T q e h = rw (eq-eqb (length d % 2) 0 (sym e)) (leaf_split n d [] F A T)
leaf_zeroed n d (x ∷ []) F A T q e h =
    let odd : length d % 2 ≡ 0 → ⊥ = λ z. omega arith in
    let at : length (A ++ leaf_head n d []) ≡ q = simp (length-append, append-nil) (omega arith) in
    rw (ne_eqb (length d % 2) 0 odd, cut x) (set_at (A ++ leaf_head n d []) x (bytes F ++ T) 0 q at ∙ sym (cut 0) ∙ leaf_split n d (0 ∷ []) F A T)
  where
    cut : (y : ℕ) → A ++ (bytes (leaf n d (y ∷ []) F) ++ T) ≡ (A ++ leaf_head n d []) ++ (y ∷ (bytes F ++ T))
    cut y = leaf_split n d (y ∷ []) F A T ∙ simp (append_assoc, append-nil)
leaf_zeroed n d (x ∷ y ∷ l) F A T q e h = absurd (omega arith)
