-- Chunks that are written down are read back at their places: name, size, data, pad, and what follows.
use Rattle.std.specs.Prelude.{ℕ, ◌+◌, ◌%◌, ◌≤◌, ◌≡◌, refl, drop}
use Rattle.std.proofs.Common.{sym, ◌∙◌, arith, length-append}
use Rattle.std.proofs.Math.Path.{ap}
use mathlib.Core.List.{List, ◌++◌, append_assoc}
use Rattle.std.proofs.Math.ListN.{length}
use Rattle.std.proofs.Math.Seq.{slice}
use Rattle.iff_chunk.specs.Chunks.{Chunks, none, leaf, group, put_word, bytes, word, next_at}
use Rattle.iff_grammar.proofs.laws.Words.{word_at, drop_word, drop_past, fits, slice_at}
use Rattle.iff_grammar.specs.Read.{Regular}

pub length_leaf : (n : ℕ) (d p : List ℕ) (F : Chunks) → length (bytes (leaf n d p F)) ≡ 8 + length d + length p + length (bytes F)
unfolding bytes
length_leaf n d p F = simp length-append (omega arith)

pub length_group : (n t : ℕ) (G F : Chunks) → length (bytes (group n t G F)) ≡ 12 + length (bytes G) + length (bytes F)
unfolding bytes
length_group n t G F = simp length-append (omega arith)

-- whole chunks have an even number of bytes
pub even_bytes : (F : Chunks) → Regular F → length (bytes F) % 2 ≡ 0
unfolding bytes
even_bytes none r = refl
even_bytes (leaf n d p F) r = omega (arith, length_leaf n d p F, even_bytes F r.3, r.2)
even_bytes (group n t G F) r = omega (arith, length_group n t G F, even_bytes G r.3, even_bytes F r.4)

module _ (s : List ℕ) (p n : ℕ) (d pd : List ℕ) (F : Chunks) (R : List ℕ)
    (r : Regular (leaf n d pd F)) (short : length s ≤ 16777216) (e : drop p s ≡ bytes (leaf n d pd F) ++ R) where
  leaf_parts : drop p s ≡ put_word n (put_word (length d) (d ++ (pd ++ (bytes F ++ R))))
  unfolding bytes
  leaf_parts = e ∙ ap (λ (l : List ℕ). put_word n (put_word (length d) l)) (append_assoc d (pd ++ bytes F) R ∙ ap (λ (l : List ℕ). d ++ l) (append_assoc pd (bytes F) R))

  leaf_whole : p + (8 + length d + length pd + length (bytes F)) + length R ≡ length s
  leaf_whole =
      let l = length_leaf n d pd F in
      omega (arith, fits s (bytes (leaf n d pd F)) R p (omega arith) e)

  pub leaf_fits : p + 8 + length d + length pd ≤ length s
  leaf_fits = omega (arith, leaf_whole)

  pub leaf_name : word s p ≡ n
  leaf_name = word_at s p n _ r.1 leaf_parts

  leaf_after_name : drop (p + 4) s ≡ put_word (length d) (d ++ (pd ++ (bytes F ++ R)))
  leaf_after_name = drop_word s p (p + 4) n _ leaf_parts refl

  pub leaf_size : word s (p + 4) ≡ length d
  leaf_size = word_at s (p + 4) (length d) _ (omega (arith, leaf_whole)) leaf_after_name

  leaf_after_size : drop (p + 8) s ≡ d ++ (pd ++ (bytes F ++ R))
  leaf_after_size = drop_word s (p + 4) (p + 8) (length d) _ leaf_after_name (omega arith)

  pub leaf_data : slice (p + 8) (p + 8 + length d) s ≡ d
  leaf_data = slice_at s d _ (p + 8) (p + 8 + length d) leaf_after_size refl

  leaf_after_data : drop (p + 8 + length d) s ≡ pd ++ (bytes F ++ R)
  leaf_after_data = drop_past s d _ (p + 8) (p + 8 + length d) leaf_after_size refl

  pub leaf_pad : slice (p + 8 + length d) (p + 8 + length d + length d % 2) s ≡ pd
  leaf_pad = slice_at s pd _ (p + 8 + length d) (p + 8 + length d + length d % 2) leaf_after_data (omega (arith, r.2))

  pub leaf_next : next_at s p ≡ p + 8 + length d + length pd
  leaf_next = rw (leaf_size, ← r.2)

  pub leaf_rest : drop (next_at s p) s ≡ bytes F ++ R
  leaf_rest = ap (λ (k : ℕ). drop k s) leaf_next ∙ drop_past s pd _ (p + 8 + length d) _ leaf_after_data refl

module _ (s : List ℕ) (p n t : ℕ) (G F : Chunks) (R : List ℕ)
    (r : Regular (group n t G F)) (short : length s ≤ 16777216) (e : drop p s ≡ bytes (group n t G F) ++ R) where
  group_parts : drop p s ≡ put_word n (put_word (4 + length (bytes G)) (put_word t (bytes G ++ (bytes F ++ R))))
  unfolding bytes
  group_parts = e ∙ ap (λ (l : List ℕ). put_word n (put_word (4 + length (bytes G)) (put_word t l))) (append_assoc (bytes G) (bytes F) R)

  group_whole : p + (12 + length (bytes G) + length (bytes F)) + length R ≡ length s
  group_whole =
      let l = length_group n t G F in
      omega (arith, fits s (bytes (group n t G F)) R p (omega arith) e)

  pub group_fits : p + 12 + length (bytes G) ≤ length s
  group_fits = omega (arith, group_whole)

  pub group_name : word s p ≡ n
  group_name = word_at s p n _ r.1 group_parts

  group_after_name : drop (p + 4) s ≡ put_word (4 + length (bytes G)) (put_word t (bytes G ++ (bytes F ++ R)))
  group_after_name = drop_word s p (p + 4) n _ group_parts refl

  pub group_size : word s (p + 4) ≡ 4 + length (bytes G)
  group_size = word_at s (p + 4) (4 + length (bytes G)) _ (omega (arith, group_whole)) group_after_name

  group_after_size : drop (p + 8) s ≡ put_word t (bytes G ++ (bytes F ++ R))
  group_after_size = drop_word s (p + 4) (p + 8) (4 + length (bytes G)) _ group_after_name (omega arith)

  pub group_type_lem : word s (p + 8) ≡ t
  group_type_lem = word_at s (p + 8) t _ r.2 group_after_size

  pub group_members : drop (p + 12) s ≡ bytes G ++ (bytes F ++ R)
  group_members = drop_word s (p + 8) (p + 12) t _ group_after_size (omega arith)

  pub group_next : next_at s p ≡ p + 12 + length (bytes G)
  group_next = rw group_size (omega (arith, even_bytes G r.3))

  pub group_rest : drop (next_at s p) s ≡ bytes F ++ R
  group_rest = drop_past s (bytes G) _ (p + 12) _ group_members (sym group_next)
