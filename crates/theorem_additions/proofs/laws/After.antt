-- The whole list of additions, by induction: each is made in a file of the grammar and leaves one, and the places moved add up.
use Rattle.std.specs.Prelude.{ℕ, ◌+◌, ◌≡◌, length}
use Rattle.std.proofs.Math.Path.{refl, ap₂}
use Rattle.std.proofs.Common.{sym, ap, ◌∙◌, arith}
use mathlib.Core.List.{List, [], ◌∷◌}
use Rattle.iff_rules.specs.declared.Position.TheVariants.{Outermost}
use Rattle.iff_chunk.specs.Chunks.{Chunks, none, group, Chunk, a_leaf, a_group, before}
use Rattle.iff_grammar.specs.Grammar.{ChunkFile}
use Rattle.ilbm_spec.specs.Contents.{Located, located, Property, own, shared, absent, no_scope, Content, contents_of}
use Rattle.ilbm_spec.specs.Contents.{moved_located, moved_property, moved_bodies, moved_content}
use Rattle.ilbm_spec.specs.Moved.{map_contents}
use Rattle.ilbm_spec.proofs.laws.Moved.{contents_carried}
use Rattle.theorem_additions.specs.Additions.{into, Addition, chunk, trailing, insert, boundary_place, bytes_of, added, added_at}
use Rattle.theorem_additions.specs.Additions.{tree_with, file_with, MayAdd}
use Rattle.theorem_additions.specs.Additions.{tree_after, file_after, MayAddAll, moved, moved_by}
use Rattle.theorem_additions.proofs.laws.Bytes.{may_at}
use Rattle.theorem_additions.proofs.laws.Files.{outermost_group, file_with_lem}
use Rattle.theorem_additions.proofs.laws.Ignored.{may_ignored}
use Rattle.theorem_additions.proofs.laws.Answers.{chunks_before, contents_inserted}

located_still : (move : ℕ → ℕ) → ((p : ℕ) → move p ≡ p) → (x : Located) → moved_located move x ≡ x
located_still move e x = ap (λ (p : ℕ). located p x.content) (e x.place)

property_still : (move : ℕ → ℕ) → ((p : ℕ) → move p ≡ p) → (q : Property) → moved_property move q ≡ q
property_still move e (own x) = ap own (located_still move e x)
property_still move e (shared p x) = ap₂ (λ (q : ℕ) (y : Located). shared q y) (e p) (located_still move e x)
property_still move e absent = refl

bodies_still : (move : ℕ → ℕ) → ((p : ℕ) → move p ≡ p) → (xs : List Located) → moved_bodies move xs ≡ xs
unfolding moved_bodies
bodies_still move e [] = refl
bodies_still move e (x ∷ xs) = ap₂ (λ (y : Located) (l : List Located). y ∷ l) (located_still move e x) (bodies_still move e xs)

module _ (f g h : ℕ → ℕ) (e : (p : ℕ) → h p ≡ g (f p)) where
  located_twice : (x : Located) → moved_located h x ≡ moved_located g (moved_located f x)
  located_twice x = ap (λ (p : ℕ). located p x.content) (e x.place)

  property_twice : (q : Property) → moved_property h q ≡ moved_property g (moved_property f q)
  property_twice (own x) = ap own (located_twice x)
  property_twice (shared p x) = ap₂ (λ (q : ℕ) (y : Located). shared q y) (e p) (located_twice x)
  property_twice absent = refl

  bodies_twice : (xs : List Located) → moved_bodies h xs ≡ moved_bodies g (moved_bodies f xs)
  unfolding moved_bodies
  bodies_twice [] = refl
  bodies_twice (x ∷ xs) = ap₂ (λ (y : Located) (l : List Located). y ∷ l) (located_twice x) (bodies_twice xs)

contents_still : (move : ℕ → ℕ) → ((p : ℕ) → move p ≡ p) → (cs : List Content) → map_contents move cs ≡ cs
contents_still move e [] = refl
contents_still move e (c ∷ cs) = ap₂ (λ (x : Content) (l : List Content). x ∷ l) one (contents_still move e cs)
  where
    one : moved_content move c ≡ c
    one i = record {
      place = e c.place i;
      bmhd = property_still move e c.bmhd i;
      cmap = property_still move e c.cmap i;
      grab = property_still move e c.grab i;
      dest = property_still move e c.dest i;
      sprt = property_still move e c.sprt i;
      camg = property_still move e c.camg i;
      bodies = bodies_still move e c.bodies i;
    }

contents_twice : (f g h : ℕ → ℕ) → ((p : ℕ) → h p ≡ g (f p)) → (cs : List Content) → map_contents h cs ≡ map_contents g (map_contents f cs)
contents_twice f g h e [] = refl
contents_twice f g h e (c ∷ cs) = ap₂ (λ (x : Content) (l : List Content). x ∷ l) one (contents_twice f g h e cs)
  where
    one : moved_content h c ≡ moved_content g (moved_content f c)
    one i = record {
      place = e c.place i;
      bmhd = property_twice f g h e c.bmhd i;
      cmap = property_twice f g h e c.cmap i;
      grab = property_twice f g h e c.grab i;
      dest = property_twice f g h e c.dest i;
      sprt = property_twice f g h e c.sprt i;
      camg = property_twice f g h e c.camg i;
      bodies = bodies_twice f g h e c.bodies i;
    }

contents_with : (a : Addition) (c : Chunk) (f R : List ℕ) → ChunkFile f c R → MayAdd a c f
    → contents_of (tree_with a c) ≡ map_contents (moved (added_at a c) (length (added a))) (contents_of c)
unfolding insert boundary_place
contents_with (chunk i X) (a_leaf n d p) f R g h = outermost_group f n d p R g
contents_with (chunk i X) (a_group n t G) f R g h =
    let F : Chunks = group n t G none in
    contents_inserted (into i) X F (may_ignored (into i) X F Outermost [] h) (may_at (into i) X F Outermost [] h) 0 no_scope no_scope (λ name k. refl)
contents_with (trailing k xs) c f R g h =
    let len : ℕ = length (bytes_of c) in
    contents_carried _ (before c none) 0 0 no_scope no_scope (chunks_before (before c none) (len + k) (length xs) 0 (omega arith)) (λ name k. refl)

pub file_after_lem : (adds : List Addition) (c : Chunk) (f R : List ℕ) → ChunkFile f c R → MayAddAll adds c f
    → (R' : List ℕ) × ChunkFile (file_after adds c f) (tree_after adds c) R'
unfolding file_after tree_after
file_after_lem [] c f R g h = (R, g)
file_after_lem (a ∷ adds) c f R g h =
    let one = file_with_lem a c f R g h.0 h.1 h.2 in
    file_after_lem adds (tree_with a c) (file_with a c f) one.0 one.1 h.3

pub contents_after : (adds : List Addition) (c : Chunk) (f R : List ℕ) → ChunkFile f c R → MayAddAll adds c f
    → contents_of (tree_after adds c) ≡ map_contents (moved_by adds c) (contents_of c)
unfolding tree_after moved_by
contents_after [] c f R g h = sym (contents_still (moved_by [] c) (λ p. refl) (contents_of c))
contents_after (a ∷ adds) c f R g h =
    let one = file_with_lem a c f R g h.0 h.1 h.2 in
    let move : ℕ → ℕ = moved (added_at a c) (length (added a)) in
    contents_after adds (tree_with a c) (file_with a c f) one.0 one.1 h.3
    ∙ ap (map_contents (moved_by adds (tree_with a c))) (contents_with a c f R g h.0)
    ∙ sym (contents_twice move (moved_by adds (tree_with a c)) (moved_by (a ∷ adds) c) (λ p. refl) (contents_of c))
