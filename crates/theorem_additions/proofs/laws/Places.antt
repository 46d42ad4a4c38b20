-- Where the headers of a tree stand: inside the bytes of their chunks, eight bytes apart at least; and an addition moves those that
-- were there as it moves every place, so a header that was added is one of the final tree.
use Rattle.std.specs.Prelude.{ℕ, ◌+◌, ◌≤◌, ◌<◌, ◌≡◌, refl, Bool, true, false, List, [], ◌∷◌, ◌++◌, eqb, length}
use Rattle.std.proofs.Common.{sym, ap, ◌∙◌, subst, arith, eq-eqb, eqb-true}
use Rattle.iff_name.specs.Name.{either}
use Rattle.iff_chunk.specs.Chunks.{Chunks, none, leaf, group, Chunk, a_leaf, a_group, before, bytes}
use Rattle.iff_grammar.specs.Grammar.{member, ChunkFile}
use Rattle.iff_grammar.proofs.laws.Read.{length_leaf, length_group}
use Rattle.theorem_additions.specs.Additions.{Boundary, here, past, into, Addition, chunk, trailing, insert, boundary_place, bytes_of}
use Rattle.theorem_additions.specs.Additions.{top_members, added, added_at}
use Rattle.theorem_additions.specs.Additions.{tree_with, file_with, MayAdd, tree_after, MayAddAll, moved, moved_by, headers_from}
use Rattle.theorem_additions.specs.Additions.{new_headers, mapℕ, added_headers}
use Rattle.theorem_additions.proofs.laws.Insert.{no, either_right}
use Rattle.theorem_additions.proofs.laws.Bytes.{At, may_at, length_insert}
use Rattle.theorem_additions.proofs.laws.Files.{outermost_group, file_with_lem}
use Rattle.theorem_additions.proofs.laws.Answers.{Carries, carries_part, carries_first, carries_before, carries_after, moved_before}
use Rattle.theorem_additions.proofs.laws.Answers.{place_low, place_high}

pub either_cases : {P : Type 0} (a b : Bool) → either a b ≡ true → (a ≡ true → P) → (b ≡ true → P) → P
either_cases true b e f g = f refl
either_cases false b e f g = g e

either_left : (a b : Bool) → a ≡ true → either a b ≡ true
either_left true b e = refl
either_left false b e = no cc

member_append : (m : ℕ) (xs ys : List ℕ) → member m (xs ++ ys) ≡ either (member m xs) (member m ys)
member_append m [] ys = refl
member_append m (x ∷ xs) ys = ap (either (eqb x m)) (member_append m xs ys) ∙ sym (assoc (eqb x m) (member m xs) (member m ys))
  where
    assoc : (a b c : Bool) → either (either a b) c ≡ either a (either b c)
    assoc true b c = refl
    assoc false b c = refl

-- a header stands at m among chunks the first of which stands at p
abbrev pub HeaderAt : ℕ → ℕ → Chunks → Type 0
HeaderAt m p F = member m (headers_from p F) ≡ true

pub none_case : {P : Type 0} (m p : ℕ) → HeaderAt m p none → P
unfolding headers_from
none_case m p h = no cc

pub leaf_cases : {P : Type 0} (m p n : ℕ) (d pd : List ℕ) (F : Chunks) → HeaderAt m p (leaf n d pd F)
    → (p ≡ m → P) → (HeaderAt m (p + (8 + length d + length pd)) F → P) → P
unfolding headers_from
leaf_cases m p n d pd F h f g = either_cases (eqb p m) _ h (λ e. f (eqb-true p m e)) g

pub group_cases : {P : Type 0} (m p n t : ℕ) (G F : Chunks) → HeaderAt m p (group n t G F)
    → (p ≡ m → P) → (HeaderAt m (p + 12) G → P) → (HeaderAt m (p + (12 + length (bytes G))) F → P) → P
unfolding headers_from
group_cases m p n t G F h f g k =
    either_cases (eqb p m) _ h (λ e. f (eqb-true p m e))
    (λ e. either_cases (member m (headers_from (p + 12) G)) _ (sym (member_append m (headers_from (p + 12) G) _) ∙ e) g k)

leaf_first : (m p n : ℕ) (d pd : List ℕ) (F : Chunks) → p ≡ m → HeaderAt m p (leaf n d pd F)
unfolding headers_from
leaf_first m p n d pd F e = either_left (eqb p m) _ (eq-eqb p m e)

leaf_rest : (m p n : ℕ) (d pd : List ℕ) (F : Chunks) → HeaderAt m (p + (8 + length d + length pd)) F → HeaderAt m p (leaf n d pd F)
unfolding headers_from
leaf_rest m p n d pd F h = either_right (eqb p m) _ h

group_first : (m p n t : ℕ) (G F : Chunks) → p ≡ m → HeaderAt m p (group n t G F)
unfolding headers_from
group_first m p n t G F e = either_left (eqb p m) _ (eq-eqb p m e)

group_inner : (m p n t : ℕ) (G F : Chunks) → HeaderAt m (p + 12) G → HeaderAt m p (group n t G F)
unfolding headers_from
group_inner m p n t G F h = either_right (eqb p m) _ (member_append m (headers_from (p + 12) G) _ ∙
    either_left (member m (headers_from (p + 12) G)) _ h)

group_rest : (m p n t : ℕ) (G F : Chunks) → HeaderAt m (p + (12 + length (bytes G))) F → HeaderAt m p (group n t G F)
unfolding headers_from
group_rest m p n t G F h = either_right (eqb p m) _ (member_append m (headers_from (p + 12) G) _ ∙
    either_right (member m (headers_from (p + 12) G)) _ h)

pub header_low : (F : Chunks) (m p : ℕ) → HeaderAt m p F → p ≤ m
header_low none m p h = none_case m p h
header_low (leaf n d pd F) m p h = leaf_cases m p n d pd F h (λ e. omega arith) (λ r. omega (arith, header_low F m _ r))
header_low (group n t G F) m p h =
    group_cases m p n t G F h (λ e. omega arith) (λ r. omega (arith, header_low G m _ r)) (λ r. omega (arith, header_low F m _ r))

pub header_high : (F : Chunks) (m p : ℕ) → HeaderAt m p F → m + 8 ≤ p + length (bytes F)
header_high none m p h = none_case m p h
header_high (leaf n d pd F) m p h =
    let len = length_leaf n d pd F in
    leaf_cases m p n d pd F h (λ e. omega arith) (λ r. omega (arith, header_high F m _ r))
header_high (group n t G F) m p h =
    let len = length_group n t G F in
    group_cases m p n t G F h (λ e. omega arith) (λ r. omega (arith, header_high G m _ r)) (λ r. omega (arith, header_high F m _ r))

pub header_apart : (F : Chunks) (a b p : ℕ) → HeaderAt a p F → HeaderAt b p F → a < b → a + 8 ≤ b
header_apart none a b p h k l = none_case a p h
header_apart (leaf n d pd F) a b p h k l =
    leaf_cases b p n d pd F k (λ e. absurd (omega (arith, header_low (leaf n d pd F) a p h)))
    (λ y. leaf_cases a p n d pd F h (λ e. omega (arith, header_low F b _ y)) (λ x. header_apart F a b _ x y l))
header_apart (group n t G F) a b p h k l =
    group_cases b p n t G F k (λ e. absurd (omega (arith, header_low (group n t G F) a p h)))
    (λ y. group_cases a p n t G F h (λ e. omega (arith, header_low G b _ y)) (λ x. header_apart G a b _ x y l)
    (λ x. absurd (omega (arith, header_high G b _ y, header_low F a _ x))))
    (λ y. group_cases a p n t G F h (λ e. omega (arith, header_low F b _ y)) (λ x. omega (arith, header_high G a _ x, header_low F b _ y))
    (λ x. header_apart F a b _ x y l))

header_carried : (F : Chunks) (move : ℕ → ℕ) (m p p' : ℕ) → Carries move p p' (length (bytes F)) → HeaderAt m p F → HeaderAt (move m) p' F
header_carried none move m p p' c h = none_case m p h
header_carried (leaf n d pd F) move m p p' c h =
    let len = length_leaf n d pd F in
    leaf_cases m p n d pd F h (λ e. leaf_first _ p' n d pd F (sym (carries_first move p p' _ (omega arith) c) ∙ ap move e))
    (λ r. leaf_rest _ p' n d pd F (header_carried F move m _ _ (carries_part move p p' _ (8 + length d + length pd) _ (omega arith) c) r))
header_carried (group n t G F) move m p p' c h =
    let len = length_group n t G F in
    group_cases m p n t G F h (λ e. group_first _ p' n t G F (sym (carries_first move p p' _ (omega arith) c) ∙ ap move e))
    (λ r. group_inner _ p' n t G F (header_carried G move m _ _ (carries_part move p p' _ 12 _ (omega arith) c) r))
    (λ r. group_rest _ p' n t G F (header_carried F move m _ _ (carries_part move p p' _ (12 + length (bytes G)) _ (omega arith) c) r))

-- a header that was there is there still
header_kept : (i : Boundary) (X : Chunk) (F : Chunks) (m p : ℕ) → At i F → HeaderAt m p F →
    HeaderAt (moved (boundary_place i p F) (length (bytes_of X)) m) p (insert i X F)
unfolding insert boundary_place bytes
header_kept here (a_leaf n d pd) F m p a h =
    let len = length_leaf n d pd none in
    leaf_rest _ p n d pd F
    (header_carried F (moved p (length (bytes_of (a_leaf n d pd)))) m p _
    (carries_after p (length (bytes_of (a_leaf n d pd))) p (p + (8 + length d + length pd)) _ (omega arith) (omega arith)) h)
header_kept here (a_group n t G) F m p a h =
    let len = length_group n t G none in
    group_rest _ p n t G F
    (header_carried F (moved p (length (bytes_of (a_group n t G)))) m p _
    (carries_after p (length (bytes_of (a_group n t G))) p (p + (12 + length (bytes G))) _ (omega arith) (omega arith)) h)
header_kept (past i) X none m p a h = absurd a
header_kept (past i) X (leaf n d pd F) m p a h =
    let low = place_low i F (p + (8 + length d + length pd)) in
    leaf_cases m p n d pd F h (λ e. leaf_first _ p n d pd _ (e ∙
    sym (moved_before _ _ m (omega arith)))) (λ r. leaf_rest _ p n d pd _ (header_kept i X F m _ a r))
header_kept (past i) X (group n t G F) m p a h =
    let q : ℕ = boundary_place i (p + (12 + length (bytes G))) F in
    let k : ℕ = length (bytes_of X) in
    let low = place_low i F (p + (12 + length (bytes G))) in
    group_cases m p n t G F h (λ e. group_first _ p n t G _ (e ∙ sym (moved_before q k m (omega arith))))
    (λ r. group_inner _ p n t G _ (header_carried G (moved q k) m _ _ (carries_before q k (p + 12) (length (bytes G)) (omega arith)) r))
    (λ r. group_rest _ p n t G _ (header_kept i X F m _ a r))
header_kept (into i) X none m p a h = absurd a
header_kept (into i) X (leaf n d pd F) m p a h = absurd a
header_kept (into i) X (group n t G F) m p a h =
    let low = place_low i G (p + 12) in
    let high = place_high i G (p + 12) a in
    let len = length_insert i X G a in
    group_cases m p n t G F h (λ e. group_first _ p n t _ F (e ∙ sym (moved_before _ _ m (omega arith))))
    (λ r. group_inner _ p n t _ F (header_kept i X G m _ a r))
    (λ r. group_rest _ p n t (insert i X G) F
    (header_carried F (moved (boundary_place i (p + 12) G) (length (bytes_of X))) m _ _
    (carries_after (boundary_place i (p + 12) G) (length (bytes_of X)) (p + (12 + length (bytes G))) (p + (12 + length (bytes (insert i X G)))) _ (omega arith) (omega arith)) r))

-- a header of what was added is there
header_new : (i : Boundary) (X : Chunk) (F : Chunks) (m p : ℕ) → At i F → HeaderAt m (boundary_place i p F) (before X none) →
    HeaderAt m p (insert i X F)
unfolding insert boundary_place
header_new here (a_leaf n d pd) F m p a h = leaf_cases m p n d pd none h (λ e. leaf_first m p n d pd F e) (λ r. none_case m _ r)
header_new here (a_group n t G) F m p a h =
    group_cases m p n t G none h (λ e. group_first m p n t G F e) (λ r. group_inner m p n t G F r) (λ r. none_case m _ r)
header_new (past i) X none m p a h = absurd a
header_new (past i) X (leaf n d pd F) m p a h = leaf_rest m p n d pd _ (header_new i X F m _ a h)
header_new (past i) X (group n t G F) m p a h = group_rest m p n t G _ (header_new i X F m _ a h)
header_new (into i) X none m p a h = absurd a
header_new (into i) X (leaf n d pd F) m p a h = absurd a
header_new (into i) X (group n t G F) m p a h = group_inner m p n t _ F (header_new i X G m _ a h)

-- a header inside the outermost chunk
abbrev pub InnerAt : ℕ → Chunk → Type 0
InnerAt m c = HeaderAt m 12 (top_members c)

inner_kept : (a : Addition) (c : Chunk) (f R : List ℕ) (m : ℕ) → ChunkFile f c R → MayAdd a c f → InnerAt m c
    → InnerAt (moved (added_at a c) (length (added a)) m) (tree_with a c)
inner_kept (chunk i X) (a_leaf n d p) f R m g h r = none_case m 12 r
inner_kept (chunk i X) (a_group n t G) f R m g h r = header_kept i X G m 12 (may_at i X G _ [] h) r
inner_kept (trailing k xs) (a_leaf n d p) f R m g h r = none_case m 12 r
inner_kept (trailing k xs) (a_group n t G) f R m g h r =
    let len = length_group n t G none in
    let high = header_high G m 12 r in
    let same = moved_before (length (bytes_of (a_group n t G)) + k) (length xs) m (omega arith) in
    subst (λ (q : ℕ). HeaderAt q 12 G) (sym same) r

inner_new : (a : Addition) (c : Chunk) (f R : List ℕ) (m : ℕ) → ChunkFile f c R → MayAdd a c f → member m (new_headers a c) ≡ true →
    InnerAt m (tree_with a c)
inner_new (chunk i X) (a_leaf n d p) f R m g h r = outermost_group f n d p R g
inner_new (chunk i X) (a_group n t G) f R m g h r = header_new i X G m 12 (may_at i X G _ [] h) r
inner_new (trailing k xs) c f R m g h r = no cc

inner_after : (adds : List Addition) (c : Chunk) (f R : List ℕ) (m : ℕ) → ChunkFile f c R → MayAddAll adds c f → InnerAt m c
    → InnerAt (moved_by adds c m) (tree_after adds c)
unfolding moved_by tree_after
inner_after [] c f R m g h r = r
inner_after (a ∷ adds) c f R m g h r =
    let one = file_with_lem a c f R g h.0 h.1 h.2 in
    inner_after adds (tree_with a c) (file_with a c f) one.0 _ one.1 h.3 (inner_kept a c f R m g h.0 r)

map_cases : {P : Type 0} (g : ℕ → ℕ) (m : ℕ) (xs : List ℕ) → member m (mapℕ g xs) ≡ true → ((x : ℕ) → member x xs ≡ true → g x ≡ m → P) → P
map_cases g m [] h k = no cc
map_cases g m (x ∷ xs) h k =
    either_cases (eqb (g x) m) _ h (λ e. k x (either_left (eqb x x) _ (eq-eqb x x refl)) (eqb-true (g x) m e))
    (λ r. map_cases g m xs r (λ y a b. k y (either_right (eqb x y) _ a) b))

pub added_inner : (adds : List Addition) (c : Chunk) (f R : List ℕ) (m : ℕ) → ChunkFile f c R → MayAddAll adds c f
    → member m (added_headers adds c) ≡ true → InnerAt m (tree_after adds c)
unfolding added_headers tree_after
added_inner [] c f R m g h r = no cc
added_inner (a ∷ adds) c f R m g h r =
    let one = file_with_lem a c f R g h.0 h.1 h.2 in
    let move : ℕ → ℕ = λ p. moved_by adds (tree_with a c) p in
    let news : List ℕ = mapℕ move (new_headers a c) in
    let olds : List ℕ = added_headers adds (tree_with a c) in
    either_cases (member m news) (member m olds) (sym (member_append m news olds) ∙ r)
    (λ x. map_cases move m (new_headers a c) x (λ y b e.
    subst (λ (q : ℕ). InnerAt q (tree_after adds (tree_with a c))) e
    (inner_after adds (tree_with a c) (file_with a c f) one.0 y one.1 h.3 (inner_new a c f R y g h.0 b))))
    (λ x. added_inner adds (tree_with a c) (file_with a c f) one.0 m one.1 h.3 x)
