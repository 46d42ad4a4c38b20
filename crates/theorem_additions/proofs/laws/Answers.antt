-- One addition leaves the contents of every picture, their places moved: chunks before the boundary keep their place, chunks behind it
-- move by the bytes added, a group around it keeps its place, and what is added has no picture in it.
use Rattle.std.specs.Prelude.{ℕ, ◌+◌, ◌≤◌, ◌<◌, ◌≡◌, refl, Bool, eqb, length}
use Rattle.std.proofs.Common.{sym, ap, ◌∙◌, add-zero, arith, le-leb}
use Rattle.std.proofs.Math.Option.{Option, none as nothing}
use Rattle.std.proofs.lemmas.Bool.{lt-leb}
use Rattle.iff_chunk.specs.Chunks.{Chunks, none, leaf, group, Chunk, a_leaf, a_group, bytes}
use Rattle.iff_grammar.proofs.laws.Read.{length_leaf, length_group}
use Rattle.iff_name.specs.Codes.{LIST}
use Rattle.ilbm_spec.specs.Names.{BODY, is_picture, is_shared_prop}
use Rattle.ilbm_spec.specs.Contents.{Located, last_named, at_body, nowhere, Scope, list_scope, scope_inside, bodies_from, content_of}
use Rattle.ilbm_spec.specs.Contents.{contents_from, moved_bodies}
use Rattle.ilbm_spec.specs.Ignored.{Ignored, span, Passes, Known}
use Rattle.ilbm_spec.proofs.laws.Ignored.{known, named_past, bodies_past, scope_past, contents_past}
use Rattle.ilbm_spec.specs.Moved.{moved_option, map_contents, ChunksMove, SameScope}
use Rattle.ilbm_spec.proofs.laws.Moved.{pick_moved, ended_moved, body_moved, named_carried, scope_carried, contents_carried}
use Rattle.ilbm_spec.proofs.laws.Moved.{bodies_carried, content_moved, content_carried, group_moved, pick_scope, prop_moved, prop_carried}
use Rattle.theorem_additions.specs.Additions.{Boundary, here, past, into, insert, boundary_place, bytes_of, moved}
use Rattle.theorem_additions.proofs.laws.Bytes.{At, length_insert}

-- the places of so many bytes from p on are carried to those from p' on
abbrev pub Carries : (ℕ → ℕ) → ℕ → ℕ → ℕ → Type 0
Carries move p p' len = (x : ℕ) → x < len → move (p + x) ≡ p' + x

pub carries_part : (move : ℕ → ℕ) (p p' len a b : ℕ) → a + b ≤ len → Carries move p p' len → Carries move (p + a) (p' + a) b
carries_part move p p' len a b h c x l =
    let e : p + a + x ≡ p + (a + x) = omega arith in
    let e' : p' + (a + x) ≡ p' + a + x = omega arith in
    ap move e ∙ c (a + x) (omega arith) ∙ e'

pub carries_first : (move : ℕ → ℕ) (p p' len : ℕ) → 0 < len → Carries move p p' len → move p ≡ p'
carries_first move p p' len h c = ap move (sym (add-zero p)) ∙ c 0 h ∙ add-zero p'

pub moved_after : (q k p : ℕ) → q ≤ p → moved q k p ≡ p + k
moved_after q k p h = rw (le-leb q p h)

pub moved_before : (q k p : ℕ) → p < q → moved q k p ≡ p
moved_before q k p h = rw (lt-leb q p h)

pub carries_before : (q k p len : ℕ) → p + len ≤ q → Carries (moved q k) p p len
carries_before q k p len h x l = moved_before q k (p + x) (omega arith)

pub carries_after : (q k p p' len : ℕ) → q ≤ p → p + k ≡ p' → Carries (moved q k) p p' len
carries_after q k p p' len h e x l = moved_after q k (p + x) (omega arith) ∙ omega arith

-- what moves the places of some chunks moves each chunk among them
pub chunks_move : (F : Chunks) (move : ℕ → ℕ) (p p' : ℕ) → Carries move p p' (length (bytes F)) → ChunksMove move p p' F
chunks_move none move p p' c = tt
chunks_move (leaf n d pd F) move p p' c =
    let len = length_leaf n d pd F in (
      carries_first move p p' _ (omega arith) c,
      chunks_move F move _ _ (carries_part move p p' _ (8 + length d + length pd) (length (bytes F)) (omega arith) c),
    )
chunks_move (group n t G F) move p p' c =
    let len = length_group n t G F in (
      carries_first move p p' _ (omega arith) c,
      chunks_move G move _ _ (carries_part move p p' _ 12 (length (bytes G)) (omega arith) c),
      chunks_move F move _ _ (carries_part move p p' _ (12 + length (bytes G)) (length (bytes F)) (omega arith) c),
    )

pub chunks_before : (F : Chunks) (q k p : ℕ) → p + length (bytes F) ≤ q → ChunksMove (moved q k) p p F
chunks_before F q k p h = chunks_move F (moved q k) p p (carries_before q k p (length (bytes F)) h)

chunks_after : (F : Chunks) (q k p p' : ℕ) → q ≤ p → p + k ≡ p' → ChunksMove (moved q k) p p' F
chunks_after F q k p p' h e = chunks_move F (moved q k) p p' (carries_after q k p p' (length (bytes F)) h e)

span_length : (X : Chunk) → length (bytes_of X) ≡ span X
unfolding bytes
span_length (a_leaf n d p) = length_leaf n d p none ∙ add-zero (8 + length d + length p)
span_length (a_group n t G) = length_group n t G none ∙ add-zero (12 + length (bytes G))

-- the boundary lies between the first byte of the chunks and the end of the last
pub place_low : (i : Boundary) (F : Chunks) (p : ℕ) → p ≤ boundary_place i p F
unfolding boundary_place
place_low here F p = omega arith
place_low (past i) none p = omega arith
place_low (past i) (leaf n d pd F) p = omega (arith, place_low i F (p + (8 + length d + length pd)))
place_low (past i) (group n t G F) p = omega (arith, place_low i F (p + (12 + length (bytes G))))
place_low (into i) none p = omega arith
place_low (into i) (leaf n d pd F) p = omega arith
place_low (into i) (group n t G F) p = omega (arith, place_low i G (p + 12))

pub place_high : (i : Boundary) (F : Chunks) (p : ℕ) → At i F → boundary_place i p F ≤ p + length (bytes F)
unfolding boundary_place
place_high here F p h = omega arith
place_high (past i) none p h = absurd h
place_high (past i) (leaf n d pd F) p h = omega (arith, place_high i F (p + (8 + length d + length pd)) h, length_leaf n d pd F)
place_high (past i) (group n t G F) p h = omega (arith, place_high i F (p + (12 + length (bytes G))) h, length_group n t G F)
place_high (into i) none p h = absurd h
place_high (into i) (leaf n d pd F) p h = absurd h
place_high (into i) (group n t G F) p h = omega (arith, place_high i G (p + 12) h, length_group n t G F)

-- what follows an addition inside the first group
behind :
    (i : Boundary) (X : Chunk) (G F : Chunks) → At i G → (p : ℕ) →
    ChunksMove (moved (boundary_place i (p + 12) G) (length (bytes_of X)))
    (p + (12 + length (bytes G))) (p + (12 + length (bytes (insert i X G)))) F
behind i X G F h p =
    let high = place_high i G (p + 12) h in
    let len = length_insert i X G h in
    chunks_after F (boundary_place i (p + 12) G) (length (bytes_of X)) _ _ (omega arith) (omega arith)

-- what follows an addition before the first chunk
shifted : (X : Chunk) (F : Chunks) (p : ℕ) → ChunksMove (moved p (length (bytes_of X))) p (p + span X) F
shifted X F p = chunks_after F p (length (bytes_of X)) p (p + span X) (omega arith) (ap (λ (k : ℕ). p + k) (span_length X))

-- the last chunk of a name
named_inserted :
    (ends : ℕ → Bool) → Passes ends → (name : ℕ) → Known name → (i : Boundary) (X : Chunk) (F : Chunks) → Ignored X → At i F →
    (p : ℕ) (o o' : Option Located) → o' ≡ moved_option (moved (boundary_place i p F) (length (bytes_of X))) o →
    last_named ends name p o' (insert i X F) ≡ moved_option (moved (boundary_place i p F) (length (bytes_of X))) (last_named ends name p o F)
unfolding last_named boundary_place insert
named_inserted ends e name k here X F g h p o o' s = named_past ends e name k X F g p o' ∙
    named_carried _ ends name F p _ o o' (shifted X F p) s
named_inserted ends e name k (past i) X none g h p o o' s = absurd h
named_inserted ends e name k (past i) X (leaf n d pd F) g h p o o' s =
    let low = place_low i F (p + (8 + length d + length pd)) in
    ended_moved _ (ends n) o o' _ _ s
    (named_inserted ends e name k i X F g h _ _ _ (pick_moved _ (eqb n name) p p d o o' (moved_before _ _ p (omega arith)) s))
named_inserted ends e name k (past i) X (group n t G F) g h p o o' s = named_inserted ends e name k i X F g h _ o o' s
named_inserted ends e name k (into i) X none g h p o o' s = absurd h
named_inserted ends e name k (into i) X (leaf n d pd F) g h p o o' s = absurd h
named_inserted ends e name k (into i) X (group n t G F) g h p o o' s = named_carried _ ends name F _ _ o o' (behind i X G F h p) s

-- the BODYs
bodies_inserted :
    (i : Boundary) (X : Chunk) (F : Chunks) → Ignored X → At i F → (p : ℕ) →
    bodies_from p (insert i X F) ≡ moved_bodies (moved (boundary_place i p F) (length (bytes_of X))) (bodies_from p F)
unfolding bodies_from boundary_place insert
bodies_inserted here X F g h p = bodies_past X F g p ∙ bodies_carried _ F p _ (shifted X F p)
bodies_inserted (past i) X none g h p = absurd h
bodies_inserted (past i) X (leaf n d pd F) g h p =
    let low = place_low i F (p + (8 + length d + length pd)) in
    body_moved _ (eqb n BODY) p p d _ _ (moved_before _ _ p (omega arith)) (bodies_inserted i X F g h _)
bodies_inserted (past i) X (group n t G F) g h p = bodies_inserted i X F g h _
bodies_inserted (into i) X none g h p = absurd h
bodies_inserted (into i) X (leaf n d pd F) g h p = absurd h
bodies_inserted (into i) X (group n t G F) g h p = bodies_carried _ F _ _ (behind i X G F h p)

-- the scope in a LIST
scope_inserted :
    (i : Boundary) (X : Chunk) (F : Chunks) → Ignored X → At i F → (p : ℕ) (scope scope' : Scope) →
    SameScope (moved (boundary_place i p F) (length (bytes_of X))) scope scope' →
    SameScope (moved (boundary_place i p F) (length (bytes_of X))) (list_scope p F scope) (list_scope p (insert i X F) scope')
unfolding list_scope boundary_place insert
scope_inserted here X F g h p scope scope' s =
    λ name k. rw (scope_past X F g p scope') (scope_carried _ F p (p + span X) scope scope' (shifted X F p) s name k)
scope_inserted (past i) X none g h p scope scope' s = absurd h
scope_inserted (past i) X (leaf n d pd F) g h p scope scope' s = scope_inserted i X F g h _ scope scope' s
scope_inserted (past i) X (group n t G F) g h p scope scope' s =
    let low = place_low i F (p + (12 + length (bytes G))) in
    let c = chunks_before G (boundary_place i (p + (12 + length (bytes G))) F) (length (bytes_of X)) (p + 12) (omega arith) in
    pick_scope _ (is_shared_prop n t) _ _ _ _ (prop_carried _ p p G scope scope' (moved_before _ _ p (omega arith)) c s)
    (scope_inserted i X F g h _ scope scope' s)
scope_inserted (into i) X none g h p scope scope' s = absurd h
scope_inserted (into i) X (leaf n d pd F) g h p scope scope' s = absurd h
scope_inserted (into i) X (group n t G F) g h p scope scope' s =
    let low = place_low i G (p + 12) in
    pick_scope _ (is_shared_prop n t) _ _ _ _
    (prop_moved _ p p G (insert i X G) scope scope' (moved_before _ _ p (omega arith))
    (λ name k. named_inserted nowhere (λ n h. refl) name k i X G g h (p + 12) nothing nothing refl) s)
    (scope_carried _ F _ _ scope scope' (behind i X G F h p) s)

-- the pictures
pub contents_inserted :
    (i : Boundary) (X : Chunk) (F : Chunks) → Ignored X → At i F → (p : ℕ) (scope scope' : Scope) →
    SameScope (moved (boundary_place i p F) (length (bytes_of X))) scope scope' →
    contents_from p scope' (insert i X F) ≡ map_contents (moved (boundary_place i p F) (length (bytes_of X))) (contents_from p scope F)
unfolding contents_from boundary_place insert
contents_inserted here X F g h p scope scope' s =
    contents_past X F g p scope' ∙ contents_carried _ F p (p + span X) scope scope' (shifted X F p) s
contents_inserted (past i) X none g h p scope scope' s = absurd h
contents_inserted (past i) X (leaf n d pd F) g h p scope scope' s = contents_inserted i X F g h _ scope scope' s
contents_inserted (past i) X (group n t G F) g h p scope scope' s =
    let q : ℕ = boundary_place i (p + (12 + length (bytes G))) F in
    let move : ℕ → ℕ = moved q (length (bytes_of X)) in
    let low = place_low i F (p + (12 + length (bytes G))) in
    let c = chunks_before G q (length (bytes_of X)) (p + 12) (omega arith) in
    let s' = pick_scope move (eqb n LIST) _ _ scope scope' (scope_carried move G _ _ scope scope' c s) s in
    group_moved move (is_picture n t) (content_of p G scope) _
    (contents_from (p + 12) (scope_inside n p G scope) G) _ (contents_from (p + (12 + length (bytes G))) scope F) _
    (content_carried move p p G scope scope' (moved_before _ _ p (omega arith)) c s)
    (contents_carried move G _ _ (scope_inside n p G scope) (scope_inside n p G scope') c s')
    (contents_inserted i X F g h _ scope scope' s)
contents_inserted (into i) X none g h p scope scope' s = absurd h
contents_inserted (into i) X (leaf n d pd F) g h p scope scope' s = absurd h
contents_inserted (into i) X (group n t G F) g h p scope scope' s =
    let q : ℕ = boundary_place i (p + 12) G in
    let move : ℕ → ℕ = moved q (length (bytes_of X)) in
    let G' : Chunks = insert i X G in
    let low = place_low i G (p + 12) in
    let s' = pick_scope move (eqb n LIST) _ _ scope scope' (scope_inserted i X G g h (p + 12) scope scope' s) s in
    group_moved move (is_picture n t) (content_of p G scope) _
    (contents_from (p + 12) (scope_inside n p G scope) G) _ (contents_from (p + (12 + length (bytes G))) scope F) _
    (content_moved move p p G G' scope scope' (moved_before _ _ p (omega arith))
    (λ name k. named_inserted at_body known.6 name k i X G g h (p + 12) nothing nothing refl) (bodies_inserted i X G g h (p + 12)) s)
    (contents_inserted i X G g h (p + 12) (scope_inside n p G scope) (scope_inside n p G' scope') s')
    (contents_carried move F _ _ scope scope' (behind i X G F h p) s)
