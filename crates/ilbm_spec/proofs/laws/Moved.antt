-- Chunks that stand elsewhere show the same pictures; only the places that are told move, as the chunks themselves do.
use Rattle.std.specs.Prelude.{ℕ, ◌+◌, ◌≡◌, Bool, eqb}
use Rattle.std.proofs.Math.Path.{refl, sym, ap, ap₂}
use Rattle.std.proofs.Common.{◌∙◌}
use Rattle.std.proofs.Math.Bool.{true, false}
use mathlib.Core.List.{List, [], ◌∷◌, ◌++◌}
use Rattle.std.proofs.Math.Option.{Option, some, none as nothing}
use Rattle.std.proofs.Math.ListN.{length}
use Rattle.iff_name.specs.Name.{pick}
use Rattle.iff_name.specs.Codes.{LIST}
use Rattle.iff_chunk.specs.Chunks.{Chunks, none, leaf, group, bytes}
use Rattle.ilbm_spec.specs.Names.{BMHD, CMAP, GRAB, DEST, SPRT, CAMG, BODY, is_picture, is_shared_prop}
use Rattle.ilbm_spec.specs.Contents.{Located, located, last_named, at_body, nowhere, Property, own, shared, absent, Scope, shared_or}
use Rattle.ilbm_spec.specs.Contents.{prop_scope, list_scope, scope_inside, own_or, property_of, bodies_from, Content, content_of}
use Rattle.ilbm_spec.specs.Contents.{contents_from}
use Rattle.ilbm_spec.specs.Contents.{moved_located, moved_property, moved_bodies, moved_content}
use Rattle.ilbm_spec.specs.Ignored.{Known}
use Rattle.ilbm_spec.proofs.laws.Ignored.{known}
use Rattle.ilbm_spec.specs.Moved.{moved_option, map_contents, ChunksMove, SameScope}

module _ (move : ℕ → ℕ) where
  pub pick_moved :
      (b : Bool) (p p' : ℕ) (d : List ℕ) (o o' : Option Located) → move p ≡ p' → o' ≡ moved_option move o →
      pick b (some (located p' d)) o' ≡ moved_option move (pick b (some (located p d)) o)
  pick_moved true p p' d o o' m e = ap (λ (q : ℕ). some (located q d)) (sym m)
  pick_moved false p p' d o o' m e = e

  pub ended_moved :
      (b : Bool) (o o' v v' : Option Located) → o' ≡ moved_option move o → v' ≡ moved_option move v →
      pick b o' v' ≡ moved_option move (pick b o v)
  ended_moved true o o' v v' e f = e
  ended_moved false o o' v v' e f = f

  -- the last chunk of a name
  pub named_carried :
      (ends : ℕ → Bool) (name : ℕ) (F : Chunks) (p p' : ℕ) (o o' : Option Located) → ChunksMove move p p' F → o' ≡ moved_option move o →
      last_named ends name p' o' F ≡ moved_option move (last_named ends name p o F)
  unfolding last_named
  named_carried ends name none p p' o o' c e = e
  named_carried ends name (leaf n d pad F) p p' o o' c e =
      ended_moved (ends n) o o' _ _ e (named_carried ends name F _ _ _ _ c.1 (pick_moved (eqb n name) p p' d o o' c.0 e))
  named_carried ends name (group n t G F) p p' o o' c e = named_carried ends name F _ _ o o' c.2 e

  bodies_append : (xs ys : List Located) → moved_bodies move (xs ++ ys) ≡ moved_bodies move xs ++ moved_bodies move ys
  unfolding moved_bodies
  bodies_append [] ys = refl
  bodies_append (x ∷ xs) ys = ap (λ (l : List Located). moved_located move x ∷ l) (bodies_append xs ys)

  pub body_moved :
      (b : Bool) (p p' : ℕ) (d : List ℕ) (B B' : List Located) → move p ≡ p' → B' ≡ moved_bodies move B →
      pick b (located p' d ∷ []) [] ++ B' ≡ moved_bodies move (pick b (located p d ∷ []) [] ++ B)
  unfolding moved_bodies
  body_moved true p p' d B B' m e = ap₂ (λ (q : ℕ) (l : List Located). located q d ∷ l) (sym m) e
  body_moved false p p' d B B' m e = e

  -- the BODYs
  pub bodies_carried : (F : Chunks) (p p' : ℕ) → ChunksMove move p p' F → bodies_from p' F ≡ moved_bodies move (bodies_from p F)
  unfolding bodies_from moved_bodies
  bodies_carried none p p' c = refl
  bodies_carried (leaf n d pad F) p p' c = body_moved (eqb n BODY) p p' d _ _ c.0 (bodies_carried F _ _ c.1)
  bodies_carried (group n t G F) p p' c = bodies_carried F _ _ c.2

  -- a property of the PROP at p moves with it, one from further out with its own PROP
  shared_moved :
      (p p' : ℕ) (o o' : Option Located) (q q' : Property) → move p ≡ p' → o' ≡ moved_option move o → q' ≡ moved_property move q →
      shared_or p' o' q' ≡ moved_property move (shared_or p o q)
  shared_moved p p' o o' q q' m e f = rw (← m, e, f) (go o)
    where
      go : (o : Option Located) → shared_or (move p) (moved_option move o) (moved_property move q) ≡ moved_property move (shared_or p o q)
      go (some x) = refl
      go nothing = refl

  own_moved : (o : Option Located) (q : Property) → own_or (moved_option move o) (moved_property move q) ≡ moved_property move (own_or o q)
  own_moved (some x) q = refl
  own_moved nothing q = refl

  -- the properties and the BODYs of a FORM whose members are G, and then G'
  pub content_moved :
      (p p' : ℕ) (G G' : Chunks) (scope scope' : Scope) → move p ≡ p' →
      ((name : ℕ) → Known name → last_named at_body name (p' + 12) nothing G' ≡ moved_option move (last_named at_body name (p + 12) nothing G)) →
      bodies_from (p' + 12) G' ≡ moved_bodies move (bodies_from (p + 12) G) → SameScope move scope scope' →
      content_of p' G' scope' ≡ moved_content move (content_of p G scope)
  unfolding property_of
  content_moved p p' G G' scope scope' m e b s =
      let one : (name : ℕ) → Known name → property_of name p' G' scope' ≡ moved_property move (property_of name p G scope) =
      λ name k. ap₂ own_or (e name k) (s name k) ∙ own_moved (last_named at_body name (p + 12) nothing G) (scope name) in
      λ i. record {
        place = sym m i;
        bmhd = one BMHD known.0 i;
        cmap = one CMAP known.1 i;
        grab = one GRAB known.2 i;
        dest = one DEST known.3 i;
        sprt = one SPRT known.4 i;
        camg = one CAMG known.5 i;
        bodies = b i;
      }

  pub content_carried :
      (p p' : ℕ) (G : Chunks) (scope scope' : Scope) → move p ≡ p' → ChunksMove move (p + 12) (p' + 12) G → SameScope move scope scope' →
      content_of p' G scope' ≡ moved_content move (content_of p G scope)
  content_carried p p' G scope scope' m c s =
      content_moved p p' G G scope scope' m (λ name k. named_carried at_body name G _ _ nothing nothing c refl) (bodies_carried G _ _ c) s

  map_append : (xs ys : List Content) → map_contents move (xs ++ ys) ≡ map_contents move xs ++ map_contents move ys
  map_append [] ys = refl
  map_append (c ∷ cs) ys = ap (λ (l : List Content). moved_content move c ∷ l) (map_append cs ys)

  -- a group's own content, its members' and those behind it
  pub group_moved :
      (b : Bool) (C C' : Content) (A A' B B' : List Content) → C' ≡ moved_content move C → A' ≡ map_contents move A →
      B' ≡ map_contents move B →
      pick b (C' ∷ []) [] ++ (A' ++ B') ≡ map_contents move (pick b (C ∷ []) [] ++ (A ++ B))
  group_moved true C C' A A' B B' c a b =
      ap₂ (λ (x : Content) (l : List Content). x ∷ l) c (ap₂ (λ (x y : List Content). x ++ y) a b ∙ sym (map_append A B))
  group_moved false C C' A A' B B' c a b = ap₂ (λ (x y : List Content). x ++ y) a b ∙ sym (map_append A B)

  -- one scope or another
  pub pick_scope :
      (b : Bool) (near near' far far' : Scope) → SameScope move near near' → SameScope move far far' →
      SameScope move (pick b near far) (pick b near' far')
  pick_scope true near near' far far' n f = n
  pick_scope false near near' far far' n f = f

  -- what a PROP gives whose members are G, and then G'
  pub prop_moved :
      (p p' : ℕ) (G G' : Chunks) (scope scope' : Scope) → move p ≡ p' →
      ((name : ℕ) → Known name →
      last_named nowhere name (p' + 12) nothing G' ≡ moved_option move (last_named nowhere name (p + 12) nothing G)) →
      SameScope move scope scope' → SameScope move (prop_scope p G scope) (prop_scope p' G' scope')
  prop_moved p p' G G' scope scope' m e s =
      λ name k. shared_moved p p' (last_named nowhere name (p + 12) nothing G) _ (scope name) _ m (e name k) (s name k)

  pub prop_carried :
      (p p' : ℕ) (G : Chunks) (scope scope' : Scope) → move p ≡ p' → ChunksMove move (p + 12) (p' + 12) G →
      SameScope move scope scope' → SameScope move (prop_scope p G scope) (prop_scope p' G scope')
  prop_carried p p' G scope scope' m c s =
      prop_moved p p' G G scope scope' m (λ name k. named_carried nowhere name G _ _ nothing nothing c refl) s

  -- the scope in a LIST
  pub scope_carried :
      (F : Chunks) (p p' : ℕ) (scope scope' : Scope) → ChunksMove move p p' F → SameScope move scope scope' →
      SameScope move (list_scope p F scope) (list_scope p' F scope')
  unfolding list_scope
  scope_carried none p p' scope scope' c s = s
  scope_carried (leaf n d pad F) p p' scope scope' c s = scope_carried F _ _ scope scope' c.1 s
  scope_carried (group n t G F) p p' scope scope' c s =
      pick_scope (is_shared_prop n t) _ _ _ _ (prop_carried p p' G scope scope' c.0 c.1 s)
      (scope_carried F _ _ scope scope' c.2 s)

  -- the pictures
  pub contents_carried :
      (F : Chunks) (p p' : ℕ) (scope scope' : Scope) → ChunksMove move p p' F → SameScope move scope scope' →
      contents_from p' scope' F ≡ map_contents move (contents_from p scope F)
  unfolding contents_from
  contents_carried none p p' scope scope' c s = refl
  contents_carried (leaf n d pad F) p p' scope scope' c s = contents_carried F _ _ scope scope' c.1 s
  contents_carried (group n t G F) p p' scope scope' c s =
      let s' = pick_scope (eqb n LIST) _ _ scope scope' (scope_carried G _ _ scope scope' c.1 s) s in
      group_moved (is_picture n t) (content_of p G scope) _
      (contents_from (p + 12) (scope_inside n p G scope) G) _ (contents_from (p + (12 + length (bytes G))) scope F) _
      (content_carried p p' G scope scope' c.0 c.1 s)
      (contents_carried G _ _ (scope_inside n p G scope) (scope_inside n p' G scope') c.1 s')
      (contents_carried F _ _ scope scope' c.2 s)
