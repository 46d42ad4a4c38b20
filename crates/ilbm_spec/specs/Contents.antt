-- 01 "Pictures": which FORMs are pictures, and which properties count for each. Every chunk that counts is given with its place.
use Rattle.std.specs.Prelude.{ℕ, ◌+◌, Bool, true, false, not, List, [], ◌∷◌, ◌++◌, eqb, length}
use Rattle.std.proofs.Math.Option.{Option, some, none as nothing}
use Rattle.iff_name.specs.Name.{both, pick}
use Rattle.iff_name.specs.Codes.{LIST}
use Rattle.iff_chunk.specs.Chunks.{Chunks, none, leaf, group, Chunk, before, bytes}
use Rattle.ilbm_spec.specs.Names.{BMHD, CMAP, GRAB, DEST, SPRT, CAMG, BODY, is_picture, is_shared_prop}

-- A chunk that counts: its place in the file, and its data, which begins 8 further on.
pub record Located : Type 0 where
  pub place : ℕ
  pub content : List ℕ

abbrev pub located : ℕ → List ℕ → Located
located p d = record { place = p; content = d }

-- "of several, the last": the last chunk of this name, so far and then among chunks of which the first stands at p, up to one whose
-- name ends the search
unfoldable pub last_named : (ℕ → Bool) → ℕ → ℕ → Option Located → Chunks → Option Located
last_named ends name p so_far none = so_far
last_named ends name p so_far (leaf n d pad F) =
    pick (ends n) so_far
    (last_named ends name (p + (8 + length d + length pad)) (pick (eqb n name) (some (located p d)) so_far) F)
last_named ends name p so_far (group n t G F) = last_named ends name (p + (12 + length (bytes G))) so_far F

-- "before the first BODY (anywhere, if there is no BODY)": what ends the search in a FORM, and that nothing ends it in a PROP
abbrev pub at_body : ℕ → Bool
at_body n = eqb n BODY

abbrev pub nowhere : ℕ → Bool
nowhere n = false

-- "Each property is told with its origin: own, shared with the place of the PROP, or absent."
pub data Property : Type 0 where
  own : Located → Property
  shared : ℕ → Located → Property
  absent : Property

-- What the PROPs around a FORM give for each name.
abbrev pub Scope : Type 0
Scope = ℕ → Property

abbrev pub no_scope : Scope
no_scope = λ name. absent

-- 02, Ask 1: "looked for in the nearest enclosing LIST whose PROP ILBM has that property, going outward. The origin names that PROP."
abbrev pub shared_or : ℕ → Option Located → Property → Property
shared_or place (some x) outer = shared place x
shared_or place nothing outer = outer

-- "the shared PROP gives its last one": the scope that the PROP at p with the members G makes in the one around its LIST
abbrev pub prop_scope : ℕ → Chunks → Scope → Scope
prop_scope p G scope = λ name. shared_or p (last_named nowhere name (p + 12) nothing G) (scope name)

-- the scope for the members of a LIST, the first of which stands at p, in the scope around it: "The standard scopes each property by
-- itself."
unfoldable pub list_scope : ℕ → Chunks → Scope → Scope
list_scope p none scope = scope
list_scope p (leaf n d pad F) scope = list_scope (p + (8 + length d + length pad)) F scope
list_scope p (group n t G F) scope = pick (is_shared_prop n t) (prop_scope p G scope) (list_scope (p + (12 + length (bytes G))) F scope)

-- the scope for the members of a group of this name at p
abbrev pub scope_inside : ℕ → ℕ → Chunks → Scope → Scope
scope_inside n p G scope = pick (eqb n LIST) (list_scope (p + 12) G scope) scope

-- "If the FORM has none"
abbrev pub own_or : Option Located → Property → Property
own_or (some x) other = own x
own_or nothing other = other

-- The property of this name that counts in the FORM at p: "One counts if it stands directly in the FORM before the first BODY". "A
-- FORM's own properties don't reach FORMs inside it."
unfoldable pub property_of : ℕ → ℕ → Chunks → Scope → Property
property_of name p G scope = own_or (last_named at_body name (p + 12) nothing G) (scope name)

-- the BODYs directly among chunks of which the first stands at p
unfoldable pub bodies_from : ℕ → Chunks → List Located
bodies_from p none = []
bodies_from p (leaf n d pad F) = pick (eqb n BODY) (located p d ∷ []) [] ++ bodies_from (p + (8 + length d + length pad)) F
bodies_from p (group n t G F) = bodies_from (p + (12 + length (bytes G))) F

-- All that a picture's calls look at: the FORM's place, the six properties that count, and the BODYs.
pub record Content : Type 0 where
  pub place : ℕ
  pub bmhd : Property
  pub cmap : Property
  pub grab : Property
  pub dest : Property
  pub sprt : Property
  pub camg : Property
  pub bodies : List Located

-- the six properties by their names
abbrev pub content_by : ℕ → (ℕ → Property) → List Located → Content
content_by p f bs =
    record { place = p; bmhd = f BMHD; cmap = f CMAP; grab = f GRAB; dest = f DEST; sprt = f SPRT; camg = f CAMG; bodies = bs }

abbrev pub content_of : ℕ → Chunks → Scope → Content
content_of p G scope = content_by p (λ name. property_of name p G scope) (bodies_from (p + 12) G)

-- "Each FORM ILBM at any depth is a picture, numbered from 0 in file order." Of chunks in a row, the first of which stands at p.
unfoldable pub contents_from : ℕ → Scope → Chunks → List Content
contents_from p scope none = []
contents_from p scope (leaf n d pad F) = contents_from (p + (8 + length d + length pad)) scope F
contents_from p scope (group n t G F) =
    pick (is_picture n t) (content_of p G scope ∷ []) [] ++
    (contents_from (p + 12) (scope_inside n p G scope) G ++ contents_from (p + (12 + length (bytes G))) scope F)

abbrev pub contents_of : Chunk → List Content
contents_of c = contents_from 0 no_scope (before c none)

-- "with no FORM ILBM inside it": there is no picture among these chunks, at any depth
unfoldable pub no_picture : Chunks → Bool
no_picture none = true
no_picture (leaf n d p F) = no_picture F
no_picture (group n t G F) = both (not (is_picture n t)) (both (no_picture G) (no_picture F))

-- A picture whose chunks have been moved, with the same data.
abbrev pub moved_located : (ℕ → ℕ) → Located → Located
moved_located f x = located (f x.place) x.content

abbrev pub moved_property : (ℕ → ℕ) → Property → Property
moved_property f (own x) = own (moved_located f x)
moved_property f (shared p x) = shared (f p) (moved_located f x)
moved_property f absent = absent

unfoldable pub moved_bodies : (ℕ → ℕ) → List Located → List Located
moved_bodies f [] = []
moved_bodies f (x ∷ xs) = moved_located f x ∷ moved_bodies f xs

abbrev pub moved_content : (ℕ → ℕ) → Content → Content
moved_content f c =
    record {
      place = f c.place;
      bmhd = moved_property f c.bmhd;
      cmap = moved_property f c.cmap;
      grab = moved_property f c.grab;
      dest = moved_property f c.dest;
      sprt = moved_property f c.sprt;
      camg = moved_property f c.camg;
      bodies = moved_bodies f c.bodies;
    }
