-- Every chunk that counts for a picture lies in the file where it is said to lie: by induction on the chunks. From each place on the file
-- has the chunks that are still to come, so it has the data of a leaf 8 further on; a scope lies there if each of its properties does.
use Rattle.std.specs.Prelude.{ℕ, ◌+◌, ◌≤◌, ◌≡◌, Bool, eqb, drop}
use Rattle.std.proofs.Common.{sym, ap, ◌∙◌, arith}
use Rattle.std.proofs.Math.Bool.{true, false}
use mathlib.Core.List.{List, [], ◌∷◌, ◌++◌}
use Rattle.std.proofs.Math.Option.{Option, some, none as nothing}
use Rattle.std.proofs.Math.ListN.{length}
use Rattle.iff_name.specs.Name.{pick}
use Rattle.iff_name.specs.Codes.{LIST}
use Rattle.iff_chunk.specs.Chunks.{Chunks, none, leaf, group, Chunk, before, bytes, next_at}
use Rattle.iff_grammar.specs.Grammar.{ChunkFile}
use Rattle.iff_grammar.specs.Read.{Regular}
use Rattle.iff_grammar.proofs.laws.Read.{leaf_fits, leaf_data, leaf_next, leaf_rest, group_members, group_next, group_rest}
use Rattle.iff_grammar.proofs.laws.Names.{members_regular}
use Rattle.ilbm_spec.specs.Names.{BMHD, CMAP, GRAB, DEST, SPRT, CAMG, BODY, is_picture, is_shared_prop}
use Rattle.ilbm_spec.specs.Contents.{Located, located, last_named, at_body, nowhere, Property, Scope, no_scope, shared_or}
use Rattle.ilbm_spec.specs.Contents.{prop_scope, list_scope, scope_inside, own_or, property_of, bodies_from, Content, content_of}
use Rattle.ilbm_spec.specs.Contents.{contents_from, contents_of}
use Rattle.theorem_table.specs.Lies.{Lies, OptionLies, PropertyLies, BodiesLie, ContentLies, ContentsLie}

abbrev ScopeLies : List ℕ → Scope → Type 0
ScopeLies s scope = (name : ℕ) → PropertyLies s (scope name)

-- from p on the file has the chunks F
abbrev Stand : List ℕ → ℕ → Chunks → Type 0
Stand s p F = (R : List ℕ) × Regular F × (drop p s ≡ bytes F ++ R)

module _ (s : List ℕ) (short : length s ≤ 16777216) where
  leaf_parts :
      (p n : ℕ) (d pad : List ℕ) (F : Chunks) → Stand s p (leaf n d pad F) →
      Lies s (located p d) × Stand s (p + (8 + length d + length pad)) F
  leaf_parts p n d pad F (R, r, e) =
      let fit = leaf_fits s p n d pad F R r short e in
      let next : next_at s p ≡ p + (8 + length d + length pad) = leaf_next s p n d pad F R r short e ∙ omega arith in (
        record { part = leaf_data s p n d pad F R r short e; inside = omega arith },
        (R, r.3, ap (λ (q : ℕ). drop q s) (sym next) ∙ leaf_rest s p n d pad F R r short e),
      )

  group_parts :
      (p n t : ℕ) (G F : Chunks) → Stand s p (group n t G F) → Stand s (p + 12) G × Stand s (p + (12 + length (bytes G))) F
  group_parts p n t G F (R, r, e) =
      let next : next_at s p ≡ p + (12 + length (bytes G)) = group_next s p n t G F R r short e ∙ omega arith in (
        (bytes F ++ R, r.3, group_members s p n t G F R r short e),
        (R, r.4, ap (λ (q : ℕ). drop q s) (sym next) ∙ group_rest s p n t G F R r short e),
      )

  pick_option : (b : Bool) (x y : Option Located) → OptionLies s x → OptionLies s y → OptionLies s (pick b x y)
  pick_option true x y i j = i
  pick_option false x y i j = j

  -- the last of a name
  named_lies :
      (ends : ℕ → Bool) (name : ℕ) (F : Chunks) (p : ℕ) (o : Option Located) → Stand s p F → OptionLies s o →
      OptionLies s (last_named ends name p o F)
  unfolding last_named
  named_lies ends name none p o h i = i
  named_lies ends name (leaf n d pad F) p o h i =
      let both = leaf_parts p n d pad F h in
      let first = pick_option (eqb n name) (some (located p d)) o both.0 i in
      pick_option (ends n) o _ i (named_lies ends name F _ _ both.1 first)
  named_lies ends name (group n t G F) p o h i = named_lies ends name F _ o (group_parts p n t G F h).1 i

  bodies_lie : (F : Chunks) (p : ℕ) → Stand s p F → BodiesLie s (bodies_from p F)
  unfolding bodies_from
  bodies_lie none p h = tt
  bodies_lie (leaf n d pad F) p h =
      let both = leaf_parts p n d pad F h in
      let B : List Located = bodies_from (p + (8 + length d + length pad)) F in go (eqb n BODY) B both.0 (bodies_lie F _ both.1)
    where
      go :
          (b : Bool) (B : List Located) → Lies s (located p d) → BodiesLie s B → BodiesLie s (pick b (located p d ∷ []) [] ++ B)
      go true B i j = (i, j)
      go false B i j = j
  bodies_lie (group n t G F) p h = bodies_lie F _ (group_parts p n t G F h).1

  pick_scope : (b : Bool) (near far : Scope) → ScopeLies s near → ScopeLies s far → ScopeLies s (pick b near far)
  pick_scope true near far i j = i
  pick_scope false near far i j = j

  shared_lies : (p : ℕ) (o : Option Located) (q : Property) → OptionLies s o → PropertyLies s q → PropertyLies s (shared_or p o q)
  shared_lies p (some x) q i j = i
  shared_lies p nothing q i j = j

  own_lies : (o : Option Located) (q : Property) → OptionLies s o → PropertyLies s q → PropertyLies s (own_or o q)
  own_lies (some x) q i j = i
  own_lies nothing q i j = j

  -- the scope in a LIST
  scope_lies : (F : Chunks) (p : ℕ) (scope : Scope) → Stand s p F → ScopeLies s scope → ScopeLies s (list_scope p F scope)
  unfolding list_scope
  scope_lies none p scope h i = i
  scope_lies (leaf n d pad F) p scope h i = scope_lies F _ scope (leaf_parts p n d pad F h).1 i
  scope_lies (group n t G F) p scope h i =
      let both = group_parts p n t G F h in
      pick_scope (is_shared_prop n t) (prop_scope p G scope) _
      (λ name.
      let given = named_lies nowhere name G (p + 12) nothing both.0 tt in
      shared_lies p (last_named nowhere name (p + 12) nothing G) (scope name) given (i name))
      (scope_lies F _ scope both.1 i)

  content_lies : (p : ℕ) (G : Chunks) (scope : Scope) → Stand s (p + 12) G → ScopeLies s scope → ContentLies s (content_of p G scope)
  unfolding property_of
  content_lies p G scope h i =
      let one : (name : ℕ) → PropertyLies s (property_of name p G scope) =
      λ name. own_lies (last_named at_body name (p + 12) nothing G) (scope name) (named_lies at_body name G (p + 12) nothing h tt) (i name) in
      record {
        bmhd = one BMHD;
        cmap = one CMAP;
        grab = one GRAB;
        dest = one DEST;
        sprt = one SPRT;
        camg = one CAMG;
        bodies = bodies_lie G (p + 12) h;
      }

  append_lie : (xs ys : List Content) → ContentsLie s xs → ContentsLie s ys → ContentsLie s (xs ++ ys)
  append_lie [] ys i j = j
  append_lie (c ∷ xs) ys i j = (i.0, append_lie xs ys i.1 j)

  group_lies_lem :
      (b : Bool) (c : Content) (xs : List Content) → ContentLies s c → ContentsLie s xs → ContentsLie s (pick b (c ∷ []) [] ++ xs)
  group_lies_lem true c xs i j = (i, j)
  group_lies_lem false c xs i j = j

  -- the pictures
  contents_lie : (F : Chunks) (p : ℕ) (scope : Scope) → Stand s p F → ScopeLies s scope → ContentsLie s (contents_from p scope F)
  unfolding contents_from
  contents_lie none p scope h i = tt
  contents_lie (leaf n d pad F) p scope h i = contents_lie F _ scope (leaf_parts p n d pad F h).1 i
  contents_lie (group n t G F) p scope h i =
      let both = group_parts p n t G F h in
      let within = pick_scope (eqb n LIST) (list_scope (p + 12) G scope) scope (scope_lies G _ scope both.0 i) i in
      group_lies_lem (is_picture n t) (content_of p G scope) _ (content_lies p G scope both.0 i)
      (append_lie (contents_from (p + 12) (scope_inside n p G scope) G) _
      (contents_lie G _ (scope_inside n p G scope) both.0 within) (contents_lie F _ scope both.1 i))

-- The chunks of every picture of a file that is a chunk tree.
pub file_lies : (s : List ℕ) (c : Chunk) (R : List ℕ) → ChunkFile s c R → ContentsLie s (contents_of c)
file_lies s c R f =
    contents_lie s f.short (before c none) 0 no_scope (R, members_regular _ _ (before c none) f.tree, f.whole) (λ name. tt)
