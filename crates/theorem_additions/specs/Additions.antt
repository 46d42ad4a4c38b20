-- 01 "Chunks a later writer may add": what may be added where, and the file with it.
use Rattle.std.specs.Prelude.{ℕ, ◌+◌, ◌%◌, ◌≤◌, ◌≡◌, true, false, List, [], ◌∷◌, ◌++◌, leb, length, take, drop}
use Rattle.iff_name.specs.Name.{pick, kind_of}
use Rattle.iff_name.specs.declared.Kind.{Kind}
use Rattle.iff_name.specs.declared.Kind.TheVariants.{FORM, LIST, CAT, PROP, FILLER, LOCAL}
use Rattle.iff_rules.specs.declared.Position.{Position}
use Rattle.iff_rules.specs.declared.Position.TheVariants.{Outermost, InForm, InProp, InList, InCat}
use Rattle.iff_chunk.specs.Chunks.{Chunks, none, leaf, group, Chunk, a_leaf, a_group, before, bytes, put_word, word}
use Rattle.iff_rules.specs.Rules.{inside, after, group_type}
use Rattle.iff_grammar.specs.Grammar.{chunk_name, member, seen_after, Members, height}
use Rattle.ilbm_spec.specs.Names.{is_picture_type, foreign}
use Rattle.ilbm_spec.specs.Contents.{no_picture}

-- the types of the PROPs directly among these chunks
unfoldable pub prop_types : Chunks → List ℕ
prop_types none = []
prop_types (leaf n d p F) = prop_types F
prop_types (group n t G F) = seen_after (kind_of n) t (prop_types F)

-- "In a FORM or PROP: a local chunk named other than the six properties and BODY."
abbrev pub LocalMay : Position → ℕ → Type 0
LocalMay Outermost n = ⊥
LocalMay InForm n = foreign n ≡ true
LocalMay InProp n = foreign n ≡ true
LocalMay InList n = ⊥
LocalMay InCat n = ⊥

-- "In any group: filler."
abbrev pub FillerMay : Position → Type 0
FillerMay Outermost = ⊥
FillerMay InForm = Unit {0}
FillerMay InProp = Unit {0}
FillerMay InList = Unit {0}
FillerMay InCat = Unit {0}

abbrev pub LeafMay : Kind → Position → ℕ → Type 0
LeafMay FORM w n = ⊥
LeafMay LIST w n = ⊥
LeafMay CAT w n = ⊥
LeafMay PROP w n = ⊥
LeafMay FILLER w n = FillerMay w
LeafMay LOCAL w n = LocalMay w n

-- "In a FORM, CAT or LIST: a sound FORM of another type than ILBM and with no FORM ILBM inside it, in a LIST after all its PROPs."
-- F is what follows in the same group.
abbrev pub FormMay : Position → Chunks → Type 0
FormMay Outermost F = ⊥
FormMay InForm F = Unit {0}
FormMay InProp F = ⊥
FormMay InList F = prop_types F ≡ []
FormMay InCat F = Unit {0}

-- "In a LIST before its first FORM, LIST or CAT: a sound PROP of a type other than ILBM that this LIST hasn't got."
-- The LIST has the types `seen` before this place and those of F after it.
abbrev pub PropMay : Position → List ℕ → ℕ → Chunks → Type 0
PropMay Outermost seen t F = ⊥
PropMay InForm seen t F = ⊥
PropMay InProp seen t F = ⊥
PropMay InList seen t F = (is_picture_type t ≡ false) × (member t seen ≡ false) × (member t (prop_types F) ≡ false)
PropMay InCat seen t F = ⊥

abbrev pub GroupMay : Kind → Position → List ℕ → ℕ → Chunks → Chunks → Type 0
GroupMay FORM w seen t G F = FormMay w F × (is_picture_type t ≡ false) × (no_picture G ≡ true)
GroupMay LIST w seen t G F = ⊥
GroupMay CAT w seen t G F = ⊥
GroupMay PROP w seen t G F = PropMay w seen t F
GroupMay FILLER w seen t G F = ⊥
GroupMay LOCAL w seen t G F = ⊥

-- A chunk that may be added at a boundary with F after it, in a group at this position. Sound: its name, its pad, its type and
-- whatever is inside it.
abbrev pub Newcomer : Position → List ℕ → Chunk → Chunks → Type 0
Newcomer w seen (a_leaf n d p) F = (chunk_name n ≡ true) × LeafMay (kind_of n) w n × (length p ≡ length d % 2)
Newcomer w seen (a_group n t G) F = GroupMay (kind_of n) w seen t G F × (group_type (kind_of n) t ≡ true) × Members (inside (kind_of n)) [] G

-- A chunk boundary: before the first of some chunks, past the first one, or inside the first one, a group.
pub data Boundary : Type 0 where
  here : Boundary
  past : Boundary → Boundary
  into : Boundary → Boundary

-- the chunk X may be added at this boundary of chunks at position w
abbrev pub May : Position → List ℕ → Boundary → Chunk → Chunks → Type 0
May w seen here X F = Newcomer w seen X F
May w seen (past i) X none = ⊥
May w seen (past i) X (leaf n d p F) = May w seen i X F
May w seen (past i) X (group n t G F) = May (after w (kind_of n)) (seen_after (kind_of n) t seen) i X F
May w seen (into i) X none = ⊥
May w seen (into i) X (leaf n d p F) = ⊥
May w seen (into i) X (group n t G F) = May (inside (kind_of n)) [] i X G

-- the chunks with X added
unfoldable pub insert : Boundary → Chunk → Chunks → Chunks
insert here X F = before X F
insert (past i) X none = none
insert (past i) X (leaf n d p F) = leaf n d p (insert i X F)
insert (past i) X (group n t G F) = group n t G (insert i X F)
insert (into i) X none = none
insert (into i) X (leaf n d p F) = leaf n d p F
insert (into i) X (group n t G F) = group n t (insert i X G) F

-- where the boundary lies in the file, the first of the chunks standing at p
unfoldable pub boundary_place : Boundary → ℕ → Chunks → ℕ
boundary_place here p F = p
boundary_place (past i) p none = p
boundary_place (past i) p (leaf n d pad F) = boundary_place i (p + (8 + length d + length pad)) F
boundary_place (past i) p (group n t G F) = boundary_place i (p + (12 + length (bytes G))) F
boundary_place (into i) p none = p
boundary_place (into i) p (leaf n d pad F) = p
boundary_place (into i) p (group n t G F) = boundary_place i (p + 12) G

-- the places of the groups around the boundary, the outermost first
unfoldable pub around : Boundary → ℕ → Chunks → List ℕ
around here p F = []
around (past i) p none = []
around (past i) p (leaf n d pad F) = around i (p + (8 + length d + length pad)) F
around (past i) p (group n t G F) = around i (p + (12 + length (bytes G))) F
around (into i) p none = []
around (into i) p (leaf n d pad F) = []
around (into i) p (group n t G F) = p ∷ around i (p + 12) G

-- The bytes: "Every enclosing size grows by the padded length added", and at the boundary stands what was added.
abbrev pub grow : ℕ → ℕ → List ℕ → List ℕ
grow k g f = take (g + 4) f ++ put_word (word f (g + 4) + k) (drop (g + 8) f)

unfoldable pub grow_all : ℕ → List ℕ → List ℕ → List ℕ
grow_all k [] f = f
grow_all k (g ∷ gs) f = grow_all k gs (grow k g f)

abbrev pub splice : ℕ → List ℕ → List ℕ → List ℕ
splice q xs f = take q f ++ (xs ++ drop q f)

-- One addition: a chunk at a boundary, or bytes among those after the end, past the first k of them.
pub data Addition : Type 0 where
  chunk : Boundary → Chunk → Addition
  trailing : ℕ → List ℕ → Addition

-- the tree of the file with the addition made
abbrev pub within_top : (Chunks → Chunks) → Chunk → Chunk
within_top f (a_leaf n d p) = a_leaf n d p
within_top f (a_group n t G) = a_group n t (f G)

abbrev pub tree_with : Addition → Chunk → Chunk
tree_with (chunk i X) c = within_top (λ G. insert i X G) c
tree_with (trailing k xs) c = c

-- how many bytes an addition brings, and where they stand
abbrev pub bytes_of : Chunk → List ℕ
bytes_of c = bytes (before c none)

abbrev pub added : Addition → List ℕ
added (chunk i X) = bytes_of X
added (trailing k xs) = xs

abbrev pub top_members : Chunk → Chunks
top_members (a_leaf n d p) = none
top_members (a_group n t G) = G

abbrev pub added_at : Addition → Chunk → ℕ
added_at (chunk i X) c = boundary_place i 12 (top_members c)
added_at (trailing k xs) c = length (bytes_of c) + k

-- the file with the addition made, where c is the tree of the file as it stands
abbrev pub file_with : Addition → Chunk → List ℕ → List ℕ
file_with (chunk i X) c f = splice (added_at (chunk i X) c) (bytes_of X) (grow_all (length (bytes_of X)) (0 ∷ around i 12 (top_members c)) f)
file_with (trailing k xs) c f = splice (added_at (trailing k xs) c) xs f

-- the addition may be made
abbrev pub top_position : Chunk → Position
top_position (a_leaf n d p) = Outermost
top_position (a_group n t G) = inside (kind_of n)

abbrev pub MayAdd : Addition → Chunk → List ℕ → Type 0
MayAdd (chunk i X) c f = May (top_position c) [] i X (top_members c)
MayAdd (trailing k xs) c f = length (bytes_of c) + k ≤ length f

-- A list of additions: "Several are added one at a time, each by these rules in the file as it then stands", within the limits.
unfoldable pub tree_after : List Addition → Chunk → Chunk
tree_after [] c = c
tree_after (a ∷ adds) c = tree_after adds (tree_with a c)

unfoldable pub file_after : List Addition → Chunk → List ℕ → List ℕ
file_after [] c f = f
file_after (a ∷ adds) c f = file_after adds (tree_with a c) (file_with a c f)

abbrev pub MayAddAll : List Addition → Chunk → List ℕ → Type 0
MayAddAll [] c f = Unit {0}
MayAddAll (a ∷ adds) c f =
    MayAdd a c f × (length (file_with a c f) ≤ 16777216) × (height (before (tree_with a c) none) ≤ 16) ×
    MayAddAll adds (tree_with a c) (file_with a c f)

-- where a byte that stood at p stands after an addition at q of k bytes: "the old one plus the bytes put before it"
abbrev pub moved : ℕ → ℕ → ℕ → ℕ
moved q k p = pick (leb q p) (p + k) p

unfoldable pub moved_by : List Addition → Chunk → ℕ → ℕ
moved_by [] c p = p
moved_by (a ∷ adds) c p = moved_by adds (tree_with a c) (moved (added_at a c) (length (added a)) p)

-- the places of the headers in chunks, the first of which stands at p
unfoldable pub headers_from : ℕ → Chunks → List ℕ
headers_from p none = []
headers_from p (leaf n d pad F) = p ∷ headers_from (p + (8 + length d + length pad)) F
headers_from p (group n t G F) = p ∷ (headers_from (p + 12) G ++ headers_from (p + (12 + length (bytes G))) F)

-- "added headers, those inside an added group too (bytes after the end have no headers)"
abbrev pub new_headers : Addition → Chunk → List ℕ
new_headers (chunk i X) c = headers_from (boundary_place i 12 (top_members c)) (before X none)
new_headers (trailing k xs) c = []

abbrev pub mapℕ : (ℕ → ℕ) → List ℕ → List ℕ
mapℕ f [] = []
mapℕ f (x ∷ xs) = f x ∷ mapℕ f xs

-- the places, in the file after all additions, of the headers that were added
unfoldable pub added_headers : List Addition → Chunk → List ℕ
added_headers [] c = []
added_headers (a ∷ adds) c = mapℕ (λ p. moved_by adds (tree_with a c) p) (new_headers a c) ++ added_headers adds (tree_with a c)

-- Names put over headers: a place and a name for each.
pub record Renaming : Type 0 where
  pub place : ℕ
  pub name : ℕ

unfoldable pub renamed : List Renaming → List ℕ → List ℕ
renamed [] f = f
renamed (r ∷ rs) f = renamed rs (take r.place f ++ put_word r.name (drop (r.place + 4) f))

-- the lowest place among the renamings, p among them
unfoldable pub lowest : ℕ → List Renaming → ℕ
lowest p [] = p
lowest p (r ∷ rs) = lowest (pick (leb p r.place) p r.place) rs
