-- The chunk tree of EA IFF 85 (appendix A), as 01 "The tree" condenses it: no places, no order of checks, no walk.
use Rattle.std.specs.Prelude.{ℕ, ◌+◌, ◌%◌, ◌≤◌, max, ◌≡◌, List, [], ◌∷◌, ◌++◌, Bool, true, false, not, eqb, length}
use Rattle.iff_name.specs.Codes.{JJJJ}
use Rattle.iff_name.specs.Name.{both, either, well_formed, version_name, kind_of}
use Rattle.iff_name.specs.declared.Kind.{Kind}
use Rattle.iff_name.specs.declared.Kind.TheVariants.{FORM, LIST, CAT, PROP, FILLER, LOCAL}
use Rattle.iff_rules.specs.declared.Position.{Position}
use Rattle.iff_rules.specs.declared.Position.TheVariants.{Outermost}
use Rattle.iff_chunk.specs.Chunks.{Chunks, none, leaf, group, Chunk, before, bytes}
use Rattle.iff_rules.specs.Rules.{is_group, allowed, inside, after, group_type}

-- "Any other well-formed name is local, but JJJJ and the version names are never chunk names."
abbrev pub chunk_name : ℕ → Bool
chunk_name n = both (well_formed n) (both (not (version_name n)) (not (eqb n JJJJ)))

abbrev pub member : ℕ → List ℕ → Bool
member t [] = false
member t (x ∷ xs) = either (eqb x t) (member t xs)

-- "one PROP for a type": a PROP is of none of the types that PROPs before it in its LIST have
abbrev pub new_prop : Kind → ℕ → List ℕ → Bool
new_prop FORM t seen = true
new_prop LIST t seen = true
new_prop CAT t seen = true
new_prop PROP t seen = not (member t seen)
new_prop FILLER t seen = true
new_prop LOCAL t seen = true

-- the types of PROPs so far, after a group of kind k and type t
abbrev pub seen_after : Kind → ℕ → List ℕ → List ℕ
seen_after FORM t seen = seen
seen_after LIST t seen = seen
seen_after CAT t seen = seen
seen_after PROP t seen = t ∷ seen
seen_after FILLER t seen = seen
seen_after LOCAL t seen = seen

-- Chunks that may stand in a row at a position, where PROPs of the types `seen` stand before them in the same LIST.
abbrev pub Members : Position → List ℕ → Chunks → Type 0
Members w seen none = Unit {0}
Members w seen (leaf n d p F) =
    (chunk_name n ≡ true) × (is_group (kind_of n) ≡ false) × (allowed w (kind_of n) ≡ true) × (length p ≡ length d % 2) × Members w seen F
Members w seen (group n t G F) =
    (is_group (kind_of n) ≡ true) × (allowed w (kind_of n) ≡ true) × (group_type (kind_of n) t ≡ true) × (new_prop (kind_of n) t seen ≡ true) ×
    Members (inside (kind_of n)) [] G × Members (after w (kind_of n)) (seen_after (kind_of n) t seen) F

-- how many levels of groups there are
abbrev pub height : Chunks → ℕ
height none = 0
height (leaf n d p F) = height F
height (group n t G F) = max (1 + height G) (height F)

-- A file that is the chunk c and then the bytes R: "bytes after it are counted as trailing and otherwise ignored";
-- within the limits of 16 levels of groups and 16,777,216 bytes.
pub record ChunkFile (s : List ℕ) (c : Chunk) (R : List ℕ) : Type 0 where
  pub whole : s ≡ bytes (before c none) ++ R
  pub tree : Members Outermost [] (before c none)
  pub nesting : height (before c none) ≤ 16
  pub short : length s ≤ 16777216
