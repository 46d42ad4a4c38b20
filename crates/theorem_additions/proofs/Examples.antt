-- A file, a list of additions of each kind at each kind of boundary, and what comes of it: computed, and by the theorem.
use Rattle.std.specs.Prelude.{ℕ, zero, suc, ◌≡◌, refl, Bool, true, List, [], ◌∷◌, ◌++◌, ltb}
use Rattle.std.proofs.Common.{arith, ltb-true}
use Rattle.iff_name.specs.Name.{both, well_formed, version_name, type_name, type_bytes, reserved_name, kind_of}
use Rattle.iff_chunk.specs.Chunks.{none, leaf, group, Chunk, a_leaf, a_group, bytes, put_word, word}
use Rattle.iff_rules.specs.Rules.{prop_within}
use Rattle.iff_header.specs.Checks.{header_of, group_header_of}
use Rattle.iff_tree.specs.Judge.{found, read_file, run, chunk_at}
use Rattle.iff_grammar.specs.Words.{Bytes}
use Rattle.iff_grammar.proofs.laws.Names.{both_true}
use Rattle.iff_name.specs.Codes.{FORM, LIST, PROP, CAT, JJJJ}
use Rattle.ilbm_spec.specs.Names.{ILBM, BMHD}
use Rattle.ilbm_spec.specs.Contents.{located, shared, absent, last_named, list_scope, property_of, bodies_from, contents_from, no_picture}
use Rattle.ilbm_spec.specs.Pictures.{header_in, wrong_size, fields_refusal, header_refusal, picture_refusal, Viewed, pick_content, view_of}
use Rattle.theorem_additions.specs.Additions.{here, past, into, Addition, chunk, trailing, prop_types, insert, boundary_place, around}
use Rattle.theorem_additions.specs.Additions.{grow_all}
use Rattle.theorem_additions.specs.Additions.{MayAddAll, file_after, moved_by, headers_from, added_headers, renamed, lowest}
use Rattle.theorem_additions.specs.Statement.{Unchanged, AllRefused}
use Rattle.theorem_additions.proofs.laws.Boundaries.{AAAA}
use Rattle.theorem_additions.proofs.Demand3.{demand3}
use Rattle.iff_name.specs.Codes as Codes

abbrev XXXX : ℕ
XXXX = 0x58585858

abbrev FILLER : ℕ
FILLER = Codes.FILLER

abbrev FOR1 : ℕ
FOR1 = 0x464F5231

abbrev CAT9 : ℕ
CAT9 = 0x43415439

-- w 1, h 1, one plane
abbrev pub header : List ℕ
header = 0 ∷ 1 ∷ 0 ∷ 1 ∷ 0 ∷ 0 ∷ 0 ∷ 0 ∷ 1 ∷ 0 ∷ 0 ∷ 0 ∷ 0 ∷ 0 ∷ 1 ∷ 1 ∷ 0 ∷ 1 ∷ 0 ∷ 1 ∷ []

-- a LIST of a PROP ILBM with a BMHD, a FORM ILBM and a CAT, both empty
abbrev tree : Chunk
tree = a_group LIST JJJJ (group PROP ILBM (leaf BMHD header [] none) (group FORM ILBM none (group CAT JJJJ none none)))

abbrev file : List ℕ
file =
    put_word LIST (put_word 68 (put_word JJJJ
    (put_word PROP (put_word 32 (put_word ILBM (put_word BMHD (put_word 20 (header ++
    (put_word FORM (put_word 4 (put_word ILBM
    (put_word CAT (put_word 4 (put_word JJJJ []))))))))))))))

abbrev pub filler : Chunk
filler = a_leaf FILLER [] []

abbrev pub local : Chunk
local = a_leaf XXXX (7 ∷ []) (0 ∷ [])

abbrev form : Chunk
form = a_group FORM AAAA none

abbrev prop : Chunk
prop = a_group PROP AAAA none

-- each made in the file as the last one left it
abbrev additions : List Addition
additions =
    chunk here filler ∷  -- a filler first in the LIST
    chunk here prop ∷  -- a PROP AAAA before it
    chunk (past (past (into here))) local ∷  -- a local chunk first in the PROP ILBM
    chunk (past (past (into (past (past here))))) filler ∷  -- a filler last in it
    chunk (past (past (past (into here)))) local ∷  -- a local chunk in the FORM ILBM
    chunk (past (past (past (into (past here))))) filler ∷  -- a filler after it
    chunk (past (past (past (into here)))) form ∷  -- a FORM AAAA before both
    chunk (past (past (past here))) form ∷  -- a FORM AAAA in the LIST, after its PROPs
    chunk (past (past (past (past (past (into here)))))) form ∷  -- a FORM AAAA in the CAT
    chunk (past (past (past (past (past (into here)))))) filler ∷  -- a filler before it
    chunk (past (past (past (into here)))) local ∷  -- a local chunk in the FORM AAAA that was added to the LIST
    trailing 0 (1 ∷ 2 ∷ 3 ∷ []) ∷  -- three bytes after the end
    trailing 1 (4 ∷ []) ∷  -- and one among them
    []

-- the file with all of them
abbrev edited : List ℕ
edited =
    put_word LIST (put_word 178 (put_word JJJJ
    (put_word PROP (put_word 4 (put_word AAAA
    (put_word FILLER (put_word 0
    (put_word PROP (put_word 50 (put_word ILBM
    (put_word XXXX (put_word 1 (7 ∷ 0 ∷ put_word BMHD (put_word 20 (header ++ put_word FILLER (put_word 0
    (put_word FORM (put_word 14 (put_word AAAA (put_word XXXX (put_word 1 (7 ∷ 0 ∷
    (put_word FORM (put_word 34 (put_word ILBM
    (put_word FORM (put_word 4 (put_word AAAA (put_word XXXX (put_word 1 (7 ∷ 0 ∷ put_word FILLER (put_word 0
    (put_word CAT (put_word 24 (put_word JJJJ (put_word FILLER (put_word 0 (put_word FORM (put_word 4 (put_word AAAA
    (1 ∷ 4 ∷ 2 ∷ 3 ∷ [])))))))))))))))))))))))))))))))))))))))))

reads : read_file file ≡ found tree
unfolding read_file chunk_at run header_of group_header_of word well_formed version_name type_name type_bytes reserved_name kind_of prop_within
reads = refl

-- one addition that may be made, within the two limits, and the others
pub step : {A B C D : Type 0} → A → B → C → D → A × B × C × D
step a b c d = (a, b, c, d)

may : MayAddAll additions tree file
unfolding well_formed version_name type_name type_bytes reserved_name kind_of prop_types no_picture insert boundary_place around grow_all bytes word
may =
    step (refl, tt, refl) (omega arith) (omega arith)
    (step ((refl, refl, refl), refl, tt) (omega arith) (omega arith)
    (step (refl, refl, refl) (omega arith) (omega arith)
    (step (refl, tt, refl) (omega arith) (omega arith)
    (step (refl, refl, refl) (omega arith) (omega arith)
    (step (refl, tt, refl) (omega arith) (omega arith)
    (step ((tt, refl, refl), refl, tt) (omega arith) (omega arith)
    (step ((refl, refl, refl), refl, tt) (omega arith) (omega arith)
    (step ((tt, refl, refl), refl, tt) (omega arith) (omega arith)
    (step (refl, tt, refl) (omega arith) (omega arith)
    (step (refl, refl, refl) (omega arith) (omega arith)
    (step (omega arith) (omega arith) (omega arith)
    (step (omega arith) (omega arith) (omega arith)
    tt))))))))))))

becomes : file_after additions tree file ≡ edited
unfolding file_after insert boundary_place around grow_all bytes word
becomes = refl

-- the headers that were added, in the edited file
added_headers_lem :
    added_headers additions tree ≡ 24 ∷ 12 ∷ 44 ∷ 82 ∷ 136 ∷ 146 ∷ 124 ∷ 90 ∷ 174 ∷ 166 ∷ 102 ∷ []
unfolding added_headers moved_by headers_from insert boundary_place bytes
added_headers_lem = refl

-- the PROP ILBM stood at 12; a filler of 8 bytes and a PROP of 12 were put before it
prop_place : moved_by additions tree 12 ≡ 32
unfolding moved_by insert boundary_place bytes
prop_place = refl

unfoldable pub small : List ℕ → Bool
small [] = true
small (x ∷ xs) = both (ltb x 256) (small xs)

pub small_bytes : (s : List ℕ) → small s ≡ true → Bytes s
unfolding small
small_bytes [] e i = omega arith
small_bytes (x ∷ xs) e zero = ltb-true x 256 (both_true (ltb x 256) (small xs) e).0
small_bytes (x ∷ xs) e (suc i) = small_bytes xs (both_true (ltb x 256) (small xs) e).1 i

file_bytes : Bytes file
unfolding small
file_bytes = small_bytes file refl

unchanged : Unchanged file tree additions
unchanged = demand3 file file_bytes tree reads additions may

-- the picture before and after: its header is shared, and only the places of the FORM, the PROP and the BMHD differ
abbrev shows : ℕ → ℕ → ℕ → Viewed
shows form prop bmhd =
    found (record {
      place = form;
      bmhd = shared prop (located bmhd header);
      cmap = absent;
      grab = absent;
      dest = absent;
      sprt = absent;
      camg = absent;
      bodies = [];
    })

view_before : view_of file 0 ≡ shows 52 12 24
unfolding
    read_file chunk_at run header_of group_header_of word well_formed version_name type_name type_bytes reserved_name kind_of prop_within
    contents_from list_scope property_of last_named bodies_from pick_content picture_refusal wrong_size header_refusal fields_refusal header_in bytes
view_before = refl

view_after : view_of edited 0 ≡ shows 112 32 54
unfolding
    read_file chunk_at run header_of group_header_of word well_formed version_name type_name type_bytes reserved_name kind_of prop_within
    contents_from list_scope property_of last_named bodies_from pick_content picture_refusal wrong_size header_refusal fields_refusal header_in bytes
view_after = refl

-- a name over the FORM in the FORM ILBM, and one over the local chunk in the FORM in the LIST, which stands before it

version_names :
    AllRefused (renamed (record { place = 124; name = FOR1 } ∷ record { place = 102; name = CAT9 } ∷ []) (file_after additions tree file)) 102
unfolding lowest version_name added_headers moved_by headers_from insert boundary_place bytes
version_names = unchanged.renaming (record { place = 124; name = FOR1 }) (record { place = 102; name = CAT9 } ∷ []) (
  refl,
  refl,
  (refl, refl, tt),
)
