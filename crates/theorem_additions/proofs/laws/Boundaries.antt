-- Each kind of addition may be made at each kind of boundary: in an empty group, before its first chunk, between two, after its last,
-- and inside what was added before. All by computing.
use Rattle.std.specs.Prelude.{ℕ, refl, List, [], ◌∷◌}
use Rattle.iff_name.specs.Name.{well_formed, version_name, type_name, type_bytes, reserved_name, kind_of}
use Rattle.iff_rules.specs.declared.Position.{Position}
use Rattle.iff_rules.specs.declared.Position.TheVariants.{InForm, InProp, InList, InCat}
use Rattle.iff_chunk.specs.Chunks.{Chunks, none, leaf, group, Chunk, a_leaf, a_group}
use Rattle.iff_grammar.specs.Grammar.{Members}
use Rattle.iff_name.specs.Codes.{FORM, LIST, CAT, PROP, FILLER, JJJJ}
use Rattle.ilbm_spec.specs.Names.{ILBM, BMHD, CMAP, BODY}
use Rattle.ilbm_spec.specs.Contents.{no_picture}
use Rattle.theorem_additions.specs.Additions.{prop_types, top_members, Boundary, here, past, into, May, insert}
use Rattle.theorem_additions.proofs.laws.Insert.{no}

abbrev pub AAAA : ℕ
AAAA = 0x41414141

abbrev BBBB : ℕ
BBBB = 0x42424242

-- an unknown name, one byte of data and any pad byte
abbrev local : Chunk
local = a_leaf 0x58585858 (7 ∷ []) (255 ∷ [])

abbrev filler : Chunk
filler = a_leaf FILLER (1 ∷ 2 ∷ []) []

-- a PROP of another type, with a CMAP in it
abbrev prop : Chunk
prop = a_group PROP AAAA (leaf CMAP (1 ∷ 2 ∷ 3 ∷ []) (0 ∷ []) none)

-- a FORM of another type, with a BODY, a LIST with a PROP ILBM and a CAT in it
abbrev form : Chunk
form = a_group FORM AAAA (leaf BODY [] [] (group LIST JJJJ (group PROP ILBM none none) (group CAT JJJJ (group FORM BBBB none none) none)))

-- members of a FORM or PROP, of a CAT, of a LIST, and of a LIST that has only PROPs
abbrev properties : Chunks
properties = leaf BMHD [] [] (leaf CMAP [] [] none)

abbrev pictures : Chunks
pictures = group FORM ILBM none (group FORM ILBM none none)

abbrev album : Chunks
album = group PROP ILBM none (group FORM ILBM none none)

abbrev props : Chunks
props = group PROP ILBM none (group PROP BBBB none none)

-- X may be added in an empty group, before the first of two chunks, between them and after the last
abbrev Everywhere : Position → Chunk → Chunks → Type 0
Everywhere w X F = May w [] here X none × May w [] here X F × May w [] (past here) X F × May w [] (past (past here)) X F

local_in_form : Everywhere InForm local properties
unfolding well_formed version_name kind_of
local_in_form = ((refl, refl, refl), (refl, refl, refl), (refl, refl, refl), (refl, refl, refl))

local_in_prop : Everywhere InProp local properties
unfolding well_formed version_name kind_of
local_in_prop = ((refl, refl, refl), (refl, refl, refl), (refl, refl, refl), (refl, refl, refl))

filler_in_form : Everywhere InForm filler properties
unfolding well_formed version_name kind_of
filler_in_form = ((refl, tt, refl), (refl, tt, refl), (refl, tt, refl), (refl, tt, refl))

filler_in_prop : Everywhere InProp filler properties
unfolding well_formed version_name kind_of
filler_in_prop = ((refl, tt, refl), (refl, tt, refl), (refl, tt, refl), (refl, tt, refl))

filler_in_list : Everywhere InList filler album
unfolding well_formed version_name kind_of
filler_in_list = ((refl, tt, refl), (refl, tt, refl), (refl, tt, refl), (refl, tt, refl))

filler_in_cat : Everywhere InCat filler pictures
unfolding well_formed version_name kind_of
filler_in_cat = ((refl, tt, refl), (refl, tt, refl), (refl, tt, refl), (refl, tt, refl))

-- what is inside the FORM and the PROP is sound
form_sound : Members InForm [] (top_members form)
unfolding well_formed version_name type_name type_bytes reserved_name kind_of
form_sound = (
  refl,
  refl,
  refl,
  refl,
  (
    refl,
    refl,
    refl,
    refl,
    (refl, refl, refl, refl, tt, tt),
    (refl, refl, refl, refl, (refl, refl, refl, refl, tt, tt), tt),
  ),
)

prop_sound : Members InProp [] (top_members prop)
unfolding well_formed version_name kind_of
prop_sound = (refl, refl, refl, refl, tt)

form_in_form : Everywhere InForm form properties
unfolding well_formed version_name type_name type_bytes reserved_name kind_of no_picture
form_in_form =
    let one : May InForm [] here form none = ((tt, refl, refl), refl, form_sound) in
    (one, one, one, one)

form_in_cat : Everywhere InCat form pictures
unfolding well_formed version_name type_name type_bytes reserved_name kind_of no_picture
form_in_cat =
    let one : May InCat [] here form none = ((tt, refl, refl), refl, form_sound) in
    (one, one, one, one)

form_in_list : Everywhere InList form pictures
unfolding well_formed version_name type_name type_bytes reserved_name kind_of no_picture prop_types
form_in_list = (
  ((refl, refl, refl), refl, form_sound),
  ((refl, refl, refl), refl, form_sound),
  ((tt, refl, refl), refl, form_sound),
  ((tt, refl, refl), refl, form_sound),
)

form_after_props : May InList [] (past here) form album
unfolding well_formed version_name type_name type_bytes reserved_name kind_of no_picture prop_types
form_after_props = ((refl, refl, refl), refl, form_sound)

prop_in_list : Everywhere InList prop props
unfolding well_formed version_name type_name type_bytes reserved_name kind_of prop_types
prop_in_list = (
  ((refl, refl, refl), refl, prop_sound),
  ((refl, refl, refl), refl, prop_sound),
  ((refl, refl, refl), refl, prop_sound),
  ((refl, refl, refl), refl, prop_sound),
)

prop_before_form : May InList [] (past here) prop album
unfolding well_formed version_name type_name type_bytes reserved_name kind_of prop_types
prop_before_form = ((refl, refl, refl), refl, prop_sound)

-- whatever may be added in a FORM may be added in one that was added before
in_added : (w : Position) (seen : List ℕ) (t : ℕ) (G F : Chunks) (i : Boundary) (X : Chunk) → May InForm [] i X G
    → May w seen (into i) X (insert here (a_group FORM t G) F)
unfolding kind_of insert
in_added w seen t G F i X h = h

-- so a PROP in the LIST of the added FORM, and a local chunk in the PROP ILBM there
prop_in_added : May InCat [] (into (past (into (past here)))) prop (insert here form pictures)
unfolding well_formed version_name type_name type_bytes reserved_name kind_of prop_types insert
prop_in_added = ((refl, refl, refl), refl, prop_sound)

local_in_added : May InCat [] (into (past (into (into here)))) local (insert here form pictures)
unfolding well_formed version_name kind_of insert
local_in_added = (refl, refl, refl)

-- And what may not be added: a property or a BODY, a local chunk in a LIST or CAT,
not_cmap : May InProp [] here (a_leaf CMAP [] []) none → ⊥
unfolding kind_of
not_cmap h = no (let z = h.1 in cc)

not_body : May InForm [] here (a_leaf BODY [] []) none → ⊥
unfolding kind_of
not_body h = no (let z = h.1 in cc)

not_in_list : May InList [] here local none → ⊥
unfolding kind_of
not_in_list h = h.1

not_in_cat : May InCat [] here local none → ⊥
unfolding kind_of
not_in_cat h = h.1

-- a picture, or a FORM with one inside,
not_picture : May InCat [] here (a_group FORM ILBM none) none → ⊥
unfolding kind_of
not_picture h = no (let z = h.0.1 in cc)

not_picture_inside : May InCat [] here (a_group FORM AAAA (group LIST JJJJ pictures none)) none → ⊥
unfolding kind_of no_picture
not_picture_inside h = no (let z = h.0.2 in cc)

-- a PROP ILBM, a PROP of a type that the LIST has before or after this place, a PROP after a FORM,
not_prop_ilbm : May InList [] here (a_group PROP ILBM none) none → ⊥
unfolding kind_of
not_prop_ilbm h = no (let z = h.0.0 in cc)

not_second_prop : May InList [] (past (past here)) (a_group PROP BBBB none) props → ⊥
unfolding kind_of
not_second_prop h = no (let z = h.0.1 in cc)

not_prop_again : May InList [] here (a_group PROP BBBB none) props → ⊥
unfolding kind_of prop_types
not_prop_again h = no (let z = h.0.2 in cc)

not_prop_after_form : May InList [] (past here) prop pictures → ⊥
unfolding kind_of
not_prop_after_form h = h.0

-- a FORM before a PROP, a LIST or a CAT.
not_form_before_prop : May InList [] here form album → ⊥
unfolding kind_of prop_types
not_form_before_prop h = no (let z = h.0.0 in cc)

not_list : (w : Position) → May w [] here (a_group LIST JJJJ none) none → ⊥
unfolding kind_of
not_list w h = h.0

not_cat : (w : Position) → May w [] here (a_group CAT JJJJ none) none → ⊥
unfolding kind_of
not_cat w h = h.0
