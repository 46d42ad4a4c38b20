-- What may stand where, as 01 "The tree" has it.
use Rattle.std.specs.Prelude.{ℕ, zero, suc, ◌+◌, ◌-◌, List, Bool, true, false, not, ltb, eqb}
use Rattle.iff_name.specs.Codes.{JJJJ}
use Rattle.iff_name.specs.Name.{both, either, pick, well_formed, type_name, kind_of}
use Rattle.iff_name.specs.declared.Kind.{Kind}
use Rattle.iff_name.specs.declared.Kind.TheVariants.{FORM, LIST, CAT, PROP, FILLER, LOCAL}
use Rattle.iff_rules.specs.declared.Position.{Position}
use Rattle.iff_rules.specs.declared.Position.TheVariants.{Outermost, InForm, InProp, InList, InCat}
use Rattle.iff_chunk.specs.Chunks.{word, next_at}
use Rattle.iff_name.specs.Codes as Codes

-- "FORM, LIST, CAT and PROP are groups"
abbrev pub is_group : Kind → Bool
is_group FORM = true
is_group LIST = true
is_group CAT = true
is_group PROP = true
is_group FILLER = false
is_group LOCAL = false

-- "The outermost chunk is a FORM, LIST or CAT"; "a CAT holds FORM, LIST, CAT"
abbrev pub is_section : Kind → Bool
is_section FORM = true
is_section LIST = true
is_section CAT = true
is_section PROP = false
is_section FILLER = false
is_section LOCAL = false

-- "a FORM holds local chunks, FORM, LIST, CAT", and "filler may stand in any group"
abbrev pub in_form : Kind → Bool
in_form FORM = true
in_form LIST = true
in_form CAT = true
in_form PROP = false
in_form FILLER = true
in_form LOCAL = true

-- "a PROP holds local chunks only", and filler
abbrev pub in_prop : Kind → Bool
in_prop FORM = false
in_prop LIST = false
in_prop CAT = false
in_prop PROP = false
in_prop FILLER = true
in_prop LOCAL = true

-- "a LIST holds PROPs first, then FORM, LIST, CAT", and filler
abbrev pub in_list : Kind → Bool
in_list FORM = true
in_list LIST = true
in_list CAT = true
in_list PROP = true
in_list FILLER = true
in_list LOCAL = false

-- "a CAT holds FORM, LIST, CAT", and filler; so does a LIST after its PROPs
abbrev pub in_cat : Kind → Bool
in_cat FORM = true
in_cat LIST = true
in_cat CAT = true
in_cat PROP = false
in_cat FILLER = true
in_cat LOCAL = false

-- whether a chunk of this kind is allowed here
abbrev pub allowed : Position → Kind → Bool
allowed Outermost k = is_section k
allowed InForm k = in_form k
allowed InProp k = in_prop k
allowed InList k = in_list k
allowed InCat k = in_cat k

-- "JJJJ as a chunk, or this kind not allowed here"
abbrev pub misplaced : Position → ℕ → Bool
misplaced w n = either (eqb n JJJJ) (not (allowed w (kind_of n)))

-- where the first member of a group of this kind stands
abbrev pub inside : Kind → Position
inside FORM = InForm
inside LIST = InList
inside CAT = InCat
inside PROP = InProp
inside FILLER = InForm
inside LOCAL = InForm

-- in a LIST, where the chunk after one of this kind stands: a FORM, LIST or CAT ends the run of PROPs, and
-- "filler .. doesn't end the run of PROPs"
abbrev pub after_in_list : Kind → Position
after_in_list FORM = InCat
after_in_list LIST = InCat
after_in_list CAT = InCat
after_in_list PROP = InList
after_in_list FILLER = InList
after_in_list LOCAL = InList

abbrev pub after : Position → Kind → Position
after Outermost k = Outermost
after InForm k = InForm
after InProp k = InProp
after InList k = after_in_list k
after InCat k = InCat

-- "The type of a FORM or PROP .."; "The contents type of a LIST or CAT is any well-formed name and only a hint."
abbrev pub group_type : Kind → ℕ → Bool
group_type FORM t = type_name t
group_type LIST t = well_formed t
group_type CAT t = well_formed t
group_type PROP t = type_name t
group_type FILLER t = false
group_type LOCAL t = false

-- a PROP of type t stands at p
abbrev pub prop_at : List ℕ → ℕ → ℕ → Bool
prop_at s p t = both (eqb (word s p) Codes.PROP) (eqb (word s (p + 8)) t)

-- a PROP of type t stands among the chunks from q on and before p; `fuel` bounds their number
unfoldable pub prop_within : ℕ → List ℕ → ℕ → ℕ → ℕ → Bool
prop_within zero s q p t = false
prop_within (suc fuel) s q p t = pick (ltb q p) (either (prop_at s q t) (prop_within fuel s (next_at s q) p t)) false

abbrev pub prop_before : List ℕ → ℕ → ℕ → ℕ → Bool
prop_before s from p t = prop_within (p - from) s from p t

-- "second PROP of the same type in this LIST", whose members begin at `from`
abbrev pub second_prop : Kind → List ℕ → ℕ → ℕ → ℕ → Bool
second_prop FORM s from p t = false
second_prop LIST s from p t = false
second_prop CAT s from p t = false
second_prop PROP s from p t = prop_before s from p t
second_prop FILLER s from p t = false
second_prop LOCAL s from p t = false
