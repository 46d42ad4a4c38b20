-- A word is a number of eight bytes, the first the highest, and its letters are its bytes up to the zeros at its end.
use Rattle.std.specs.Prelude.{ℕ, zero, suc, ◌*◌, ◌/◌, ◌%◌, cond, List, [], ◌∷◌, ◌++◌, ltb}
use Rattle.iff_name.specs.declared.Kind.{Kind}
use Rattle.iff_name.specs.declared.Kind.TheVariants.{FORM, LIST, CAT, PROP, FILLER, LOCAL}

-- the letters of a word, at most k
unfoldable pub letters_up_to : ℕ → ℕ → List ℕ
letters_up_to zero w = []
letters_up_to (suc k) w = cond (ltb 0 w) (w / 0x100000000000000 ∷ letters_up_to k (w % 0x100000000000000 * 256)) []

abbrev pub letters : ℕ → List ℕ
letters w = letters_up_to 8 w

-- a label: the letters and '='
abbrev pub label_of : ℕ → List ℕ
label_of w = letters w ++ (61 ∷ [])

abbrev pub kind_word : Kind → ℕ
kind_word FORM = 0x464F524D00000000
kind_word LIST = 0x4C49535400000000
kind_word CAT = 0x4341540000000000
kind_word PROP = 0x50524F5000000000
kind_word FILLER = 0x46494C4C45520000
kind_word LOCAL = 0x4C4F43414C000000
