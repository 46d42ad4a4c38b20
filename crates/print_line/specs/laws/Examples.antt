-- 01 "Examples": the lines for FORM, size 4, ILBM, and those for a file that is too long, byte for byte.
use Rattle.std.specs.Prelude.{ℕ, ◌≡◌, refl, List, [], ◌∷◌}
use Rattle.iff_name.specs.declared.Kind.TheVariants.{FORM}
use Rattle.print_line.specs.Text.{decimal_up_to, decimal, number_line, kind_line, name_line, record_text, refusal_text, head_text}

-- answer=0, place=0, chunks=1, end=12, trailing=0, pictures=1
abbrev pub head_bytes : List ℕ
head_bytes =
    97 ∷ 110 ∷ 115 ∷ 119 ∷ 101 ∷ 114 ∷ 61 ∷ 48 ∷ 10 ∷
    112 ∷ 108 ∷ 97 ∷ 99 ∷ 101 ∷ 61 ∷ 48 ∷ 10 ∷
    99 ∷ 104 ∷ 117 ∷ 110 ∷ 107 ∷ 115 ∷ 61 ∷ 49 ∷ 10 ∷
    101 ∷ 110 ∷ 100 ∷ 61 ∷ 49 ∷ 50 ∷ 10 ∷
    116 ∷ 114 ∷ 97 ∷ 105 ∷ 108 ∷ 105 ∷ 110 ∷ 103 ∷ 61 ∷ 48 ∷ 10 ∷
    112 ∷ 105 ∷ 99 ∷ 116 ∷ 117 ∷ 114 ∷ 101 ∷ 115 ∷ 61 ∷ 49 ∷ 10 ∷
    []

-- chunk=0, level=1, kind=FORM, name=ILBM, at=0, size=4
abbrev pub record_bytes : List ℕ
record_bytes =
    99 ∷ 104 ∷ 117 ∷ 110 ∷ 107 ∷ 61 ∷ 48 ∷ 10 ∷
    108 ∷ 101 ∷ 118 ∷ 101 ∷ 108 ∷ 61 ∷ 49 ∷ 10 ∷
    107 ∷ 105 ∷ 110 ∷ 100 ∷ 61 ∷ 70 ∷ 79 ∷ 82 ∷ 77 ∷ 10 ∷
    110 ∷ 97 ∷ 109 ∷ 101 ∷ 61 ∷ 73 ∷ 76 ∷ 66 ∷ 77 ∷ 10 ∷
    97 ∷ 116 ∷ 61 ∷ 48 ∷ 10 ∷
    115 ∷ 105 ∷ 122 ∷ 101 ∷ 61 ∷ 52 ∷ 10 ∷
    []

-- answer=40, place=0
abbrev pub too_long_bytes : List ℕ
too_long_bytes =
    97 ∷ 110 ∷ 115 ∷ 119 ∷ 101 ∷ 114 ∷ 61 ∷ 52 ∷ 48 ∷ 10 ∷
    112 ∷ 108 ∷ 97 ∷ 99 ∷ 101 ∷ 61 ∷ 48 ∷ 10 ∷
    []

pub head_printed : head_text 1 12 0 1 ≡ head_bytes
unfolding decimal_up_to number_line
head_printed = refl

pub record_printed : record_text 0 1 FORM 0x494C424D 0 4 ≡ record_bytes
unfolding decimal_up_to number_line kind_line name_line
record_printed = refl

pub too_long_printed : refusal_text 40 0 ≡ too_long_bytes
unfolding decimal_up_to number_line
too_long_printed = refl

-- the largest number of 64 bits
pub largest_printed : decimal 18446744073709551615 ≡ 49 ∷ 56 ∷ 52 ∷ 52 ∷ 54 ∷ 55 ∷ 52 ∷ 52 ∷ 48 ∷ 55 ∷ 51 ∷ 55 ∷ 48 ∷ 57 ∷ 53 ∷ 53 ∷ 49 ∷ 54 ∷ 49 ∷ 53 ∷ []
unfolding decimal_up_to
largest_printed = refl
