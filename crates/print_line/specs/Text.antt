-- The lines that the listing program prints, as 01 "Examples" has them: a label, a number or a name, LF.
-- Bytes are their ASCII codes.
use Rattle.std.specs.Prelude.{ℕ, zero, suc, ◌+◌, ◌/◌, ◌%◌, cond, ◌≡◌, List, [], ◌∷◌, ◌++◌, ltb, length, take}
use Rattle.iff_name.specs.declared.Kind.{Kind}
use Rattle.iff_name.specs.declared.Kind.TheVariants.{FORM, LIST, CAT, PROP, FILLER, LOCAL}
use Rattle.iff_name.specs.Name.{byte0, byte1, byte2, byte3}

-- the decimal digits of n with no zero in front, at most k before the last one
unfoldable pub decimal_up_to : ℕ → ℕ → List ℕ
decimal_up_to zero n = (48 + n % 10) ∷ []
decimal_up_to (suc k) n = cond (ltb n 10) ((48 + n) ∷ []) (decimal_up_to k (n / 10) ++ ((48 + n % 10) ∷ []))

-- a number of 64 bits in decimal digits: at most 20
abbrev pub decimal : ℕ → List ℕ
decimal n = decimal_up_to 19 n

-- a line: its label, its text, LF
abbrev pub line : List ℕ → List ℕ → List ℕ
line label text = label ++ text ++ (10 ∷ [])

unfoldable pub number_line : List ℕ → ℕ → List ℕ
number_line label n = line label (decimal n)

-- the label of a line and '='
abbrev pub chunk= : List ℕ
chunk= = 99 ∷ 104 ∷ 117 ∷ 110 ∷ 107 ∷ 61 ∷ []

abbrev pub level= : List ℕ
level= = 108 ∷ 101 ∷ 118 ∷ 101 ∷ 108 ∷ 61 ∷ []

abbrev pub kind= : List ℕ
kind= = 107 ∷ 105 ∷ 110 ∷ 100 ∷ 61 ∷ []

abbrev pub name= : List ℕ
name= = 110 ∷ 97 ∷ 109 ∷ 101 ∷ 61 ∷ []

abbrev pub at= : List ℕ
at= = 97 ∷ 116 ∷ 61 ∷ []

abbrev pub size= : List ℕ
size= = 115 ∷ 105 ∷ 122 ∷ 101 ∷ 61 ∷ []

abbrev pub answer= : List ℕ
answer= = 97 ∷ 110 ∷ 115 ∷ 119 ∷ 101 ∷ 114 ∷ 61 ∷ []

abbrev pub place= : List ℕ
place= = 112 ∷ 108 ∷ 97 ∷ 99 ∷ 101 ∷ 61 ∷ []

abbrev pub chunks= : List ℕ
chunks= = 99 ∷ 104 ∷ 117 ∷ 110 ∷ 107 ∷ 115 ∷ 61 ∷ []

abbrev pub end= : List ℕ
end= = 101 ∷ 110 ∷ 100 ∷ 61 ∷ []

abbrev pub trailing= : List ℕ
trailing= = 116 ∷ 114 ∷ 97 ∷ 105 ∷ 108 ∷ 105 ∷ 110 ∷ 103 ∷ 61 ∷ []

abbrev pub pictures= : List ℕ
pictures= = 112 ∷ 105 ∷ 99 ∷ 116 ∷ 117 ∷ 114 ∷ 101 ∷ 115 ∷ 61 ∷ []

-- "kind is FORM, LIST, CAT, PROP, LOCAL or FILLER"
abbrev pub kind_text : Kind → List ℕ
kind_text FORM = 70 ∷ 79 ∷ 82 ∷ 77 ∷ []
kind_text LIST = 76 ∷ 73 ∷ 83 ∷ 84 ∷ []
kind_text CAT = 67 ∷ 65 ∷ 84 ∷ []
kind_text PROP = 80 ∷ 82 ∷ 79 ∷ 80 ∷ []
kind_text LOCAL = 76 ∷ 79 ∷ 67 ∷ 65 ∷ 76 ∷ []
kind_text FILLER = 70 ∷ 73 ∷ 76 ∷ 76 ∷ 69 ∷ 82 ∷ []

unfoldable pub kind_line : Kind → List ℕ
kind_line kind = line kind= (kind_text kind)

-- the four bytes of a name, the first first
abbrev pub name_text : ℕ → List ℕ
name_text n = byte0 n ∷ byte1 n ∷ byte2 n ∷ byte3 n ∷ []

unfoldable pub name_line : ℕ → List ℕ
name_line n = line name= (name_text n)

-- the six lines of a record: "The last six lines come once per chunk"
abbrev pub record_text : ℕ → ℕ → Kind → ℕ → ℕ → ℕ → List ℕ
record_text number level kind name place size =
    number_line chunk= number ++ number_line level= level ++ kind_line kind ++ name_line name ++ number_line at= place ++ number_line size= size

-- "A refusal prints the first two lines only."
abbrev pub refusal_text : ℕ → ℕ → List ℕ
refusal_text answer place = number_line answer= answer ++ number_line place= place

-- the six lines of an accepted file that stand before the records
abbrev pub head_text : ℕ → ℕ → ℕ → ℕ → List ℕ
head_text chunks end trailing pictures =
    refusal_text 0 0 ++ number_line chunks= chunks ++ number_line end= end ++ number_line trailing= trailing ++ number_line pictures= pictures

-- A text is put into a buffer that holds `before`, behind its first `at` bytes: then it holds `after`, and the text ends at r.
abbrev pub Puts : List ℕ → ℕ → List ℕ → List ℕ → ℕ → Type 0
Puts before at text after r = (r ≡ at + length text) × (take r after ≡ take at before ++ text)

-- A buffer that holds `after` begins with a text of n bytes.
abbrev pub Begins : List ℕ → List ℕ → ℕ → Type 0
Begins after text n = (n ≡ length text) × (take n after ≡ text)
