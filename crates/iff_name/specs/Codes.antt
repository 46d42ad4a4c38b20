-- 01 "Names": the reserved names as numbers, the first byte the highest.
use Rattle.std.specs.Prelude.{ℕ}

abbrev pub FORM : ℕ
FORM = 0x464F524D

abbrev pub LIST : ℕ
LIST = 0x4C495354

-- "CAT "
abbrev pub CAT : ℕ
CAT = 0x43415420

abbrev pub PROP : ℕ
PROP = 0x50524F50

-- four spaces
abbrev pub FILLER : ℕ
FILLER = 0x20202020

abbrev pub JJJJ : ℕ
JJJJ = 0x4A4A4A4A

-- the first three bytes of the version names
abbrev pub FOR : ℕ
FOR = 0x464F52

abbrev pub LIS : ℕ
LIS = 0x4C4953

abbrev pub CATS : ℕ
CATS = 0x434154
