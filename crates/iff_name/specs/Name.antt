-- The names of EA IFF 85, as 01 "Names" has them. A name is its four bytes as one number, the first byte the highest,
-- so two names are the same exactly if the numbers are.
use Rattle.std.specs.Prelude.{ℕ, ◌/◌, ◌%◌, Bool, true, false, not, leb, eqb}
use Rattle.iff_name.specs.declared.Kind.{Kind}
use Rattle.iff_name.specs.declared.Kind.TheVariants.{FORM, LIST, CAT, PROP, FILLER, LOCAL}
use Rattle.iff_name.specs.Codes as Codes

abbrev pub both : Bool → Bool → Bool
both true b = b
both false b = false

abbrev pub either : Bool → Bool → Bool
either true b = true
either false b = b

abbrev pub pick : {A : Type 0} → Bool → A → A → A
pick true a b = a
pick false a b = b

-- the four bytes of a name, the first first
abbrev pub byte0 : ℕ → ℕ
byte0 n = n / 16777216

abbrev pub byte1 : ℕ → ℕ
byte1 n = n / 65536 % 256

abbrev pub byte2 : ℕ → ℕ
byte2 n = n / 256 % 256

abbrev pub byte3 : ℕ → ℕ
byte3 n = n % 256

-- a test of each of the four bytes
abbrev pub each_byte : (ℕ → Bool) → ℕ → Bool
each_byte f n = both (both (f (byte0 n)) (f (byte1 n))) (both (f (byte2 n)) (f (byte3 n)))

-- "Bytes lie in hex 20 to 7E"
abbrev pub printable : ℕ → Bool
printable b = both (leb 32 b) (leb b 126)

-- "no space stands before a non-space", of two neighbouring bytes
abbrev pub space_then : ℕ → ℕ → Bool
space_then b next = either (not (eqb b 32)) (eqb next 32)

-- "Bytes lie in hex 20 to 7E and no space stands before a non-space."
unfoldable pub well_formed : ℕ → Bool
well_formed n =
    both
    (each_byte printable n)
    (both (space_then (byte0 n) (byte1 n)) (both (space_then (byte1 n) (byte2 n)) (space_then (byte2 n) (byte3 n))))

-- "Version names are FOR1 to FOR9, LIS1 to LIS9, CAT1 to CAT9: 27 in all."
unfoldable pub version_name : ℕ → Bool
version_name n =
    both
    (either (eqb (n / 256) Codes.FOR) (either (eqb (n / 256) Codes.LIS) (eqb (n / 256) Codes.CATS)))
    (both (leb 49 (n % 256)) (leb (n % 256) 57))

abbrev pub type_byte : ℕ → Bool
type_byte b = either (both (leb 65 b) (leb b 90)) (either (both (leb 48 b) (leb b 57)) (eqb b 32))

-- "only A to Z, 0 to 9 and trailing spaces": together with `well_formed` the spaces are trailing
unfoldable pub type_bytes : ℕ → Bool
type_bytes n = each_byte type_byte n

-- the kind of a chunk that has this name; "Four spaces is the filler", "Any other well-formed name is local"
unfoldable pub kind_of : ℕ → Kind
kind_of n =
    pick (eqb n Codes.FORM) FORM
    (pick (eqb n Codes.LIST) LIST
    (pick (eqb n Codes.CAT) CAT
    (pick (eqb n Codes.PROP) PROP
    (pick (eqb n Codes.FILLER) FILLER LOCAL))))

-- the kinds as numbers, as a listing tells them: FORM 1, LIST 2, CAT 3, PROP 4, local 5, filler 6
abbrev pub kind_number : Kind → ℕ
kind_number FORM = 1
kind_number LIST = 2
kind_number CAT = 3
kind_number PROP = 4
kind_number LOCAL = 5
kind_number FILLER = 6

-- FORM, LIST, "CAT ", PROP, JJJJ or all spaces
unfoldable pub reserved_name : ℕ → Bool
reserved_name n =
    either
    (either (eqb n Codes.FORM) (either (eqb n Codes.LIST) (eqb n Codes.CAT)))
    (either (eqb n Codes.PROP) (either (eqb n Codes.JJJJ) (eqb n Codes.FILLER)))

-- "The type of a FORM or PROP has only A to Z, 0 to 9 and trailing spaces, isn't all spaces, and isn't FORM, LIST, PROP,
-- "CAT ", JJJJ or a version name."
unfoldable pub type_name : ℕ → Bool
type_name n = both (both (well_formed n) (type_bytes n)) (both (not (reserved_name n)) (not (version_name n)))
