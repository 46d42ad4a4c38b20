-- 01 "Pictures": the names that matter in a picture, and which groups are one or are shared by one.
use Rattle.std.specs.Prelude.{ℕ, Bool, not, eqb}
use Rattle.iff_name.specs.Name.{both, either}
use Rattle.iff_name.specs.Codes.{FORM, PROP}

abbrev pub ILBM : ℕ
ILBM = 0x494C424D

abbrev pub BMHD : ℕ
BMHD = 0x424D4844

abbrev pub CMAP : ℕ
CMAP = 0x434D4150

abbrev pub GRAB : ℕ
GRAB = 0x47524142

abbrev pub DEST : ℕ
DEST = 0x44455354

abbrev pub SPRT : ℕ
SPRT = 0x53505254

abbrev pub CAMG : ℕ
CAMG = 0x43414D47

abbrev pub BODY : ℕ
BODY = 0x424F4459

-- the type of a picture
abbrev pub is_picture_type : ℕ → Bool
is_picture_type t = eqb t ILBM

-- "Each FORM ILBM at any depth is a picture": of a group by its name and type
abbrev pub is_picture : ℕ → ℕ → Bool
is_picture n t = both (eqb n FORM) (is_picture_type t)

-- "the shared PROP": a PROP ILBM
abbrev pub is_shared_prop : ℕ → ℕ → Bool
is_shared_prop n t = both (eqb n PROP) (is_picture_type t)

-- "named other than the six properties and BODY"
abbrev pub foreign : ℕ → Bool
foreign n =
    not
    (either
    (either (eqb n BMHD) (either (eqb n CMAP) (eqb n GRAB)))
    (either (either (eqb n DEST) (eqb n SPRT)) (either (eqb n CAMG) (eqb n BODY))))
