-- The table of a file's pictures: for each what the calls on it need, 30 numbers, in file order. 01 has no such table; docs/DECISIONS.md
-- has what it is and why.
use Rattle.std.specs.Prelude.{ℕ, ◌/◌, List, [], ◌∷◌, ◌++◌, eqb, ltb, length, drop}
use Rattle.iff_name.specs.Name.{pick}
use Rattle.iff_chunk.specs.Chunks.{Chunk}
use Rattle.iff_tree.specs.Judge.{Found, found, refused, read_file}
use Rattle.ilbm_spec.specs.declared.Origin.{Origin}
use Rattle.ilbm_spec.specs.declared.Origin.TheVariants.{Own, Shared, Absent}
use Rattle.ilbm_spec.specs.Names.{ILBM}
use Rattle.ilbm_spec.specs.Contents.{Located, Property, no_scope, Content, content_by, contents_of}
use Rattle.ilbm_spec.specs.Pictures.{origin_of, picture_refusal}
use Rattle.ilbm_spec.specs.Palette.{extent_of, extent_from}
use Rattle.iff_refusal.specs.declared.Reason.TheVariants.{TableTooShort}
use Rattle.iff_refusal.specs.declared.Reason.{Reason}
use Rattle.iff_refusal.specs.Numbers.{Answer, refusing, number_unless}
use Rattle.std.specs.Prelude.{Result, Ok, Err}

-- "Each property is told with its origin: own, shared with the place of the PROP, or absent": 1, 2 or 0, and the place, 0 unless shared
abbrev pub origin_number : Origin → ℕ
origin_number Own = 1
origin_number (Shared p) = 2
origin_number Absent = 0

abbrev pub shared_place : Origin → ℕ
shared_place Own = 0
shared_place (Shared p) = p
shared_place Absent = 0

-- A property's part of a row: its origin, the place of its PROP, and where its data lies, from a place up to another.
pub record PropertyRow : Type 0 where
  pub origin : ℕ
  pub shared : ℕ
  pub from : ℕ
  pub to : ℕ

abbrev pub property_row : Property → PropertyRow
property_row q =
    record {
      origin = origin_number (origin_of q);
      shared = shared_place (origin_of q);
      from = (extent_from q).from;
      to = (extent_from q).to;
    }

-- The BODY's: 1 if there is one, else 0, and where its data lies.
pub record BodyRow : Type 0 where
  pub there : ℕ
  pub from : ℕ
  pub to : ℕ

abbrev pub body_row : List Located → BodyRow
body_row [] = record { there = 0; from = 0; to = 0 }
body_row (x ∷ xs) = record { there = 1; from = (extent_of x).from; to = (extent_of x).to }

-- The row of a picture: its answer, 0 or the number of its refusal, its FORM's place and type, the six properties and the BODY.
pub record PictureRow : Type 0 where
  pub answer : ℕ
  pub place : ℕ
  pub form_type : ℕ
  pub bmhd : PropertyRow
  pub cmap : PropertyRow
  pub grab : PropertyRow
  pub dest : PropertyRow
  pub sprt : PropertyRow
  pub camg : PropertyRow
  pub body : BodyRow

abbrev pub row_with : ℕ → Content → PictureRow
row_with answer c =
    record {
      answer = answer;
      place = c.place;
      form_type = ILBM;
      bmhd = property_row c.bmhd;
      cmap = property_row c.cmap;
      grab = property_row c.grab;
      dest = property_row c.dest;
      sprt = property_row c.sprt;
      camg = property_row c.camg;
      body = body_row c.bodies;
    }

-- a picture of which nothing but the place is told: no property, no BODY, so that their numbers are 0
abbrev pub without_parts : Content → Content
without_parts c = content_by c.place no_scope []

abbrev pub shown_parts : Result (Unit {0}) Reason → Content → Content
shown_parts (Ok u) c = c
shown_parts (Err k) c = without_parts c

-- of a refused picture its answer, place and type are told, and the rest is 0
unfoldable pub picture_row : Content → PictureRow
picture_row c = row_with (number_unless (picture_refusal c)) (shown_parts (picture_refusal c) c)

unfoldable pub picture_rows : List Content → List PictureRow
picture_rows [] = []
picture_rows (c ∷ cs) = picture_row c ∷ picture_rows cs

-- The rows for a table of so many numbers: 1 to 12, "then 13" if it has fewer places, of 30 numbers each, than there are pictures.
abbrev pub rows_for : ℕ → Found Chunk → Found (List PictureRow)
rows_for room (found c) =
    pick (ltb (room / 30) (length (contents_of c))) (refused TableTooShort 0)
    (found (picture_rows (contents_of c)))
rows_for room (refused k p) = refused k p

abbrev pub table_of : List ℕ → ℕ → Found (List PictureRow)
table_of s room = rows_for room (read_file s)

-- A row as numbers: answer, place and type; for BMHD, CMAP, GRAB, DEST, SPRT, CAMG in this order origin, the PROP's place, from, to; the
-- BODY's three.
abbrev pub property_numbers : PropertyRow → List ℕ
property_numbers r = r.origin ∷ r.shared ∷ r.from ∷ r.to ∷ []

abbrev pub body_numbers : BodyRow → List ℕ
body_numbers r = r.there ∷ r.from ∷ r.to ∷ []

unfoldable pub row_numbers : PictureRow → List ℕ
row_numbers r =
    (r.answer ∷ r.place ∷ r.form_type ∷ []) ++
    (property_numbers r.bmhd ++
    (property_numbers r.cmap ++
    (property_numbers r.grab ++
    (property_numbers r.dest ++
    (property_numbers r.sprt ++
    (property_numbers r.camg ++ body_numbers r.body))))))

unfoldable pub table_numbers : List PictureRow → List ℕ
table_numbers [] = []
table_numbers (r ∷ rs) = row_numbers r ++ table_numbers rs

-- what is told, and what stands in the lent table afterwards: "A refusal changes no lent byte or record", and "places beyond left as found"
abbrev pub table_answer : Found (List PictureRow) → Answer ℕ
table_answer (found rs) = Ok (length rs)
table_answer (refused k p) = refusing k p

abbrev pub table_after : Found (List PictureRow) → List ℕ → List ℕ
table_after (found rs) old = table_numbers rs ++ drop (length (table_numbers rs)) old
table_after (refused k p) old = old
