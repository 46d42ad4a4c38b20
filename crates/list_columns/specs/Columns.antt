-- 01 "Listing": "a lent table of records, one per chunk, is filled in order, places beyond left as found", one field of a record.
use Rattle.std.specs.Prelude.{ℕ, List, [], ◌∷◌}
use Rattle.iff_name.specs.Name.{kind_number}
use Rattle.list_spec.specs.declared.Record.{Record}

-- the fields of a record as a table has them

abbrev pub record_number : Record → ℕ
record_number r = r.number

abbrev pub level_of : Record → ℕ
level_of r = r.level

abbrev pub kind_number_of : Record → ℕ
kind_number_of r = kind_number r.kind

abbrev pub name_of : Record → ℕ
name_of r = r.name.code

abbrev pub record_place : Record → ℕ
record_place r = r.place

abbrev pub size_of : Record → ℕ
size_of r = r.size

-- A column after records are put into it in order: the field of each, and what was there behind them.
unfoldable pub column : (Record → ℕ) → List Record → List ℕ → List ℕ
column f [] old = old
column f (r ∷ rs) [] = []
column f (r ∷ rs) (x ∷ old) = f r ∷ column f rs old
