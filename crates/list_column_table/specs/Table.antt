-- 01 "Listing": "a lent table of records, one per chunk, is filled in order, places beyond left as found", as one column for each field.
use Rattle.std.specs.Prelude.{ℕ, min, ◌≡◌, List, length}
use Rattle.iff_tree.specs.Judge.{read_file, check_of}
use Rattle.list_capacity.specs.Capacity.{records_for, answer_of}
use Rattle.list_columns.specs.Columns.{record_number, level_of, kind_number_of, name_of, record_place, size_of, column}
use Rattle.iff_refusal.specs.Numbers.{Answer}
use Rattle.iff_tree.specs.declared.Accepted.{Accepted}

-- A table has as many places as its shortest column.
abbrev pub room_of : List ℕ → List ℕ → List ℕ → List ℕ → List ℕ → List ℕ → ℕ
room_of a b c d e f = min (min (min (length a) (length b)) (min (length c) (length d))) (min (length e) (length f))

-- What a table of m places holds for the file s, and the answer r: each column as it was and as it is.
pub record Filled
    (m : ℕ) (s : List ℕ) (r : Answer Accepted)
    (numbers₀ levels₀ kinds₀ names₀ places₀ sizes₀ numbers levels kinds names places sizes : List ℕ)
    : Type 0 where
  pub answer : r ≡ answer_of m (check_of s)
  pub numbers_are : numbers ≡ column record_number (records_for m (read_file s)) numbers₀
  pub levels_are : levels ≡ column level_of (records_for m (read_file s)) levels₀
  pub kinds_are : kinds ≡ column kind_number_of (records_for m (read_file s)) kinds₀
  pub names_are : names ≡ column name_of (records_for m (read_file s)) names₀
  pub places_are : places ≡ column record_place (records_for m (read_file s)) places₀
  pub sizes_are : sizes ≡ column size_of (records_for m (read_file s)) sizes₀
