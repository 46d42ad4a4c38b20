-- 01 "Listing": "It is given three ways that agree". The table and the reader are each proved to give the record by number.
use Rattle.std.specs.Prelude.{ℕ, ◌<◌, ◌≡◌, List, length, get_or, Ok, Some}
use Rattle.std.proofs.Common.{ap, ◌∙◌}
use Rattle.iff_tree.specs.Judge.{read_file, check_of, accepting}
use Rattle.iff_grammar.specs.Words.{Bytes}
use Rattle.list_spec.specs.declared.Record.{Record}
use Rattle.list_spec.specs.Records.{record_of}
use Rattle.list_capacity.specs.Capacity.{records_for, answer_of}
use Rattle.list_record_table.specs.Rows.{placed}
use Rattle.list_record_table.proofs.laws.Agree.{numbers_agree}
use Rattle.list_reader.specs.Reading.{step_in, step_at}
use Rattle.list_reader.specs.Agree.{place_before}
use Rattle.list_reader.proofs.laws.Agree.{reader_gives}

-- the table of a file, in a lent one with these records
abbrev pub table_of : List ℕ → List Record → List Record
table_of s old = placed (records_for (length old) (read_file s)) old

-- What place i of the table holds is the record asked for by the number i, and the i-th answer of the reader.
pub record SameRecord (s : List ℕ) (old : List Record) (i : ℕ) (unused : Record) : Type 0 where
  pub by_number : record_of s i ≡ Ok (get_or (table_of s old) i unused)
  pub by_reader : step_at s (place_before s i) ≡ Some (get_or (table_of s old) i unused)

pub same_record :
    (s : List ℕ) → Bytes s → (old : List Record) (n e t : ℕ) → answer_of (length old) (check_of s) ≡ accepting n e t →
    (i : ℕ) (unused : Record) → i < n →
    SameRecord s old i unused
same_record s b old n e t a i unused h =
    let k = numbers_agree s old n e t a i unused h in record { by_number = k; by_reader = reader_gives s b i ∙ ap step_in k }
