-- The numbers told of a record: 0 or the refusal's number, its place, and the values;
-- "any other number told beside it is 0".
use Rattle.std.specs.Prelude.{ℕ}
use Rattle.iff_name.specs.Name.{kind_number}
use Rattle.iff_refusal.specs.Numbers.{Answer, number_of}
use Rattle.list_spec.specs.declared.Record.{Record}
use Rattle.list_spec.specs.declared.Extent.{Extent}
use Rattle.std.specs.Prelude.{Ok, Err}

pub record RecordNumbers : Type 0 where
  pub number : ℕ
  pub place : ℕ
  pub level : ℕ
  pub kind : ℕ
  pub name : ℕ
  pub at : ℕ
  pub size : ℕ

abbrev pub record_numbers : Answer Record → RecordNumbers
record_numbers (Ok r) =
    record { number = 0; place = 0; level = r.level; kind = kind_number r.kind; name = r.name.code; at = r.place; size = r.size }
record_numbers (Err r) = record { number = number_of r.reason; place = r.place; level = 0; kind = 0; name = 0; at = 0; size = 0 }

-- the same of the extent of a chunk's data
pub record ExtentNumbers : Type 0 where
  pub number : ℕ
  pub place : ℕ
  pub from : ℕ
  pub to : ℕ

abbrev pub extent_numbers : Answer Extent → ExtentNumbers
extent_numbers (Ok x) = record { number = 0; place = 0; from = x.from; to = x.to }
extent_numbers (Err r) = record { number = number_of r.reason; place = r.place; from = 0; to = 0 }
