-- The numbers told of a BMHD by its bytes alone.
use Rattle.std.specs.Prelude.{ℕ, List, Result, Ok, Err, eqb, length}
use Rattle.iff_name.specs.Name.{pick}
use Rattle.iff_refusal.specs.declared.Reason.{Reason}
use Rattle.iff_refusal.specs.declared.Reason.TheVariants.{WrongSize}
use Rattle.iff_refusal.specs.Numbers.{number_of}
use Rattle.export_fields.specs.declared.BmhdNumbers.{BmhdNumbers}
use Rattle.ilbm_spec.specs.declared.BitmapHeader.{BitmapHeader}
use Rattle.ilbm_spec.specs.Pictures.{header_in}
use Rattle.export_property_numbers.specs.Properties.{no_header}

-- "BMHD is 20 bytes": its fields, or 23
abbrev pub bmhd_of : List ℕ → Result BitmapHeader Reason
bmhd_of d = pick (eqb (length d) 20) (Ok (header_in d)) (Err WrongSize)

-- 0 and the fields, or the number with every field 0
abbrev pub bmhd_numbers : Result BitmapHeader Reason → BmhdNumbers
bmhd_numbers (Ok b) = record { number = 0; header = b }
bmhd_numbers (Err k) = record { number = number_of k; header = no_header }
