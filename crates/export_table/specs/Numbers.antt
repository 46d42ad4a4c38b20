-- What is told of a filled table, or of the refusal: "any other number told beside it is 0".
use Rattle.std.specs.Prelude.{Ok, Err}
use Rattle.export_numbers.specs.Numbers.{OneValue}
use Rattle.iff_refusal.specs.Numbers.{Answer, number_of}
use Rattle.iff_tree.specs.declared.Accepted.{Accepted}

-- 0, or the refusal's number with its place; the value is the count of chunks
abbrev pub records_numbers : Answer Accepted → OneValue
records_numbers (Ok v) = record { number = 0; place = 0; value = v.chunks }
records_numbers (Err r) = record { number = number_of r.reason; place = r.place; value = 0 }
