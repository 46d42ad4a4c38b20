-- What a call with one value tells.
use Rattle.std.specs.Prelude.{ℕ, Ok, Err}
use Rattle.iff_refusal.specs.Numbers.{Answer, number_of}

-- a call that tells one value beside its number and the place
pub record OneValue : Type 0 where
  pub number : ℕ
  pub place : ℕ
  pub value : ℕ

-- "A refusal returns the number and p": 26 and 27 are told with their places in the BODY; "any other number told beside it is 0"
abbrev pub value_numbers : Answer ℕ → OneValue
value_numbers (Ok n) = record { number = 0; place = 0; value = n }
value_numbers (Err r) = record { number = number_of r.reason; place = r.place; value = 0 }
