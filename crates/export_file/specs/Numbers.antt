-- The numbers told for each answer: 0 or the refusal's number, its place, and the values;
-- "any other number told beside it is 0".
use Rattle.std.specs.Prelude.{ℕ}
use Rattle.iff_refusal.specs.Numbers.{Answer, number_of}
use Rattle.iff_tree.specs.declared.Accepted.{Accepted}
use Rattle.std.specs.Prelude.{Ok, Err}

-- what a call tells beside its number
pub record CheckNumbers : Type 0 where
  pub number : ℕ
  pub place : ℕ
  pub chunks : ℕ
  pub end : ℕ
  pub trailing : ℕ

abbrev pub check_numbers : Answer Accepted → CheckNumbers
check_numbers (Ok v) = record { number = 0; place = 0; chunks = v.chunks; end = v.end; trailing = v.trailing }
check_numbers (Err r) = record { number = number_of r.reason; place = r.place; chunks = 0; end = 0; trailing = 0 }
