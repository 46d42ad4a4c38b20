-- Where a part of the file begins and ends, 0 and 0 for nothing.
use Rattle.std.specs.Prelude.{ℕ}
use Rattle.std.specs.Prelude.{Some, None, Option}

abbrev pub from_of : Option (ℕ × ℕ) → ℕ
from_of None = 0
from_of (Some (a, b)) = a

abbrev pub to_of : Option (ℕ × ℕ) → ℕ
to_of None = 0
to_of (Some (a, b)) = b
