-- The four bytes of a name, as std gives them, are those of the definition.
use Rattle.std.proofs.Common.{ℕ, ◌<◌, ◌/◌, ◌%◌, ◌≡◌, [], ◌∷◌, arith}
use Rattle.std.specs.Int.{w32, to_be_bytes}
use Rattle.iff_name.specs.Name.{byte0, byte1, byte2, byte3}

pub four_bytes : (n : ℕ) → n < 4294967296 → to_be_bytes w32 n ≡ byte0 n ∷ byte1 n ∷ byte2 n ∷ byte3 n ∷ []
four_bytes n h =
    let first : n / 16777216 % 256 ≡ byte0 n = omega arith in
    rw first
