-- Numbers of 16 bits as two bytes, as std gives them; a signed one goes through its bits.
use Prim.Native.Nat.{ℕ, suc, ◌-◌, ◌/◌, ◌%◌, ◌<◌}
use mathlib.Core.Path.{◌≡◌}
use mathlib.Core.List.{[]}
use lib.IntN.{ℤ, pos, negsuc}
use mir.Syntax.{w16}
use mir.Val.{SFits, to_z, of_z}
use mir.ValLaws.{to_z-of_z}
use native.Mathlib.Omega.{arith}
use Rattle.std.specs.Int.{to_be_bytes}
use Rattle.write_form.specs.File.{put_short, unsigned}

pub two_bytes : (n : ℕ) → n < 65536 → to_be_bytes w16 n ≡ put_short n []
two_bytes n h = let first : n / 256 % 256 ≡ n / 256 = omega arith in rw first

pub signed_bytes : (x : ℤ) → SFits w16 x → to_be_bytes w16 (of_z w16 (to_z w16 (of_z w16 x))) ≡ put_short (unsigned x) []
signed_bytes x f = rw (to_z-of_z w16 x f) (of_bits x f)
  where
    of_bits : (y : ℤ) → SFits w16 y → to_be_bytes w16 (of_z w16 y) ≡ put_short (unsigned y) []
    of_bits (pos n) g = two_bytes n (omega (arith, g.sfits))
    of_bits (negsuc n) g = let is : 65536 - suc n ≡ 65535 - n = omega arith in rw is (two_bytes (65535 - n) (omega arith))
