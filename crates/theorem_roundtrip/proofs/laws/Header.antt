-- A header that is written as BMHD is read back with the same fields but pad1.
use Rattle.std.specs.Prelude.{ℕ, ◌+◌, ◌-◌, ◌*◌, ◌/◌, ◌%◌, ◌≡◌, ℤ, pos, negsuc}
use Rattle.std.proofs.Common.{lt-ltb, le-ltb, arith}
use Rattle.ilbm_spec.specs.declared.BitmapHeader.{BitmapHeader}
use Rattle.ilbm_spec.specs.Pictures.{signed, header_in}
use Rattle.write_form.specs.File.{unsigned, header_bytes}
use Rattle.theorem_roundtrip.specs.Header.{Short, InRange, without_pad}

two_bytes : (n : ℕ) → n / 256 * 256 + n % 256 ≡ n
two_bytes n = omega arith

signed_back : (v : ℤ) → Short v → signed (unsigned v) ≡ v
signed_back (pos n) h = rw (lt-ltb n 32768 h)
signed_back (negsuc n) h =
    let e : 65535 - (65535 - n) ≡ n = omega arith in
    rw (le-ltb (65535 - n) 32768 (omega arith), e)

pub header_back : (b : BitmapHeader) → InRange b → header_in (header_bytes b) ≡ without_pad b
unfolding header_in header_bytes
header_back b r =
    simp (
      two_bytes,
      signed_back b.x r.left,
      signed_back b.y r.top,
      signed_back b.page_width r.page_wide,
      signed_back b.page_height r.page_high,
    )
