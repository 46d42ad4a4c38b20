-- The header is read back as it was written, but for pad1: two bytes give back a 16-bit number, and its sign.
use Rattle.std.specs.Prelude.{◌<◌, ℤ, pos, negsuc}
use Rattle.ilbm_spec.specs.declared.BitmapHeader.{BitmapHeader}

-- a signed number of 16 bits
abbrev pub Short : ℤ → Type 0
Short (pos n) = n < 32768
Short (negsuc n) = n < 32768

-- The signed fields have 16 bits, as their types say. (Nothing is asked of the others: two bytes give back any number that they were made from.)
pub record InRange (b : BitmapHeader) : Type 0 where
  pub left : Short b.x
  pub top : Short b.y
  pub page_wide : Short b.page_width
  pub page_high : Short b.page_height

-- "the same fields but pad1"
abbrev pub without_pad : BitmapHeader → BitmapHeader
without_pad b =
    record {
      w = b.w;
      h = b.h;
      x = b.x;
      y = b.y;
      planes = b.planes;
      masking = b.masking;
      compression = b.compression;
      pad1 = 0;
      transparent = b.transparent;
      x_aspect = b.x_aspect;
      y_aspect = b.y_aspect;
      page_width = b.page_width;
      page_height = b.page_height;
    }
