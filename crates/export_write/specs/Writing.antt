-- The fields that the picture writer is handed, and the numbers told of its answer and of the packer's.
use Rattle.std.specs.Prelude.{ℕ, ℤ, Result, Ok, Err}
use Rattle.ilbm_spec.specs.declared.BitmapHeader.{BitmapHeader}
use Rattle.iff_refusal.specs.declared.Reason.{Reason}
use Rattle.iff_refusal.specs.Numbers.{number_of}

-- "pad1 .. 0": it is not handed over
abbrev pub header_of : ℕ → ℕ → ℤ → ℤ → ℕ → ℕ → ℕ → ℕ → ℕ → ℕ → ℤ → ℤ → BitmapHeader
header_of w h x y planes masking compression transparent xAspect yAspect pageWidth pageHeight =
    record {
      w = w;
      h = h;
      x = x;
      y = y;
      planes = planes;
      masking = masking;
      compression = compression;
      pad1 = 0;
      transparent = transparent;
      x_aspect = xAspect;
      y_aspect = yAspect;
      page_width = pageWidth;
      page_height = pageHeight;
    }

-- 0 and the length of what was written, or the number of a refusal and 0; no refusal here has a place
pub record SizeNumbers : Type 0 where
  pub number : ℕ
  pub value : ℕ

abbrev pub size_numbers : Result ℕ Reason → SizeNumbers
size_numbers (Ok n) = record { number = 0; value = n }
size_numbers (Err k) = record { number = number_of k; value = 0 }
