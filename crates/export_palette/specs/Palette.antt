-- The numbers told of a picture's palette; "any other number told beside it is 0".
use Rattle.std.specs.Prelude.{ℕ, List}
use Rattle.ilbm_spec.specs.Pictures.{Viewed, view_of, origin_of}
use Rattle.ilbm_spec.specs.Palette.{extent_from}
use Rattle.ilbm_spec.specs.Table.{origin_number, shared_place}
use Rattle.ilbm_numbers.specs.Parts.{from_of, to_of}
use Rattle.iff_tree.specs.Judge.{found, refused}
use Rattle.export_palette.specs.declared.PaletteParts.{PaletteParts}
use Rattle.iff_refusal.specs.Numbers.{Answer, number_of}
use Rattle.ilbm_content.specs.declared.Contents.{Contents}
use Rattle.ilbm_spec.specs.declared.BitmapHeader.{BitmapHeader}
use Rattle.std.specs.Prelude.{Ok, Err}

-- The CMAP that counts: its origin, and where its data lies, "handed back as a part of the slice it came from"; 0 and 0 where none
-- counts, and after a refusal.
abbrev pub palette_numbers : Viewed → PaletteParts
palette_numbers (found c) =
    record {
      number = 0;
      place = 0;
      origin = origin_number (origin_of c.cmap);
      shared = shared_place (origin_of c.cmap);
      from = (extent_from c.cmap).from;
      to = (extent_from c.cmap).to;
    }
palette_numbers (refused k p) = record { number = number_of k; place = p; origin = 0; shared = 0; from = 0; to = 0 }

abbrev pub palette_call : List ℕ → ℕ → PaletteParts
palette_call s i = palette_numbers (view_of s i)

-- the same of the parts that a view gives
abbrev pub palette_parts : Answer (Contents × BitmapHeader) → PaletteParts
palette_parts (Ok (c, b)) =
    record {
      number = 0;
      place = 0;
      origin = origin_number c.cmap.origin;
      shared = shared_place c.cmap.origin;
      from = from_of c.cmap.part;
      to = to_of c.cmap.part;
    }
palette_parts (Err r) = record { number = number_of r.reason; place = r.place; origin = 0; shared = 0; from = 0; to = 0 }
