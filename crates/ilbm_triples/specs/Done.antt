-- The triples of a picture that is not refused, by the parts of the file that hold its content.
use Rattle.std.specs.Prelude.{ℕ, ◌≡◌, List}
use Rattle.ilbm_spec.specs.declared.BitmapHeader.{BitmapHeader}
use Rattle.ilbm_spec.specs.Contents.{Content}
use Rattle.ilbm_spec.specs.Pictures.{data_of, header_in, palette_of_property}
use Rattle.ilbm_spec.specs.Colours.{mode_of_view}
use Rattle.ilbm_spec.specs.Triples.{triples_by}
use Rattle.ilbm_content.specs.declared.Contents.{Contents}
use Rattle.ilbm_find.specs.Seen.{Shown}

pub record TriplesAre (s : List ℕ) (c : Contents) (h : BitmapHeader) (default : List ℕ) (r : List (List ℕ)) : Type 0 where
  pub at :
      (x : Content) → Shown s c h x →
      r ≡ triples_by (mode_of_view x) (header_in (data_of x.bmhd)).planes (palette_of_property x.cmap default)
