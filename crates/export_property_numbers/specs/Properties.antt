-- The numbers told of a picture's properties; "any other number told beside it is 0".
use Rattle.std.specs.Prelude.{ℕ, pos}
use Rattle.ilbm_spec.specs.Table.{origin_number, shared_place}
use Rattle.ilbm_spec.specs.declared.BitmapHeader.{BitmapHeader}
use Rattle.export_property_numbers.specs.declared.PropertyNumbers.{PropertyNumbers}
use Rattle.ilbm_spec.specs.declared.HotSpot.{HotSpot}
use Rattle.ilbm_spec.specs.declared.Destination.{Destination}
use Rattle.ilbm_spec.specs.declared.Origin.{Origin}
use Rattle.iff_refusal.specs.declared.Refusal.{Refusal}
use Rattle.iff_refusal.specs.Numbers.{Answer, number_of}
use Rattle.ilbm_spec.specs.declared.Picture.{Picture}
use Rattle.std.specs.Prelude.{Ok, Err}

-- the fields beside a refusal
abbrev pub no_header : BitmapHeader
no_header =
    record {
      w = 0;
      h = 0;
      x = pos 0;
      y = pos 0;
      planes = 0;
      masking = 0;
      compression = 0;
      pad1 = 0;
      transparent = 0;
      x_aspect = 0;
      y_aspect = 0;
      page_width = pos 0;
      page_height = pos 0;
    }

-- a property that is told with its origin, and none beside a refusal
abbrev pub shown : {T : Type 0} → T → Origin → PropertyNumbers T
shown value o = record { number = 0; place = 0; value = value; origin = origin_number o; shared = shared_place o }

abbrev pub refused_with : {T : Type 0} → Refusal → T → PropertyNumbers T
refused_with r none = record { number = number_of r.reason; place = r.place; value = none; origin = 0; shared = 0 }

abbrev pub header_numbers : Answer Picture → PropertyNumbers BitmapHeader
header_numbers (Ok p) = shown p.header p.header_from
header_numbers (Err r) = refused_with r no_header

abbrev pub grab_numbers : Answer Picture → PropertyNumbers HotSpot
grab_numbers (Ok p) = shown p.grab p.grab_from
grab_numbers (Err r) = refused_with r (record { x = pos 0; y = pos 0 })

abbrev pub destination_numbers : Answer Picture → PropertyNumbers Destination
destination_numbers (Ok p) = shown p.destination p.destination_from
destination_numbers (Err r) =
    refused_with r (record { depth = 0; pad1 = 0; plane_pick = 0; plane_on_off = 0; plane_mask = 0 })

abbrev pub sprite_numbers : Answer Picture → PropertyNumbers ℕ
sprite_numbers (Ok p) = shown p.sprite p.sprite_from
sprite_numbers (Err r) = refused_with r 0

abbrev pub view_mode_numbers : Answer Picture → PropertyNumbers ℕ
view_mode_numbers (Ok p) = shown p.view_mode p.view_mode_from
view_mode_numbers (Err r) = refused_with r 0
