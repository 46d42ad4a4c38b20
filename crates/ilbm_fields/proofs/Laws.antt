-- The fields of a record from what the code reads of each.
use Prim.Native.Nat.{ℕ}
use mathlib.Core.Path.{◌≡◌, ◌∙◌}
use mathlib.Core.List.{List}
use lib.IntN.{ℤ}
use lib.ListN.{get_or}
use mir.Syntax.{w16}
use mir.Val.{SFits, to_z, of_z}
use mir.ValLaws.{to_z-of_z}
use Rattle.ilbm_spec.specs.Pictures.{u16, signed, header_in, hot_spot_in, destination_in}
use Rattle.ilbm_spec.specs.declared.BitmapHeader.{BitmapHeader}
use Rattle.ilbm_spec.specs.declared.HotSpot.{HotSpot}
use Rattle.ilbm_spec.specs.declared.Destination.{Destination}

-- a signed number goes through its bits unchanged
pub same_bits : (r z : ℤ) → SFits w16 r → r ≡ z → to_z w16 (of_z w16 r) ≡ z
same_bits r z f e = to_z-of_z w16 r f ∙ e

-- the fields of a record, one by one
pub hot_spot : (d : List ℕ) (a b : ℤ) → a ≡ signed (u16 d 0) → b ≡ signed (u16 d 2) →
    ◌≡◌ {A = HotSpot} (record { x = a; y = b }) (hot_spot_in d)
unfolding hot_spot_in
hot_spot d a b i j = cc

pub destination : (d : List ℕ) (a b c : ℕ) → a ≡ u16 d 2 → b ≡ u16 d 4 → c ≡ u16 d 6 →
    ◌≡◌ {A = Destination} (record { depth = get_or d 0 0; pad1 = get_or d 1 0; plane_pick = a; plane_on_off = b; plane_mask = c }) (destination_in d)
unfolding destination_in
destination d a b c i j k = cc

pub bitmap_header :
    (d : List ℕ) (w h t : ℕ) (x y pw ph : ℤ) → w ≡ u16 d 0 → h ≡ u16 d 2 → x ≡ signed (u16 d 4) → y ≡ signed (u16 d 6) → t ≡ u16 d 12 →
    pw ≡ signed (u16 d 16) → ph ≡ signed (u16 d 18) →
    ◌≡◌ {A = BitmapHeader}
    (record {
      w = w;
      h = h;
      x = x;
      y = y;
      planes = get_or d 8 0;
      masking = get_or d 9 0;
      compression = get_or d 10 0;
      pad1 = get_or d 11 0;
      transparent = t;
      x_aspect = get_or d 14 0;
      y_aspect = get_or d 15 0;
      page_width = pw;
      page_height = ph;
    })
    (header_in d)
unfolding header_in
bitmap_header d w h t x y pw ph a b c e f g i = cc
