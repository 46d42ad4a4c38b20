-- What the properties of a picture that is not refused tell.
use Rattle.std.specs.Prelude.{ℕ, ◌≡◌, false, List}
use Rattle.iff_chunk.specs.Chunks.{word}
use Rattle.ilbm_spec.specs.declared.HotSpot.{HotSpot}
use Rattle.ilbm_spec.specs.declared.Destination.{Destination}
use Rattle.ilbm_spec.specs.declared.BitmapHeader.{BitmapHeader}
use Rattle.ilbm_spec.specs.declared.Picture.{Picture}
use Rattle.ilbm_spec.specs.Contents.{Property, Content}
use Rattle.ilbm_spec.specs.Pictures.{u16, hot_spot_in, destination_in, data_of, size_not, picture_from}
use Rattle.ilbm_content.specs.declared.Held.{Held}
use Rattle.ilbm_content.specs.declared.Contents.{Contents}
use Rattle.ilbm_content.specs.Held.{HeldIs}
use Rattle.ilbm_find.specs.Seen.{Shown}

-- the part holds a property that is absent or has this size
abbrev pub OfSize : List ℕ → Held → ℕ → Type 0
OfSize s h n = (q : Property) × HeldIs s h q × (size_not n q ≡ false)

pub record GrabIs (s : List ℕ) (h : Held) (r : HotSpot) : Type 0 where
  pub at : (q : Property) → HeldIs s h q → r ≡ hot_spot_in (data_of q)

pub record DestinationIs (s : List ℕ) (h : Held) (r : Destination) : Type 0 where
  pub at : (q : Property) → HeldIs s h q → r ≡ destination_in (data_of q)

pub record WordIs (s : List ℕ) (h : Held) (r : ℕ) : Type 0 where
  pub at : (q : Property) → HeldIs s h q → r ≡ u16 (data_of q) 0

pub record LongIs (s : List ℕ) (h : Held) (r : ℕ) : Type 0 where
  pub at : (q : Property) → HeldIs s h q → r ≡ word (data_of q) 0

pub record PictureIs (s : List ℕ) (c : Contents) (b : BitmapHeader) (r : Picture) : Type 0 where
  pub at : (x : Content) → Shown s c b x → r ≡ picture_from x
