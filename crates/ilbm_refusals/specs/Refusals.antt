-- The refusals of a picture, told by the parts of the file that hold its content.
use Rattle.std.specs.Prelude.{ℕ, ◌≡◌, Bool, List, Result, Ok, Err}
use Rattle.ilbm_spec.specs.Contents.{Property, Content}
use Rattle.ilbm_spec.specs.Pictures.{size_not, size_not_triples, wrong_size, picture_refusal, data_of, header_in}
use Rattle.iff_refusal.specs.declared.Reason.{Reason}
use Rattle.ilbm_spec.specs.declared.BitmapHeader.{BitmapHeader}
use Rattle.ilbm_content.specs.declared.Held.{Held}
use Rattle.ilbm_content.specs.declared.Contents.{Contents}
use Rattle.ilbm_content.specs.Held.{HeldIs, ContentsAre}

-- the parts hold some property, some content
abbrev pub Sized : Held → Type 0
Sized h = (s : List ℕ) × (q : Property) × HeldIs s h q

abbrev pub Full : List ℕ → Contents → Type 0
Full s c = (x : Content) × ContentsAre s c x

-- b tells whether the property that h holds has another size than n, or no multiple of 3
pub record SizeIs (h : Held) (n : ℕ) (b : Bool) : Type 0 where
  pub at : (s : List ℕ) (q : Property) → HeldIs s h q → b ≡ size_not n q

pub record TriplesIs (h : Held) (b : Bool) : Type 0 where
  pub at : (s : List ℕ) (q : Property) → HeldIs s h q → b ≡ size_not_triples q

pub record SizesAre (s : List ℕ) (c : Contents) (b : Bool) : Type 0 where
  pub at : (x : Content) → ContentsAre s c x → b ≡ wrong_size x

-- the header that counts, behind the refusals of a picture
abbrev pub judgement : Result (Unit {0}) Reason → BitmapHeader → Result BitmapHeader Reason
judgement (Ok u) b = Ok b
judgement (Err k) b = Err k

pub record JudgementIs (s : List ℕ) (c : Contents) (r : Result BitmapHeader Reason) : Type 0 where
  pub at : (x : Content) → ContentsAre s c x → r ≡ judgement (picture_refusal x) (header_in (data_of x.bmhd))
