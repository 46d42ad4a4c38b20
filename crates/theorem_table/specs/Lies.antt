-- That the chunks which count for a picture lie in the file where they are said to lie.
use Rattle.std.specs.Prelude.{ℕ, ◌+◌, ◌≤◌, ◌≡◌}
use mathlib.Core.List.{List, [], ◌∷◌}
use Rattle.std.proofs.Math.Option.{Option, some, none as nothing}
use Rattle.std.proofs.Math.ListN.{length}
use Rattle.std.proofs.Math.Seq.{slice}
use Rattle.ilbm_spec.specs.Contents.{Located, Property, own, shared, absent, Content}

-- the data of a chunk that is said to stand at a place begins 8 further on
pub record Lies (s : List ℕ) (x : Located) : Type 0 where
  pub part : slice (x.place + 8) (x.place + 8 + length x.content) s ≡ x.content
  pub inside : x.place + 8 + length x.content ≤ length s

abbrev pub OptionLies : List ℕ → Option Located → Type 0
OptionLies s (some x) = Lies s x
OptionLies s nothing = Unit {0}

abbrev pub PropertyLies : List ℕ → Property → Type 0
PropertyLies s (own x) = Lies s x
PropertyLies s (shared q x) = Lies s x
PropertyLies s absent = Unit {0}

abbrev pub BodiesLie : List ℕ → List Located → Type 0
BodiesLie s [] = Unit {0}
BodiesLie s (x ∷ xs) = Lies s x × BodiesLie s xs

pub record ContentLies (s : List ℕ) (c : Content) : Type 0 where
  pub bmhd : PropertyLies s c.bmhd
  pub cmap : PropertyLies s c.cmap
  pub grab : PropertyLies s c.grab
  pub dest : PropertyLies s c.dest
  pub sprt : PropertyLies s c.sprt
  pub camg : PropertyLies s c.camg
  pub bodies : BodiesLie s c.bodies

abbrev pub ContentsLie : List ℕ → List Content → Type 0
ContentsLie s [] = Unit {0}
ContentsLie s (c ∷ cs) = ContentLies s c × ContentsLie s cs
