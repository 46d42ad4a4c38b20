-- What is seen of a picture by the parts of the file that hold its content.
use Rattle.std.specs.Prelude.{ℕ, ◌≡◌, List}
use Rattle.iff_chunk.specs.Chunks.{Chunks}
use Rattle.iff_tree.specs.Judge.{found, refused}
use Rattle.ilbm_spec.specs.declared.BitmapHeader.{BitmapHeader}
use Rattle.ilbm_spec.specs.Contents.{Scope as Shares, Content, content_of}
use Rattle.ilbm_spec.specs.Pictures.{picture_refusal, data_of, header_in, Viewed, judged}
use Rattle.ilbm_locate.specs.declared.Scope.{Scope}
use Rattle.ilbm_locate.specs.Scopes.{ScopeIs}
use Rattle.ilbm_locate.specs.Spots.{Opens}
use Rattle.ilbm_content.specs.declared.Contents.{Contents}
use Rattle.ilbm_content.specs.Held.{ContentsAre}
use Rattle.iff_refusal.specs.Numbers.{Answer}
use Rattle.std.specs.Prelude.{Ok, Err}

-- the parts and the header are those of a picture that is not refused
pub record Shown (s : List ℕ) (c : Contents) (h : BitmapHeader) (x : Content) : Type 0 where
  pub parts : ContentsAre s c x
  pub sound : picture_refusal x ≡ Ok tt
  pub header : h ≡ header_in (data_of x.bmhd)

-- some picture that is not refused has these parts and this header
abbrev pub Judged : List ℕ → Contents → BitmapHeader → Type 0
Judged s c h = (x : Content) × Shown s c h x

-- the picture that is seen, or the refusal
abbrev pub ViewIs : List ℕ → Answer (Contents × BitmapHeader) → Viewed → Type 0
ViewIs s (Ok (c, h)) v = (x : Content) × (v ≡ found x) × Shown s c h x
ViewIs s (Err r) v = v ≡ refused r.reason r.place

-- a FORM stands at a place, in a scope that c tells
abbrev pub FormIn : List ℕ → ℕ → Scope → Type 0
FormIn s form c = (G : Chunks) × (scope : Shares) × Opens s form G × ScopeIs s c scope

-- what is seen of it
pub record FormView (s : List ℕ) (form : ℕ) (c : Scope) (r : Answer (Contents × BitmapHeader)) : Type 0 where
  pub at : (G : Chunks) (scope : Shares) → Opens s form G → ScopeIs s c scope → ViewIs s r (judged (content_of form G scope))
