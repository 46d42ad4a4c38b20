-- The content of a picture as parts of the file.
use Rattle.std.specs.Prelude.{ℕ, ◌+◌, ◌≤◌, ◌≡◌, List, length}
use Rattle.std.proofs.Math.Option.{Option as Maybe, some, none as nothing}
use Rattle.std.proofs.Math.Seq.{slice}
use Rattle.iff_chunk.specs.Chunks.{Chunks}
use Rattle.ilbm_spec.specs.declared.Origin.TheVariants.{Own, Shared as Shared-by, Absent}
use Rattle.ilbm_spec.specs.Contents.{Located, Property, own, shared, absent, Scope as Shares, own_or, Content, content_of}
use Rattle.ilbm_members.specs.Members.{Holds, Marks}
use Rattle.ilbm_members.specs.Gathers.{first_of}
use Rattle.ilbm_locate.specs.declared.Shared.{Shared}
use Rattle.ilbm_locate.specs.declared.Scope.{Scope}
use Rattle.ilbm_locate.specs.Scopes.{SharedIs, ScopeIs}
use Rattle.ilbm_content.specs.declared.Held.{Held}
use Rattle.ilbm_content.specs.declared.Contents.{Contents}
use Rattle.std.specs.Prelude.{Some, None, Option}

-- a part of the file is the data of this chunk, or nothing is
abbrev pub Shows : List ℕ → Option (ℕ × ℕ) → Maybe Located → Type 0
Shows s None nothing = Unit {0}
Shows s None (some x) = ⊥
Shows s (Some (a, b)) nothing = ⊥
Shows s (Some (a, b)) (some x) = (slice a b s ≡ x.content) × (a + length x.content ≡ b) × (b ≤ length s) × (a ≡ x.place + 8)

-- a part of the file and an origin are this property
abbrev pub HeldIs : List ℕ → Held → Property → Type 0
HeldIs s h (own x) = (h.origin ≡ Own) × Shows s h.part (some x)
HeldIs s h (shared p x) = (h.origin ≡ Shared-by p) × Shows s h.part (some x)
HeldIs s h absent = (h.origin ≡ Absent) × (h.part ≡ None)

pub record ContentsAre (s : List ℕ) (c : Contents) (x : Content) : Type 0 where
  pub bmhd : HeldIs s c.bmhd x.bmhd
  pub cmap : HeldIs s c.cmap x.cmap
  pub grab : HeldIs s c.grab x.grab
  pub dest : HeldIs s c.dest x.dest
  pub sprt : HeldIs s c.sprt x.sprt
  pub camg : HeldIs s c.camg x.camg
  pub bodies : c.bodies ≡ length x.bodies
  pub body : Shows s c.body (first_of x.bodies)

-- some chunk, or none, stands at a place; some shared property, or none, at its places
abbrev pub Marked : List ℕ → Option ℕ → Type 0
Marked s k = (o : Maybe Located) × Marks s k o

abbrev pub Known : List ℕ → Option Shared → Type 0
Known s h = (q : Property) × SharedIs s h q

-- r is the data of the chunk at a place
pub record PartIs (s : List ℕ) (k : Option ℕ) (r : Option (ℕ × ℕ)) : Type 0 where
  pub at : (o : Maybe Located) → Marks s k o → Shows s r o

-- r is the FORM's own property at a place, or else the shared one
pub record OwnOrShared (s : List ℕ) (k : Option ℕ) (h : Option Shared) (r : Held) : Type 0 where
  pub at : (o : Maybe Located) (q : Property) → Marks s k o → SharedIs s h q → HeldIs s r (own_or o q)

-- the content of the FORM at a place, whose members end at e
pub record ContentIs (s : List ℕ) (form e : ℕ) (c : Scope) (r : Contents) : Type 0 where
  pub at : (G : Chunks) (R : List ℕ) (scope : Shares) → Holds s (form + 12) e G R → ScopeIs s c scope →
      ContentsAre s r (content_of form G scope)
