-- What the PROPs around a picture share, as places in a sound file.
use Rattle.std.specs.Prelude.{ℕ, ◌+◌, ◌≡◌, List}
use Rattle.std.specs.Prelude.{Option, Some, None}
use Rattle.std.proofs.Math.Option.{Option as Maybe}
use Rattle.iff_chunk.specs.Chunks.{Chunks, group, word}
use Rattle.ilbm_spec.specs.Names.{BMHD, CMAP, GRAB, DEST, SPRT, CAMG}
use Rattle.ilbm_spec.specs.Contents.{Located, Property, own, shared, absent, shared_or}
use Rattle.ilbm_spec.specs.Contents.{Scope as Shares, prop_scope, list_scope, scope_inside}
use Rattle.ilbm_members.specs.Members.{Holds, Marks, Stands}
use Rattle.ilbm_locate.specs.declared.Shared.{Shared}
use Rattle.ilbm_locate.specs.declared.Scope.{Scope}

-- the places are those of this shared property, and none where it is absent
abbrev pub SharedIs : List ℕ → Option Shared → Property → Type 0
SharedIs s h (own x) = ⊥
SharedIs s h (shared p x) = (h ≡ Some (record { prop = p; place = x.place })) × Stands s x
SharedIs s h absent = h ≡ None

pub record ScopeIs (s : List ℕ) (c : Scope) (scope : Shares) : Type 0 where
  pub bmhd : SharedIs s c.bmhd (scope BMHD)
  pub cmap : SharedIs s c.cmap (scope CMAP)
  pub grab : SharedIs s c.grab (scope GRAB)
  pub dest : SharedIs s c.dest (scope DEST)
  pub sprt : SharedIs s c.sprt (scope SPRT)
  pub camg : SharedIs s c.camg (scope CAMG)

-- some scope is told by these places
abbrev pub Scoped : List ℕ → Scope → Type 0
Scoped s c = (scope : Shares) × ScopeIs s c scope

abbrev pub none_shared : Scope
none_shared = record { bmhd = None; cmap = None; grab = None; dest = None; sprt = None; camg = None }

-- r tells the property at a place k in the PROP at q, or, where there is none, the outer one, which h tells
pub record Nearer (q : ℕ) (k : Option ℕ) (h r : Option Shared) : Type 0 where
  pub at : (s : List ℕ) (o : Maybe Located) (outer : Property) → Marks s k o → SharedIs s h outer → SharedIs s r (shared_or q o outer)

-- r tells the scope that the PROP at q makes, where c tells the scope around its LIST
pub record PropGives (s : List ℕ) (q : ℕ) (c r : Scope) : Type 0 where
  pub at :
      (G : Chunks) (R : List ℕ) (scope : Shares) → Holds s (q + 12) (q + 8 + word s (q + 4)) G R → ScopeIs s c scope →
      ScopeIs s r (prop_scope q G scope)

-- r tells the scope of a LIST's members, where c tells the scope around it
pub record ListGives (s : List ℕ) (p e : ℕ) (c r : Scope) : Type 0 where
  pub at : (F : Chunks) (R : List ℕ) (scope : Shares) → Holds s p e F R → ScopeIs s c scope → ScopeIs s r (list_scope p F scope)

-- r tells the scope inside the group at q
pub record GivesInside (s : List ℕ) (q e : ℕ) (c r : Scope) : Type 0 where
  pub at :
      (n t : ℕ) (G F : Chunks) (R : List ℕ) (scope : Shares) → Holds s q e (group n t G F) R → ScopeIs s c scope →
      ScopeIs s r (scope_inside n q G scope)
