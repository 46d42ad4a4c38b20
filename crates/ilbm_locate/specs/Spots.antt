-- Where a picture of a given number stands in a sound file.
use Rattle.std.specs.Prelude.{ℕ, ◌+◌, ◌<◌, ◌≡◌, Bool, true, false, List, [], ◌∷◌, ◌++◌, drop}
use Rattle.std.specs.declared.ops.ControlFlow.{ControlFlow}
use Rattle.std.specs.declared.ops.ControlFlow.TheVariants.{Break, Continue}
use Rattle.iff_name.specs.Name.{pick, kind_of}
use Rattle.iff_rules.specs.Rules.{is_group}
use Rattle.iff_chunk.specs.Chunks.{Chunks, none, leaf, group, word}
use Rattle.ilbm_spec.specs.Names.{is_picture}
use Rattle.ilbm_spec.specs.Contents.{Scope as Shares, scope_inside, Content, content_of, contents_from}
use Rattle.ilbm_members.specs.Members.{Holds, Row}
use Rattle.ilbm_locate.specs.declared.Scope.{Scope}
use Rattle.ilbm_locate.specs.Scopes.{ScopeIs}

-- the group at q has the members G
abbrev pub Opens : List ℕ → ℕ → Chunks → Type 0
Opens s q G = (R : List ℕ) × Holds s (q + 12) (q + 8 + word s (q + 4)) G R

-- the FORM's place and what is shared there; or how many pictures are left to pass
abbrev pub Spot : Type 0
Spot = ControlFlow (ℕ × Scope) ℕ

-- the FORM's place by itself, beside what is shared there
abbrev pub spot_of : ControlFlow ℕ ℕ → Scope → Spot
spot_of (Break f) c = Break (f, c)
spot_of (Continue m) c = Continue m

-- The picture of number k among these is the FORM at a place in a scope; or there are too few, and so many are left to pass.
abbrev pub Spotted : List ℕ → ℕ → List Content → Spot → Type 0
Spotted s k cs (Break (f, c)) =
    (G : Chunks) × (scope : Shares) × (rest : List Content) × Opens s f G × ScopeIs s c scope × (drop k cs ≡ content_of f G scope ∷ rest)
Spotted s k cs (Continue m) = (Y : List Content) → drop k (cs ++ Y) ≡ drop m Y

-- whether the first of some chunks is a group whose name and type pass a test
abbrev pub group_is : (ℕ → ℕ → Bool) → Chunks → Bool
group_is test none = false
group_is test (leaf n d pad F) = false
group_is test (group n t G F) = test n t

-- the pictures in the first of some chunks: itself, if it is one, and those inside it
abbrev pub contents_here : ℕ → Shares → Chunks → List Content
contents_here p scope none = []
contents_here p scope (leaf n d pad F) = []
contents_here p scope (group n t G F) =
    pick (is_picture n t) (content_of p G scope ∷ []) [] ++ contents_from (p + 12) (scope_inside n p G scope) G

-- What the functions find, whatever chunks stand from p to e and whatever scope c tells.
pub record Seeks (s : List ℕ) (p e : ℕ) (c : Scope) (k : ℕ) (r : Spot) : Type 0 where
  pub at : (F : Chunks) (R : List ℕ) (scope : Shares) → Holds s p e F R → ScopeIs s c scope → Spotted s k (contents_from p scope F) r

pub record Visits (s : List ℕ) (p e : ℕ) (c : Scope) (k : ℕ) (r : Spot) : Type 0 where
  pub at : (F : Chunks) (R : List ℕ) (scope : Shares) → Holds s p e F R → ScopeIs s c scope → Spotted s k (contents_here p scope F) r

pub record Enters (s : List ℕ) (p e : ℕ) (c : Scope) (k : ℕ) (r : Spot) : Type 0 where
  pub at :
      (n t : ℕ) (G F : Chunks) (R : List ℕ) (scope : Shares) → Holds s p e (group n t G F) R → ScopeIs s c scope →
      Spotted s k (contents_from (p + 12) (scope_inside n p G scope) G) r

-- b tells whether the chunk at q is a group whose name and type pass a test
pub record IsGroup (s : List ℕ) (q e : ℕ) (test : ℕ → ℕ → Bool) (b : Bool) : Type 0 where
  pub at : (F : Chunks) (R : List ℕ) → Holds s q e F R → b ≡ group_is test F

-- a group stands at q, in a row that ends at e
abbrev pub GroupAt : List ℕ → ℕ → ℕ → Type 0
GroupAt s q e = Row s q e × (q < e) × (is_group (kind_of (word s q)) ≡ true)
