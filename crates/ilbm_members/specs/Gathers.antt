-- What one pass over the members of a group gathers.
use Rattle.std.specs.Prelude.{ℕ, ◌+◌, ◌≡◌, Bool, List, [], ◌∷◌, eqb, length}
use Rattle.std.specs.Prelude.{Option, Some, None}
use Rattle.std.proofs.Math.Option.{Option as Maybe, some, none as nothing}
use Rattle.iff_name.specs.Name.{both, either, pick}
use Rattle.iff_chunk.specs.Chunks.{Chunks}
use Rattle.ilbm_spec.specs.Names.{BMHD, CMAP, GRAB, DEST, SPRT, CAMG, BODY}
use Rattle.ilbm_spec.specs.Contents.{Located, last_named, at_body, nowhere, bodies_from}
use Rattle.ilbm_members.specs.declared.Gathered.{Gathered}
use Rattle.ilbm_members.specs.Members.{Holds, Marks}

-- what ends the search: nothing where the whole group counts, or else a BODY
abbrev pub ends_at : Bool → ℕ → Bool
ends_at whole = pick whole nowhere at_body

-- something of each name's place
pub record Each (P : ℕ → Option ℕ → Type 0) (g : Gathered) : Type 0 where
  pub bmhd : P BMHD g.bmhd
  pub cmap : P CMAP g.cmap
  pub grab : P GRAB g.grab
  pub dest : P DEST g.dest
  pub sprt : P SPRT g.sprt
  pub camg : P CAMG g.camg

-- x is the place of the last chunk of this name
pub record LastIs (s : List ℕ) (p e : ℕ) (whole : Bool) (name : ℕ) (x : Option ℕ) : Type 0 where
  pub at : (F : Chunks) (R : List ℕ) → Holds s p e F R → Marks s x (last_named (ends_at whole) name p nothing F)

abbrev pub first_of : List Located → Maybe Located
first_of [] = nothing
first_of (x ∷ xs) = some x

-- so many BODYs, and the place of the first
pub record BodiesAre (s : List ℕ) (p e count : ℕ) (first : Option ℕ) : Type 0 where
  pub at : (F : Chunks) (R : List ℕ) → Holds s p e F R → (count ≡ length (bodies_from p F)) × Marks s first (first_of (bodies_from p F))

pub record Gathers (s : List ℕ) (p e : ℕ) (whole : Bool) (g : Gathered) : Type 0 where
  pub last : Each (λ name x. LastIs s p e whole name x) g
  pub bodies : BodiesAre s p e g.bodies g.body

abbrev pub none_yet : Gathered
none_yet = record { bmhd = None; cmap = None; grab = None; dest = None; sprt = None; camg = None; body = None; bodies = 0 }

-- a member of name n at q, after what was gathered before
abbrev pub newer_of : ℕ → ℕ → ℕ → Bool → ℕ → Option ℕ → Option ℕ
newer_of n q bodies whole name old = pick (both (either whole (eqb bodies 0)) (eqb n name)) (Some q) old

abbrev pub taken_with : ℕ → ℕ → Gathered → Bool → Gathered
taken_with n q g whole =
    record {
      bmhd = newer_of n q g.bodies whole BMHD g.bmhd;
      cmap = newer_of n q g.bodies whole CMAP g.cmap;
      grab = newer_of n q g.bodies whole GRAB g.grab;
      dest = newer_of n q g.bodies whole DEST g.dest;
      sprt = newer_of n q g.bodies whole SPRT g.sprt;
      camg = newer_of n q g.bodies whole CAMG g.camg;
      body = pick (both (eqb g.bodies 0) (eqb n BODY)) (Some q) g.body;
      bodies = g.bodies + pick (eqb n BODY) 1 0;
    }
