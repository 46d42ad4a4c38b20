-- Which property counts: the last one before the first BODY, or else the shared one. A chunk's data begins 8 behind its place and has the
-- size that stands before it.
use Prim.Native.Nat.{ℕ, ◌+◌, ◌≤◌, ◌<◌}
use mathlib.Core.Path.{◌≡◌, refl, ap, ◌∙◌}
use mathlib.Core.Bool.{false}
use mathlib.Core.List.{List}
use mathlib.Core.Option.{Option as Maybe, some, none as nothing}
use lib.ListN.{length}
use native.Mathlib.Omega.{arith}
use Rattle.iff_chunk.specs.Chunks.{word}
use Rattle.ilbm_spec.specs.declared.Origin.TheVariants.{Own, Shared as Shared-by, Absent}
use Rattle.ilbm_spec.specs.Names.{BMHD, CMAP, GRAB, DEST, SPRT, CAMG}
use Rattle.ilbm_spec.specs.Contents.{Located, last_named, at_body, Property, own, shared, absent, own_or, property_of}
use Rattle.ilbm_spec.specs.Contents.{bodies_from}
use Rattle.ilbm_spec.specs.Pictures.{origin_of}
use Rattle.ilbm_members.specs.declared.Gathered.{Gathered}
use Rattle.ilbm_members.specs.Members.{Row, Marks}
use Rattle.ilbm_members.proofs.Laws.{none_some, some_same}
use Rattle.ilbm_members.specs.Gathers.{LastIs, first_of, Gathers}
use Rattle.ilbm_locate.specs.declared.Shared.{Shared}
use Rattle.ilbm_locate.specs.declared.Scope.{Scope}
use Rattle.ilbm_locate.specs.Scopes.{SharedIs}
use Rattle.ilbm_content.specs.declared.Held.{Held}
use Rattle.ilbm_content.specs.declared.Contents.{Contents}
use Rattle.ilbm_content.specs.Held.{Shows, HeldIs, Marked, Known, PartIs, OwnOrShared, ContentIs}
use Rattle.std.specs.Prelude.{Option, Some, None}

-- a chunk at a place
module _ (s : List ℕ) (k : Option ℕ) where
  pub part_none : k ≡ None → PartIs s k None
  part_none z = record { at = go }
    where
      go : (o : Maybe Located) → Marks s k o → Shows s None o
      go nothing m = tt
      go (some x) m = absurd (none_some k x.place z m.0)

  module _ (p : ℕ) (z : k ≡ Some p) where
    pub part_room : Marked s k → p + 4 + 4 ≤ length s
    part_room (nothing, m) = absurd (none_some k p m z)
    part_room (some x, m) = omega (arith, some_same k p x.place z m.0, m.1.inside)

    pub part_some : (n : ℕ) → n ≡ word s (p + 4) → PartIs s k (Some (p + 8, p + 8 + n))
    part_some n i = record { at = go }
      where
        go : (o : Maybe Located) → Marks s k o → Shows s (Some (p + 8, p + 8 + n)) o
        go nothing m = absurd (none_some k p m z)
        go (some x) m =
            let a = some_same k p x.place z m.0 in
            let j : n ≡ length x.content = i ∙ (rw a m.1.size) in
            let y = m.1.inside in
            (rw (j, a) m.1.part, omega arith, omega arith, omega arith)

    pub part_fits : (n : ℕ) → n ≡ word s (p + 4) → Marked s k → p + 8 + n < 16777217
    part_fits n i (nothing, m) = absurd (none_some k p m z)
    part_fits n i (some x, m) =
        let a = some_same k p x.place z m.0 in
        let j : n ≡ length x.content = i ∙ (rw a m.1.size) in
        omega (arith, m.1.inside, m.1.short)

    pub place_fits : Marked s k → p + 8 < 16777217
    place_fits (nothing, m) = absurd (none_some k p m z)
    place_fits (some x, m) = omega (arith, some_same k p x.place z m.0, m.1.inside, m.1.short)

-- the shared property that stands at its places
shared_stands :
    (s : List ℕ) (h : Option Shared) (a : Shared) (p : ℕ) (x : Located) → h ≡ Some a → SharedIs s h (shared p x) →
    (a.prop ≡ p) × Marks s (Some a.place) (some x)
shared_stands s h a p x i (j, w) = let y : a ≡ record { prop = p; place = x.place } = cc in rw y (refl, (refl, w))

no_shared : (h : Option Shared) (a : Shared) → h ≡ None → h ≡ Some a → ⊥
no_shared h a i j = let z : ◌≡◌ {A = ℕ} 0 1 = cc in omega arith

-- the property that counts
module _ (s : List ℕ) (k : Option ℕ) (h : Option Shared) where
  pub own_counts : (r : Option (ℕ × ℕ)) → (k ≡ None → ⊥) → PartIs s k r → OwnOrShared s k h (record { part = r; origin = Own })
  own_counts r z w = record { at = go }
    where
      go : (o : Maybe Located) (q : Property) → Marks s k o → SharedIs s h q → HeldIs s (record { part = r; origin = Own }) (own_or o q)
      go nothing q m y = absurd (z m)
      go (some x) q m y = (refl, w.at (some x) m)

  module _ (z : k ≡ None) where
    none-own : {A : Type 0} (x : Located) → Marks s k (some x) → A
    none-own x m = absurd (none_some k x.place z m.0)

    pub shared_counts : (r : Option (ℕ × ℕ)) (a : Shared) → h ≡ Some a → PartIs s (Some a.place) r →
        OwnOrShared s k h (record { part = r; origin = Shared-by a.prop })
    shared_counts r a y w = record { at = go }
      where
        go : (o : Maybe Located) (q : Property) → Marks s k o → SharedIs s h q →
            HeldIs s (record { part = r; origin = Shared-by a.prop }) (own_or o q)
        go (some x) q m v = none-own x m
        go nothing (own x) m v = absurd v
        go nothing (shared p x) m v = let u = shared_stands s h a p x y v in (ap Shared-by u.0, w.at (some x) u.1)
        go nothing absent m v = absurd (no_shared h a v y)

    pub nothing_counts : h ≡ None → OwnOrShared s k h (record { part = None; origin = Absent })
    nothing_counts y = record { at = go }
      where
        go : (o : Maybe Located) (q : Property) → Marks s k o → SharedIs s h q →
            HeldIs s (record { part = None; origin = Absent }) (own_or o q)
        go (some x) q m v = none-own x m
        go nothing (own x) m v = absurd v
        go nothing (shared p x) m v = absurd (no_shared h _ y v.0)
        go nothing absent m v = (refl, refl)

pub shared_marked : (s : List ℕ) (h : Option Shared) (a : Shared) → h ≡ Some a → Known s h → Marked s (Some a.place)
shared_marked s h a z (own x, v) = absurd v
shared_marked s h a z (shared p x, v) = (some x, (shared_stands s h a p x z v).1)
shared_marked s h a z (absent, v) = absurd (no_shared h a v z)

pub last_marked : (s : List ℕ) (p e name : ℕ) (x : Option ℕ) → Row s p e → LastIs s p e false name x → Marked s x
last_marked s p e name x (F, R, h) w = (last_named at_body name p nothing F, w.at F R h)

-- all of it
module _ (s : List ℕ) (form e : ℕ) (c : Scope) (g : Gathered) (r : Contents) (w : Gathers s (form + 12) e false g) where
  pub all_content :
      OwnOrShared s g.bmhd c.bmhd r.bmhd → OwnOrShared s g.cmap c.cmap r.cmap →
      OwnOrShared s g.grab c.grab r.grab →
      OwnOrShared s g.dest c.dest r.dest → OwnOrShared s g.sprt c.sprt r.sprt →
      OwnOrShared s g.camg c.camg r.camg →
      r.bodies ≡ g.bodies → PartIs s g.body r.body → ContentIs s form e c r
  unfolding property_of
  all_content a b d f i j n y =
      record {
        at = λ G R scope h k.
            record {
              bmhd = a.at (last_named at_body BMHD (form + 12) nothing G) (scope BMHD) (w.last.bmhd.at G R h) k.bmhd;
              cmap = b.at (last_named at_body CMAP (form + 12) nothing G) (scope CMAP) (w.last.cmap.at G R h) k.cmap;
              grab = d.at (last_named at_body GRAB (form + 12) nothing G) (scope GRAB) (w.last.grab.at G R h) k.grab;
              dest = f.at (last_named at_body DEST (form + 12) nothing G) (scope DEST) (w.last.dest.at G R h) k.dest;
              sprt = i.at (last_named at_body SPRT (form + 12) nothing G) (scope SPRT) (w.last.sprt.at G R h) k.sprt;
              camg = j.at (last_named at_body CAMG (form + 12) nothing G) (scope CAMG) (w.last.camg.at G R h) k.camg;
              bodies = n ∙ (w.bodies.at G R h).0;
              body = y.at (first_of (bodies_from (form + 12) G)) (w.bodies.at G R h).1;
            };
      }

pub body_marked : (s : List ℕ) (p e : ℕ) (g : Gathered) → Row s p e → Gathers s p e false g → Marked s g.body
body_marked s p e g (F, R, h) w = (first_of (bodies_from p F), (w.bodies.at F R h).1)

-- what is told of a property's origin is its own
pub origin_is : (s : List ℕ) (h : Held) (q : Property) → HeldIs s h q → h.origin ≡ origin_of q
origin_is s h (own x) k = k.0
origin_is s h (shared p x) k = k.0
origin_is s h absent k = k.0
