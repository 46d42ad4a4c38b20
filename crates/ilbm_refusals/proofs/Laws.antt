-- 23, told from the parts of the file that hold the properties; and the refusals of the header, by those of its fields.
use Prim.Native.Nat.{ℕ, ◌+◌, ◌-◌, ◌%◌, ◌≤◌}
use mathlib.Core.Path.{◌≡◌, refl}
use mathlib.Core.Bool.{Bool, true, false, not, ◌&&◌}
use mathlib.Core.List.{List}
use mathlib.Core.Option.{some}
use lib.Dec.{eqb}
use lib.ListN.{length}
use native.Mathlib.Omega.{arith}
use Rattle.ilbm_spec.specs.declared.BitmapHeader.{BitmapHeader}
use Rattle.ilbm_spec.specs.Contents.{Property, own, shared, absent}
use Rattle.ilbm_spec.specs.Pictures.{data_of, counts, wrong_size, empty_fields, fields_refusal, header_refusal}
use Rattle.ilbm_content.specs.Held.{Shows}
use Rattle.ilbm_content.specs.declared.Held.{Held}
use Rattle.ilbm_content.specs.declared.Contents.{Contents}
use Rattle.ilbm_content.specs.Held.{HeldIs}
use Rattle.ilbm_refusals.specs.Refusals.{Sized, Full, SizeIs, TriplesIs, SizesAre}
use Rattle.iff_name.specs.Name.{either}
use Rattle.iff_refusal.specs.declared.Reason.{Reason}
use Rattle.std.specs.Prelude.{Option, Some, None, Result}

never : {A : Type 0} (p : Option (ℕ × ℕ)) (a b : ℕ) → p ≡ None → p ≡ Some (a, b) → A
never p a b i j = absurd (let z : ◌≡◌ {A = ℕ} 0 1 = cc in omega arith)

-- what a part says of the property that it holds
pub record Counting (q : Property) (a b : ℕ) : Type 0 where
  pub counts : counts q ≡ true
  pub sized : a + length (data_of q) ≡ b

pub held_some : (s : List ℕ) (h : Held) (q : Property) (a b : ℕ) → HeldIs s h q → h.part ≡ Some (a, b) → Counting q a b
held_some s h (own d) a b k i = let w : Shows s (Some (a, b)) (some d) = rw i at k.1 in record { counts = refl; sized = w.1 }
held_some s h (shared p d) a b k i = let w : Shows s (Some (a, b)) (some d) = rw i at k.1 in record { counts = refl; sized = w.1 }
held_some s h absent a b k i = never h.part a b k.1 i

pub held_none : (s : List ℕ) (h : Held) (q : Property) → HeldIs s h q → h.part ≡ None → counts q ≡ false
held_none s h (own d) k i = absurd (let w : Shows s None (some d) = rw i at k.1 in w)
held_none s h (shared p d) k i = absurd (let w : Shows s None (some d) = rw i at k.1 in w)
held_none s h absent k i = refl

pub sized_order : (h : Held) (a b : ℕ) → Sized h → h.part ≡ Some (a, b) → a ≤ b
sized_order h a b (s, q, k) i = omega (arith, (held_some s h q a b k i).sized)

module _ (h : Held) where
  module _ (a b : ℕ) (i : h.part ≡ Some (a, b)) where
    length-is : (s : List ℕ) (q : Property) → HeldIs s h q → length (data_of q) ≡ b - a
    length-is s q k = omega (arith, (held_some s h q a b k i).sized)

    pub size_some : (n : ℕ) → SizeIs h n (not (eqb (b - a) n))
    size_some n = record { at = λ s q k. rw ((held_some s h q a b k i).counts, length-is s q k) }

    pub triples_some : TriplesIs h (not (eqb ((b - a) % 3) 0))
    triples_some = record { at = λ s q k. rw ((held_some s h q a b k i).counts, length-is s q k) }

  module _ (i : h.part ≡ None) where
    pub size_none : (n : ℕ) → SizeIs h n false
    size_none n = record { at = λ s q k. rw (held_none s h q k i) }

    pub triples_none : TriplesIs h false
    triples_none = record { at = λ s q k. rw (held_none s h q k i) }

-- the parts of a full content are sized
module _ (s : List ℕ) (c : Contents) (f : Full s c) where
  pub sized_bmhd : Sized c.bmhd
  sized_bmhd = (s, f.0.bmhd, f.1.bmhd)

  pub sized_cmap : Sized c.cmap
  sized_cmap = (s, f.0.cmap, f.1.cmap)

  pub sized_grab : Sized c.grab
  sized_grab = (s, f.0.grab, f.1.grab)

  pub sized_dest : Sized c.dest
  sized_dest = (s, f.0.dest, f.1.dest)

  pub sized_sprt : Sized c.sprt
  sized_sprt = (s, f.0.sprt, f.1.sprt)

  pub sized_camg : Sized c.camg
  sized_camg = (s, f.0.camg, f.1.camg)

-- 23, by the six tests
pub any_wrong :
    (s : List ℕ) (c : Contents) (a b d e f g : Bool) → SizeIs c.bmhd 20 a → TriplesIs c.cmap b → SizeIs c.grab 4 d →
    SizeIs c.dest 8 e → SizeIs c.sprt 2 f → SizeIs c.camg 4 g → SizesAre s c (either (either (either (either (either a b) d) e) f) g)
unfolding wrong_size
any_wrong s c a b d e f g i j k l m n = record {
  at = λ x y. rw (
    ← i.at s x.bmhd y.bmhd,
    ← j.at s x.cmap y.cmap,
    ← k.at s x.grab y.grab,
    ← l.at s x.dest y.dest,
    ← m.at s x.sprt y.sprt,
    ← n.at s x.camg y.camg,
  ) (regrouped a b d e f g);
}
  where
    regrouped :
        (a b d e f g : Bool) → either (either (either (either (either a b) d) e) f) g ≡
        either a (either b (either d (either e (either f g))))
    regrouped true b d e f g = refl
    regrouped false true d e f g = refl
    regrouped false false true e f g = refl
    regrouped false false false true f g = refl
    regrouped false false false false f g = refl

-- w, h and nPlanes may be 0 without a BODY
pub header_fields :
    (b : BitmapHeader) (body e : Bool) (r : Result (Unit {0}) Reason) → e ≡ empty_fields b.w b.h b.planes →
    r ≡ fields_refusal b.planes b.masking b.compression (body && e) → r ≡ header_refusal b body
unfolding header_refusal
header_fields b true e r i j = rw (← i) j
header_fields b false e r i j = j
