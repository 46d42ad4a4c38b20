-- The palette's part of the file: the data of the CMAP that counts at its place, nothing where none counts, empty after a refusal.
use Prim.Native.Nat.{ℕ, ◌+◌, ◌-◌, ◌≤◌}
use mathlib.Core.Path.{◌≡◌, refl}
use mathlib.Core.List.{List}
use mathlib.Core.Option.{some}
use lib.ListN.{length, take, drop}
use native.Mathlib.Omega.{arith}
use Rattle.ilbm_spec.specs.declared.BitmapHeader.{BitmapHeader}
use Rattle.ilbm_spec.specs.Contents.{Property, own, shared, absent}
use Rattle.ilbm_spec.specs.Pictures.{view_of, palette_of_property}
use Rattle.ilbm_spec.specs.Palette.{source_from, pointer}
use Rattle.ilbm_content.specs.declared.Held.{Held}
use Rattle.ilbm_content.specs.declared.Contents.{Contents}
use Rattle.ilbm_content.specs.Held.{Shows, HeldIs}
use Rattle.ilbm_find.specs.Seen.{ViewIs}
use Rattle.ilbm_refusals.proofs.RefusalLaws.{held_data, data_taken}
use Rattle.iff_tree.specs.Judge.{refused}
use Rattle.ilbm_cmap.specs.Parts.{PartIn, part_or, part_at, ColoursAre}
use Rattle.iff_refusal.specs.declared.Refusal.{Refusal}
use Rattle.iff_refusal.specs.Numbers.{Answer}
use Rattle.std.specs.Prelude.{Ok, Err, Some, None, Option}

never : (p : Option (ℕ × ℕ)) (a b : ℕ) → p ≡ None → p ≡ Some (a, b) → ⊥
never p a b i j = let z : ◌≡◌ {A = ℕ} 0 1 = cc in omega arith

-- the part of a property, or the default: its bytes, where it begins, and that it lies inside
pub part_is : (s : List ℕ) (h : Held) (q : Property) (p : Option (ℕ × ℕ)) (default : List ℕ) → HeldIs s h q → h.part ≡ p →
    part_or s p default ≡ palette_of_property q default
part_is s h (own d) None default k i = absurd (rw i at k.1)
part_is s h (own d) (Some (a, b)) default k i = data_taken s h (own d) a b k i
part_is s h (shared q d) None default k i = absurd (rw i at k.1)
part_is s h (shared q d) (Some (a, b)) default k i = data_taken s h (shared q d) a b k i
part_is s h absent None default k i = refl
part_is s h absent (Some (a, b)) default k i = absurd (never h.part a b k.1 i)

part_lies :
    (s : List ℕ) (h : Held) (q : Property) (p : Option (ℕ × ℕ)) (file default : ℕ × ℕ) → HeldIs s h q → h.part ≡ p →
    part_at file p default ≡ pointer (source_from q) file default
part_lies s h (own d) None file default k i = absurd (rw i at k.1)
part_lies s h (own x) (Some (a, b)) file default k i = let w : Shows s (Some (a, b)) (some x) = rw i at k.1 in rw w.3
part_lies s h (shared q d) None file default k i = absurd (rw i at k.1)
part_lies s h (shared q x) (Some (a, b)) file default k i = let w : Shows s (Some (a, b)) (some x) = rw i at k.1 in rw w.3
part_lies s h absent None file default k i = refl
part_lies s h absent (Some (a, b)) file default k i = absurd (never h.part a b k.1 i)

pub part_in : (s : List ℕ) (h : Held) (q : Property) (p : Option (ℕ × ℕ)) → HeldIs s h q → h.part ≡ p → PartIn s p
part_in s h q None k i = tt
part_in s h q (Some (a, b)) k i = let w = held_data s h q a b k i in (omega (arith, w.1), w.2)

-- a part that lies inside the file
module _ (s : List ℕ) (p : Option (ℕ × ℕ)) (a b : ℕ) (i : p ≡ Some (a, b)) where
  pub part_order : PartIn s p → a ≤ b
  part_order x = let y : PartIn s (Some (a, b)) = rw i at x in y.0

  pub part_inside : PartIn s p → b ≤ length s
  part_inside x = let y : PartIn s (Some (a, b)) = rw i at x in y.1

  pub part_taken : (default : List ℕ) → take (b - a) (drop a s) ≡ part_or s p default
  part_taken default = rw i

pub part_placed : (file default : ℕ × ℕ) (p : Option (ℕ × ℕ)) (a b : ℕ) → p ≡ Some (a, b) → (file.0, a + file.1) ≡ part_at file p default
part_placed file default p a b i = rw i

-- from the view to the colours
module _ (s : List ℕ) (i : ℕ) (v : Answer (Contents × BitmapHeader)) (w : ViewIs s v (view_of s i)) where
  pub colours_seen : (c : Contents) (b : BitmapHeader) → v ≡ Ok (c, b) →
      ColoursAre s i (record { refusal = None; part = c.cmap.part })
  colours_seen c b j =
      let (x, e, y) : ViewIs s (Ok (c, b)) (view_of s i) = rw j at w in
      let k = y.parts in
      record {
        answer = λ default. rw (e, part_is s c.cmap x.cmap c.cmap.part default k.cmap refl);
        lies = λ file default. rw e (part_lies s c.cmap x.cmap c.cmap.part file default k.cmap refl);
        inside = part_in s c.cmap x.cmap c.cmap.part k.cmap refl;
      }

  pub colours_refused : (r : Refusal) → v ≡ Err r → ColoursAre s i (record { refusal = Some r; part = Some (0, 0) })
  colours_refused r j =
      let e : view_of s i ≡ refused r.reason r.place = rw j at w in
      record { answer = λ default. rw e; lies = λ file default. rw e; inside = (omega arith, omega arith) }
