-- The part of a property holds its data, from the place that it begins at.
use Prim.Native.Nat.{ℕ}
use mathlib.Core.Path.{◌≡◌, refl, sym, ◌∙◌}
use mathlib.Core.List.{List}
use mathlib.Core.Option.{some}
use Rattle.ilbm_spec.specs.Contents.{Located, Property, own, shared, absent}
use Rattle.ilbm_spec.specs.Palette.{extent_of, extent_from}
use Rattle.ilbm_content.specs.declared.Held.{Held}
use Rattle.ilbm_content.specs.Held.{Shows, HeldIs}
use Rattle.ilbm_numbers.specs.Parts.{from_of, to_of}
use Rattle.std.specs.Prelude.{Some, None, Option}

pub part_extent : (s : List ℕ) (p : Option (ℕ × ℕ)) (x : Located) → Shows s p (some x) →
    (from_of p ≡ (extent_of x).from) × (to_of p ≡ (extent_of x).to)
part_extent s None x w = absurd w
part_extent s (Some (a, b)) x w = (w.3, sym w.1 ∙ rw w.3)

pub held_extent : (s : List ℕ) (h : Held) (q : Property) → HeldIs s h q →
    (from_of h.part ≡ (extent_from q).from) × (to_of h.part ≡ (extent_from q).to)
held_extent s h (own x) k = part_extent s h.part x k.1
held_extent s h (shared p x) k = part_extent s h.part x k.1
held_extent s h absent k = rw k.1 (refl, refl)
