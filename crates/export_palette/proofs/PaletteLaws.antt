-- What is told of a picture's palette, once the case of the view is known.
use Prim.Native.Nat.{ℕ}
use mathlib.Core.Path.{◌≡◌, ◌∙◌}
use mathlib.Core.List.{List, []}
use mathlib.Core.Option.{some}
use lib.Seq.{slice}
use Rattle.iff_grammar.proofs.laws.Words.{slice_take}
use Rattle.ilbm_spec.specs.declared.BitmapHeader.{BitmapHeader}
use Rattle.ilbm_spec.specs.Contents.{Located, Property, own, shared, absent}
use Rattle.ilbm_spec.specs.Pictures.{Viewed, view_of, palette_of_property}
use Rattle.ilbm_spec.specs.Palette.{answer_in, palette_answer}
use Rattle.ilbm_content.proofs.Laws.{origin_is}
use Rattle.ilbm_content.specs.declared.Held.{Held}
use Rattle.ilbm_content.specs.declared.Contents.{Contents}
use Rattle.ilbm_content.specs.Held.{Shows, HeldIs}
use Rattle.ilbm_find.specs.Seen.{ViewIs}
use Rattle.ilbm_numbers.specs.Parts.{from_of, to_of}
use Rattle.ilbm_numbers.proofs.Laws.{held_extent}
use Rattle.export_palette.specs.declared.PaletteParts.{PaletteParts}
use Rattle.export_palette.specs.Palette.{palette_numbers, palette_call, palette_parts}
use Rattle.iff_refusal.specs.Numbers.{Answer}
use Rattle.std.specs.Prelude.{Ok, Err, Some, None, Option}

-- the part of a property holds its data
part_holds : (s : List ℕ) (p : Option (ℕ × ℕ)) (x : Located) → Shows s p (some x) → slice (from_of p) (to_of p) s ≡ x.content
part_holds s None x w = absurd w
part_holds s (Some (a, b)) x w = w.0

held_holds : (s : List ℕ) (h : Held) (q : Property) → HeldIs s h q → slice (from_of h.part) (to_of h.part) s ≡ palette_of_property q []
held_holds s h (own x) k = part_holds s h.part x k.1
held_holds s h (shared p x) k = part_holds s h.part x k.1
held_holds s h absent k = rw k.1 (slice_take s 0 0)

parts_numbers_lem : (s : List ℕ) (y : Viewed) (v : Answer (Contents × BitmapHeader)) → ViewIs s v y → palette_parts v ≡ palette_numbers y
parts_numbers_lem s y (Ok (c, b)) (x, e, z) =
    let k = z.parts.cmap in
    let w = held_extent s c.cmap x.cmap k in
    rw (e, origin_is s c.cmap x.cmap k, w.0, w.1)
parts_numbers_lem s y (Err r) e = rw e

parts_hold : (s : List ℕ) (y : Viewed) (v : Answer (Contents × BitmapHeader)) → ViewIs s v y →
    slice (palette_parts v).from (palette_parts v).to s ≡ (answer_in y []).colours
parts_hold s y (Ok (c, b)) (x, e, z) = rw e (held_holds s c.cmap x.cmap z.parts.cmap)
parts_hold s y (Err r) e = rw e (slice_take s 0 0)

module _ (s : List ℕ) (i : ℕ) (v : Answer (Contents × BitmapHeader)) (w : ViewIs s v (view_of s i)) (r : PaletteParts) (j : r ≡ palette_parts v) where
  pub palette_numbers_lem :
      ◌≡◌ {A = PaletteParts} (record { number = r.number; place = r.place; origin = r.origin; shared = r.shared; from = r.from; to = r.to })
      (palette_call s i)
  palette_numbers_lem = j ∙ parts_numbers_lem s (view_of s i) v w

  pub palette_part : slice r.from r.to s ≡ (palette_answer s i []).colours
  palette_part = rw j (parts_hold s (view_of s i) v w)
