-- The triples of a picture: its CMAP is a part of the file, or the default stands in; mode and planes are those of its CAMG and BMHD; and a
-- refusal is passed on with all triples 0.
use Prim.Native.Nat.{ℕ}
use mathlib.Core.Path.{◌≡◌, refl, ap}
use mathlib.Core.List.{List, [], ◌∷◌}
use lib.ListN.{replicate}
use Rattle.iff_tree.specs.Judge.{refused}
use Rattle.ilbm_spec.specs.declared.BitmapHeader.{BitmapHeader}
use Rattle.ilbm_spec.specs.Pictures.{view_of}
use Rattle.ilbm_spec.specs.Triples.{Triples, triples_by, triples_of}
use Rattle.ilbm_content.specs.declared.Contents.{Contents}
use Rattle.ilbm_find.specs.Seen.{ViewIs, Judged}
use Rattle.ilbm_properties.specs.Fields.{LongIs}
use Rattle.ilbm_cmap.specs.Parts.{PartIn, part_or}
use Rattle.ilbm_cmap.proofs.PaletteLaws.{part_is, part_in}
use Rattle.ilbm_triples.specs.Done.{TriplesAre}
use Rattle.iff_refusal.specs.declared.Refusal.{Refusal}
use Rattle.iff_refusal.specs.Numbers.{Answer}
use Rattle.std.specs.Prelude.{Ok, Err, Option, Some, None}

module _ (s : List ℕ) (c : Contents) (h : BitmapHeader) where
  pub palette_inside : Judged s c h → PartIn s c.cmap.part
  palette_inside (x, y) = part_in s c.cmap x.cmap c.cmap.part y.parts.cmap refl

  pub triples_are :
      (default palette : List ℕ) (mode : ℕ) (r : List (List ℕ)) → LongIs s c.camg mode → palette ≡ part_or s c.cmap.part default →
      r ≡ triples_by mode h.planes palette → TriplesAre s c h default r
  triples_are default palette mode r m p e =
      record {
        at = λ x y.
            let k = y.parts in
            let moded = m.at x.camg k.camg in
            let taken = part_is s c.cmap x.cmap c.cmap.part default k.cmap refl in
            let header = y.header in
            cc;
      }

module _ (s : List ℕ) (i : ℕ) (default : List ℕ) (v : Answer (Contents × BitmapHeader)) (w : ViewIs s v (view_of s i)) where
  abbrev told : Option Refusal → List (List ℕ) → Triples
  told k t = record { refusal = k; triples = t }

  pub triples_seen :
      (c : Contents) (h : BitmapHeader) (r : List (List ℕ)) → v ≡ Ok (c, h) → TriplesAre s c h default r →
      told None r ≡ triples_of s i default
  triples_seen c h r j t = let x : ViewIs s (Ok (c, h)) (view_of s i) = rw j at w in rw x.1 (ap (told None) (t.at x.0 x.2))

  pub triples_refused : (r : Refusal) → v ≡ Err r → told (Some r) (replicate 64 (0 ∷ 0 ∷ 0 ∷ [])) ≡ triples_of s i default
  triples_refused r j = let x : view_of s i ≡ refused r.reason r.place = rw j at w in rw x
