-- Triples of colours have three bytes each: one after the other, their bytes are the triples joined.
use Prim.Native.Nat.{ℕ, zero, suc}
use mathlib.Core.Path.{◌≡◌, refl, ap}
use mathlib.Core.List.{List, ◌++◌}
use lib.ListN.{replicate}
use Rattle.std.proofs.Common.{flat_map}
use Rattle.iff_tree.specs.Judge.{found, refused}
use Rattle.ilbm_spec.specs.declared.Colour.{Colour}
use Rattle.ilbm_spec.specs.Colours.{colour_bytes, black}
use Rattle.ilbm_spec.specs.Pictures.{Viewed, view_of}
use Rattle.ilbm_spec.specs.Triples.{Triples, triples_from, triples_by, triples_in, triples_of}
use Rattle.export_triples.specs.Call.{joined}

abbrev ThreeEach : List (List ℕ) → Type 0
ThreeEach all = flat_map (λ t. t) all ≡ joined all

three_of_colours : (i n : ℕ) (f : ℕ → Colour) → ThreeEach (triples_from i n f)
unfolding triples_from joined
three_of_colours i zero f = refl
three_of_colours i (suc n) f = ap (λ (l : List ℕ). colour_bytes (f i) ++ l) (three_of_colours (suc i) n f)

three_of_black : (n : ℕ) → ThreeEach (replicate n (colour_bytes black))
unfolding joined
three_of_black zero = refl
three_of_black (suc n) = ap (λ (l : List ℕ). colour_bytes black ++ l) (three_of_black n)

three_of_view : (v : Viewed) (default : List ℕ) → ThreeEach (triples_in v default).triples
three_of_view (found c) default = three_of_colours 0 64 _
three_of_view (refused k p) default = three_of_black 64

pub three_of_palette :
    (mode planes : ℕ) (palette : List ℕ) (all : List (List ℕ)) → all ≡ triples_by mode planes palette → ThreeEach all
three_of_palette mode planes palette all e = rw e (three_of_colours 0 64 _)

pub three_of_picture : (s : List ℕ) (i : ℕ) (default : List ℕ) (t : Triples) → t ≡ triples_of s i default → ThreeEach t.triples
three_of_picture s i default t e = rw e (three_of_view (view_of s i) default)
