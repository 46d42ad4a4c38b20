-- 02, Ask 5: "the palette is returned as 64 triples".
use Rattle.std.specs.Prelude.{ℕ, zero, suc, List, [], ◌∷◌, replicate, Option, Some, None}
use Rattle.iff_refusal.specs.declared.Refusal.{Refusal}
use Rattle.iff_refusal.specs.Numbers.{refusal}
use Rattle.iff_tree.specs.Judge.{found, refused}
use Rattle.ilbm_spec.specs.declared.Colour.{Colour}
use Rattle.ilbm_spec.specs.Pictures.{Viewed, view_of, data_of, header_in, palette_of_property}
use Rattle.ilbm_spec.specs.Colours.{colour_bytes, black, is_half_bright, number_colour, mode_of_view}

-- the colours of n numbers from i on
unfoldable pub triples_from : ℕ → ℕ → (ℕ → Colour) → List (List ℕ)
triples_from i zero f = []
triples_from i (suc n) f = colour_bytes (f i) ∷ triples_from (suc i) n f

-- Of a palette, by the number that CAMG holds and the planes: half-bright entries made; "Asked of another picture, the triples are its
-- palette's first 64".
abbrev pub triples_by : ℕ → ℕ → List ℕ → List (List ℕ)
triples_by mode planes palette = triples_from 0 64 (number_colour (is_half_bright mode planes) palette)

-- a refusal, if any; and the triples
pub record Triples : Type 0 where
  pub refusal : Option Refusal
  pub triples : List (List ℕ)

-- "after a refusal all are 0"
abbrev pub triples_in : Viewed → List ℕ → Triples
triples_in (found c) default =
    record {
      refusal = None;
      triples = triples_by (mode_of_view c) (header_in (data_of c.bmhd)).planes (palette_of_property c.cmap default);
    }
triples_in (refused k p) default = record { refusal = Some (refusal k p); triples = replicate 64 (colour_bytes black) }

abbrev pub triples_of : List ℕ → ℕ → List ℕ → Triples
triples_of s i default = triples_in (view_of s i) default
