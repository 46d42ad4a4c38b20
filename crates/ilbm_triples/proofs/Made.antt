-- Triples made one after the other: the first i of an array are those of the first i numbers.
use Prim.Native.Nat.{ℕ, zero, suc, ◌+◌, ◌<◌}
use mathlib.Core.Path.{◌≡◌, refl, ap}
use mathlib.Core.List.{List, [], ◌∷◌, ◌++◌}
use lib.ListN.{length, take, set}
use lib.Seq.{take-suc-set}
use native.Mathlib.Numerals.{add-one}
use native.Mathlib.Omega.{arith}
use Rattle.ilbm_spec.specs.declared.Colour.{Colour}
use Rattle.ilbm_spec.specs.Colours.{colour_bytes}
use Rattle.ilbm_spec.specs.Triples.{triples_from}

-- one more number
triples_last : (i n : ℕ) (f : ℕ → Colour) → triples_from i (suc n) f ≡ triples_from i n f ++ (colour_bytes (f (i + n)) ∷ [])
unfolding triples_from
triples_last i zero f = let e : i + 0 ≡ i = omega arith in rw e
triples_last i (suc n) f =
    let e : i + suc n ≡ suc i + n = omega arith in
    rw e (ap (λ (l : List (List ℕ)). colour_bytes (f i) ∷ l) (triples_last (suc i) n f))

pub record Made (f : ℕ → Colour) (i : ℕ) (triples : List (List ℕ)) : Type 0 where
  pub is : take i triples ≡ triples_from 0 i f

module _ (f : ℕ → Colour) where
  pub made_none : (triples : List (List ℕ)) → Made f 0 triples
  unfolding triples_from
  made_none triples = record { is = refl }

  module _ (i : ℕ) (triples : List (List ℕ)) (m : Made f i triples) where
    pub made_more : (c : Colour) → i < length triples → c ≡ f i → Made f (i + 1) (set triples i (colour_bytes c))
    made_more c l e =
        let z : 0 + i ≡ i = omega arith in
        record { is = rw (add-one, take-suc-set triples i (colour_bytes c) l, m.is, triples_last 0 i f, z, e) }
