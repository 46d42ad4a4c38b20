-- Reading to the end: after n steps the place is p, and a record is given there as long as n is below the count.
use Rattle.std.proofs.Common.{◌≡◌, ℕ, ◌+◌, ◌≤◌, ◌<◌, true, false, List, add-one, refl, sym, ap, ◌∙◌, arith}
use Rattle.std.specs.Prelude.{Some, None, Option, is_some}
use Rattle.iff_grammar.specs.Words.{Bytes}
use Rattle.list_spec.specs.declared.Record.{Record}
use Rattle.list_spec.specs.Records.{count_of}
use Rattle.list_reader.specs.declared.Place.{Place}
use Rattle.list_reader.specs.declared.Opening.{Opening}
use Rattle.list_reader.specs.Reading.{opening_of, step_at, place_after}
use Rattle.list_reader.specs.Agree.{place_before}
use Rattle.list_reader.proofs.laws.Agree.{given_below, ended_behind, number_small}

pub record Counting (s : List ℕ) (p : Place) (n : ℕ) : Type 0 where
  pub bytes : Bytes s
  pub place : p ≡ place_before s n
  pub below : n ≤ count_of s

pub count_start : (s : List ℕ) (o : Opening) → Bytes s → o ≡ opening_of s → Counting s o.place 0
unfolding place_before
count_start s o b e = record { bytes = b; place = ap (λ (x : Opening). x.place) e; below = omega arith }

module _ {s : List ℕ} {p : Place} {n : ℕ} (h : Counting s p n) where
  at : step_at s (place_before s n) ≡ step_at s p
  at = ap (step_at s) (sym h.place)

  pub count_done : is_some (step_at s p) ≡ false → n ≡ count_of s
  count_done = go (step_at s p) refl
    where
      go : (x : Option Record) → step_at s p ≡ x → is_some x ≡ false → n ≡ count_of s
      go (Some r) e i = cc
      go None e _ = omega (arith, h.below, ended_behind s h.bytes n (at ∙ e))

  pub count_more : is_some (step_at s p) ≡ true → (n < count_of s) × (n < 16777216)
  count_more = go (step_at s p) refl
    where
      go : (x : Option Record) → step_at s p ≡ x → is_some x ≡ true → (n < count_of s) × (n < 16777216)
      go (Some r) e _ = let more = given_below s h.bytes n r (at ∙ e) in (more, number_small s h.bytes n more)
      go None e i = cc

  pub count_on : n < count_of s → (q : Place) → q ≡ place_after s p → Counting s q (n + 1)
  unfolding place_before
  count_on more q e = record { bytes = h.bytes; place = e ∙ rw (h.place, add-one n); below = omega (arith, more) }
