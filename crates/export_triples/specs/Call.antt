-- What the two calls on triples tell, and what stands in the lent bytes afterwards.
use Rattle.std.specs.Prelude.{ℕ, List, [], ◌∷◌, ◌++◌, ltb, eqb, length, get_or, drop, Option, Some, None}
use Rattle.iff_refusal.specs.declared.Refusal.{Refusal}
use Rattle.iff_refusal.specs.Numbers.{number_of, place_in}
use Rattle.iff_name.specs.Name.{pick}
use Rattle.ilbm_spec.specs.Triples.{Triples}

-- the three bytes of a triple, and those of triples one after the other
abbrev pub three : List ℕ → List ℕ
three t = get_or t 0 0 ∷ get_or t 1 0 ∷ get_or t 2 0 ∷ []

unfoldable pub joined : List (List ℕ) → List ℕ
joined [] = []
joined (t ∷ ts) = three t ++ joined ts

-- 32 "exactly if the result is longer than the lent buffer": 64 triples are 192 bytes
abbrev pub room_number : ℕ → ℕ
room_number room = pick (ltb room 192) 32 0

-- the triples at the front of the lent bytes, "buffer bytes after a result stay"; a refusal leaves all
abbrev pub bytes_after : ℕ → List (List ℕ) → List ℕ → List ℕ
bytes_after number triples lent = pick (eqb number 0) (joined triples ++ drop 192 lent) lent

-- the number of a refusal, or else another
abbrev pub number_behind : Option Refusal → ℕ → ℕ
number_behind None n = n
number_behind (Some r) n = number_of r.reason

-- What the call on a picture tells: its refusal with the place, then 32.
pub record Told : Type 0 where
  pub number : ℕ
  pub place : ℕ
  pub bytes : List ℕ

abbrev pub triples_call : Triples → List ℕ → Told
triples_call t lent =
    let number : ℕ = number_behind t.refusal (room_number (length lent)) in
    record { number = number; place = place_in t.refusal; bytes = bytes_after number t.triples lent }
