-- A table of 256 numbers that is filled from the front: the first have their values, the others are 0 as at the start. From the number of
-- entries on, in a half-bright picture from 32 more on, a palette gives black, which is the number 0; so the rest may stay.
use Prim.Native.Nat.{ℕ, ◌+◌, ◌-◌, ◌*◌, ◌/◌, ◌^◌, ◌<◌, ◌≤◌}
use mathlib.Core.Path.{◌≡◌, refl, sym, ap, ◌∙◌}
use mathlib.Core.Bool.{Bool, true, false}
use mathlib.Core.List.{List}
use lib.Dec.{ltb}
use lib.ListN.{length, get_or, replicate, get_or-replicate}
use borrow.Author.Tests.{le-ltb, ltb-true, ltb-false}
use native.Mathlib.Omega.{arith}
use Rattle.ilbm_spec.specs.Colours.{black, entry_at, number_colour}
use Rattle.ilbm_colour_words.specs.Words.{packed, keep_of, set_of, IsPalette, IsKeep, IsSet}

-- the first i entries are those of f
pub record Filled (f : ℕ → ℕ) (i : ℕ) (words : List ℕ) : Type 0 where
  pub done : (code : ℕ) → code < i → get_or words code 0 ≡ f code
  pub rest : (code : ℕ) → i ≤ code → code < 256 → get_or words code 0 ≡ 0

module _ (f : ℕ → ℕ) where
  pub filled_none : Filled f 0 (replicate 256 0)
  filled_none = record { done = λ code l. absurd (omega arith); rest = λ code l m. get_or-replicate 256 code 0 0 m }

-- ---- the numbers that a palette gives a colour

no_entry : (palette : List ℕ) (i : ℕ) → length palette / 3 ≤ i → entry_at palette i ≡ black
unfolding entry_at
no_entry palette i h = let l : length palette ≤ 3 * i + 2 = omega arith in rw (le-ltb _ _ l)

module _ (half : Bool) (palette : List ℕ) where
  -- all numbers from n on are black
  abbrev BlackFrom : ℕ → Type 0
  BlackFrom n = (n ≤ 256) × ((code : ℕ) → n ≤ code → code < 256 → number_colour half palette code ≡ black)

  pub black_after_all : BlackFrom 256
  black_after_all = (omega arith, λ code l m. absurd (omega arith))

  module _ (h : length palette / 3 < 224) where
    pub black_after_halves : half ≡ true → BlackFrom (length palette / 3 + 32)
    unfolding number_colour
    black_after_halves e = (omega arith, λ code l m. rw (e, le-ltb code 32 (omega arith), no_entry palette (code - 32) (omega arith)))

    pub black_after_entries : half ≡ false → BlackFrom (length palette / 3)
    unfolding number_colour
    black_after_entries e = (omega arith, λ code l m. rw (e, no_entry palette code l))

  pub palette_filled :
      (i n : ℕ) (words : List ℕ) → Filled (λ code. packed (number_colour half palette code)) i words → BlackFrom n → i ≤ n → n ≤ i →
      IsPalette half palette words
  unfolding IsPalette
  palette_filled i n words g b l m code o = go (ltb code i) refl
    where
      go : (t : Bool) → ltb code i ≡ t → get_or words code 0 ≡ packed (number_colour half palette code)
      go true e = g.done code (ltb-true _ _ e)
      go false e = let k = ltb-false code i e in g.rest code k o ∙ sym (ap packed (b.1 code (omega arith) o))

-- ---- hold-and-modify

module _ (planes i n : ℕ) (words : List ℕ) (e : n ≡ 2 ^ planes) (l : n ≤ i) where
  pub keep_filled : Filled (keep_of planes) i words → IsKeep planes words
  unfolding IsKeep
  keep_filled g code h = g.done code (omega arith)

  pub set_filled : (palette : List ℕ) → Filled (set_of planes palette) i words → IsSet planes palette words
  unfolding IsSet
  set_filled palette g code h = g.done code (omega arith)
