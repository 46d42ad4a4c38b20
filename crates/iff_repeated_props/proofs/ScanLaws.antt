-- The search back from a PROP, chunk by chunk: with enough fuel it comes to what the definition says.
use Prim.Native.Nat.{ℕ, zero, suc, ◌+◌, ◌-◌, ◌≤◌, ◌<◌}
use mathlib.Core.Path.{◌≡◌}
use mathlib.Core.List.{List}
use mathlib.Core.Bool.{Bool, true, false}
use lib.Dec.{eqb}
use borrow.Author.Tests.{lt-ltb, le-ltb}
use native.Mathlib.Omega.{arith}
use Rattle.iff_name.specs.Name.{both}
use Rattle.iff_chunk.specs.Chunks.{word, next_at}
use Rattle.iff_rules.specs.Rules.{prop_at, prop_within}
use Rattle.iff_name.specs.Codes as Codes

pub prop_at_lem : (s : List ℕ) (p t : ℕ) {a b : ℕ} → a ≡ word s p → b ≡ word s (p + 8) → both (eqb a Codes.PROP) (eqb b t) ≡ prop_at s p t
prop_at_lem s p t e f = λ i. both (eqb (e i) Codes.PROP) (eqb (f i) t)

-- enough fuel brings the search from q on to v
abbrev pub Scans : List ℕ → ℕ → ℕ → ℕ → Bool → Type 0
Scans s q p t v = (fuel : ℕ) × ((p - q ≤ fuel) × (prop_within fuel s q p t ≡ v))

module _ (s : List ℕ) (q p t : ℕ) (v : Bool) where
  module _ (h : q < p) (b : Bool) (d : b ≡ prop_at s q t) where
    pub scans_hit : b ≡ true → Scans s q p t v → true ≡ v
    unfolding prop_within
    scans_hit i (zero, (f, u)) = absurd (omega arith)
    scans_hit i (suc k, (f, u)) = simp (lt-ltb _ _ h, ← d, i) at u

    pub scans_more : (q' : ℕ) → b ≡ false → q' ≡ next_at s q → Scans s q p t v → Scans s q' p t v
    unfolding prop_within
    scans_more q' i y (zero, (f, u)) = absurd (omega arith)
    scans_more q' i y (suc k, (f, u)) = (k, (omega arith, simp (lt-ltb _ _ h, ← d, i, ← y) at u))

  pub scans_end : p ≤ q → Scans s q p t v → false ≡ v
  unfolding prop_within
  scans_end h (zero, (f, u)) = u
  scans_end h (suc k, (f, u)) = simp (le-ltb _ _ h) at u
