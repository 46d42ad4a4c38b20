-- Bytes counted part by part: what is counted and what is still to come make the whole.
use Prim.Native.Nat.{ℕ, ◌+◌}
use mathlib.Core.Path.{◌≡◌, ap}
use mathlib.Core.List.{List, []}
use lib.ListN.{length}
use native.Mathlib.Omega.{arith}
use Rattle.write_plane_row.proofs.Buffers.{Split, split_length}

-- of the bytes `all` those before `rest` are counted
pub record Counting (all : List ℕ) (total : ℕ) (rest : List ℕ) : Type 0 where
  pub is : length all ≡ total + length rest

module _ (all : List ℕ) (total : ℕ) (rest : List ℕ) (c : Counting all total rest) where
  pub counting_more : (part more : List ℕ) → Split rest part more → (r : ℕ) → r ≡ length part → Counting all (total + r) more
  counting_more part more e r d = record { is = omega (arith, c.is, split_length rest part more e) }

  pub counting_all : rest ≡ [] → total ≡ length all
  counting_all e = let l = ap (λ (q : List ℕ). length q) e in omega (arith, c.is)
