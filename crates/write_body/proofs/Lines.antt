-- The rows of a scan line, from one plane to the next; a row has at most 8,256 bytes.
use Prim.Native.Nat.{ℕ, suc, ◌+◌, ◌-◌, ◌*◌, ◌^◌, ◌≤◌, ◌<◌}
use mathlib.Core.Path.{◌≡◌, refl}
use mathlib.Core.List.{List, []}
use lib.ListN.{length}
use native.Mathlib.Nat.{pow-suc}
use native.Mathlib.Numerals.{add-one}
use native.Mathlib.Omega.{arith}
use Rattle.byterun_pack.specs.Written.{written_row}
use Rattle.byterun_pack.proofs.laws.Written.{written_short}
use Rattle.write_plane_row.specs.Planes.{plane_row}
use Rattle.write_body.specs.Body.{line_rows}
use Rattle.write_plane_row.proofs.Buffers.{Split}
use Rattle.write_plane_row.proofs.Planes.{row_length_lem}

power_more : (k v : ℕ) → v ≡ 2 ^ k → v * 2 ≡ 2 ^ (k + 1)
power_more k v e = rw (add-one, pow-suc 2 k, e)

module _ (compression n : ℕ) (line : List ℕ) where
  -- the row of plane k
  abbrev pub row_bytes : ℕ → List ℕ
  row_bytes k = written_row compression (plane_row (2 ^ k) line 0 n)

  -- plane k and those after it
  abbrev pub rows_from : ℕ → ℕ → List ℕ
  rows_from planes k = line_rows compression n line (2 ^ k) (planes - k)

  pub rows_step : (planes k : ℕ) → k < planes → Split (rows_from planes k) (row_bytes k) (rows_from planes (k + 1))
  unfolding line_rows
  rows_step planes k h = let e : planes - k ≡ suc (planes - (k + 1)) = omega arith in record { is = rw (e, ← power_more k (2 ^ k) refl) }

  pub rows_end : (planes k : ℕ) → planes ≤ k → rows_from planes k ≡ []
  unfolding line_rows
  rows_end planes k h = let e : planes - k ≡ 0 = omega arith in rw e

  pub row_short : (k r : ℕ) → r ≡ length (row_bytes k) → n ≤ 8192 → r ≤ 8256
  row_short k r d h =
      let l : length (plane_row (2 ^ k) line 0 n) ≡ n = row_length_lem (2 ^ k) line 0 n in
      omega (arith, written_short compression (plane_row (2 ^ k) line 0 n))
