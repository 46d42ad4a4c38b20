-- One plane row: a pixel beyond the line has no bit, and each turn writes one byte more.
use Prim.Native.Nat.{ℕ, zero, suc, ◌+◌, ◌*◌, ◌≤◌, ◌<◌}
use mathlib.Core.Path.{◌≡◌, refl, sym, ap, ◌∙◌}
use mathlib.Core.List.{List, [], ◌∷◌, ◌++◌}
use lib.ListN.{length, set, length-set, get_or-eq_default}
use native.Mathlib.Nat.{zero-add, add-zero}
use native.Mathlib.Numerals.{add-one}
use native.Mathlib.Omega.{arith}
use Rattle.write_plane_row.specs.Put.{put}
use Rattle.write_plane_row.specs.Planes.{eight_bits, pixel, bits_from, plane_byte, plane_row}
use Rattle.write_plane_row.proofs.Buffers.{put_none, put_next}

pub beyond_line : (line : List ℕ) (x : ℕ) → length line ≤ x → 0 ≡ pixel line x
beyond_line line x h = sym (get_or-eq_default line 0 h)

pub bits_are :
    (weight : ℕ) (line : List ℕ) (x r a b c d e f g h : ℕ) → a ≡ pixel line x → b ≡ pixel line (x + 1) → c ≡ pixel line (x + 2) → d ≡ pixel line (x + 3) →
    e ≡ pixel line (x + 4) → f ≡ pixel line (x + 5) → g ≡ pixel line (x + 6) → h ≡ pixel line (x + 7) → r ≡ eight_bits weight a b c d e f g h →
    r ≡ bits_from weight line x
bits_are weight line x r a b c d e f g h i j k l m n o p q = rw (← i, ← j, ← k, ← l, ← m, ← n, ← o, ← p) q

pub byte_is : (weight : ℕ) (line : List ℕ) (j r x : ℕ) → x ≡ 8 * j → r ≡ bits_from weight line x → r ≡ plane_byte weight line j
unfolding plane_byte
byte_is weight line j r x e d = rw e at d

pub row_length_lem : (weight : ℕ) (line : List ℕ) (j n : ℕ) → length (plane_row weight line j n) ≡ n
unfolding plane_row
row_length_lem weight line j zero = refl
row_length_lem weight line j (suc n) = ap suc (row_length_lem weight line (j + 1) n)

row_snoc : (weight : ℕ) (line : List ℕ) (j n : ℕ) → plane_row weight line j (suc n) ≡ plane_row weight line j n ++ (plane_byte weight line (j + n) ∷ [])
unfolding plane_row
row_snoc weight line j zero = rw (add-zero j)
row_snoc weight line j (suc n) =
    let e : j + 1 + n ≡ j + suc n = omega arith in
    ap (λ (l : List ℕ). plane_byte weight line j ∷ l) (row_snoc weight line (j + 1) n ∙ ap (λ (m : ℕ). plane_row weight line (j + 1) n ++ (plane_byte weight line m ∷ [])) e)

-- a row whose first j bytes are written at a place
pub record Filled (weight : ℕ) (line old out : List ℕ) (at j : ℕ) : Type 0 where
  pub long : length out ≡ length old
  pub bytes : out ≡ put old at (plane_row weight line 0 j)

module _ (weight : ℕ) (line old : List ℕ) (at n : ℕ) where
  pub filled_none : Filled weight line old old at 0
  unfolding plane_row
  filled_none = record { long = refl; bytes = sym (put_none old at) }

  pub filled_room : (out : List ℕ) (j : ℕ) → Filled weight line old out at j → j < n → at + n ≤ length old → at + j < length out
  filled_room out j f h l = rw f.long (omega arith)

  pub filled_more :
      (out : List ℕ) (j v : ℕ) → Filled weight line old out at j → j < n → at + n ≤ length old → v ≡ plane_byte weight line j →
      Filled weight line old (set out (at + j) v) at (j + 1)
  filled_more out j v f h l e =
      let row : List ℕ = plane_row weight line 0 j in
      let z : plane_row weight line 0 (j + 1) ≡ row ++ (v ∷ []) = rw (add-one, row_snoc weight line 0 j, zero-add j, e) in
      let m : length row ≡ j = row_length_lem weight line 0 j in
      record {
        long = length-set out (at + j) v ∙ f.long;
        bytes = rw (f.bytes, z) (ap (λ (k : ℕ). set (put old at row) (at + k) v) (sym m) ∙ put_next old at row v (omega arith));
      }

  pub filled_same : (out : List ℕ) (j : ℕ) → Filled weight line old out at j → length out ≡ length old
  filled_same out j f = f.long

pub ruleset row_laws = (beyond_line, bits_are, byte_is, filled_none, filled_room, filled_more, filled_same)
