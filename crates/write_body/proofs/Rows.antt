-- A plane row as it is written, plain or packed, from the row that was made in a buffer of its length.
use Prim.Native.Nat.{ℕ, ◌+◌, ◌≤◌}
use mathlib.Core.Path.{◌≡◌, sym, ap, ◌∙◌}
use mathlib.Core.List.{List}
use lib.ListN.{length}
use borrow.Author.Tests.{eq-eqb, ne_eqb}
use native.Mathlib.Omega.{arith}
use Rattle.byterun_pack.specs.Pack.{packed}
use Rattle.byterun_pack.specs.Written.{written_row}
use Rattle.write_plane_row.specs.Put.{put}
use Rattle.write_plane_row.specs.Planes.{plane_row}
use Rattle.write_plane_row.proofs.Buffers.{put_all}
use Rattle.write_plane_row.proofs.Planes.{row_length_lem}

module _ (weight : ℕ) (line old row : List ℕ) (n : ℕ) (l : length old ≡ n) (e : row ≡ put old 0 (plane_row weight line 0 n)) where
  pub made_row : row ≡ plane_row weight line 0 n
  made_row = e ∙ put_all old (plane_row weight line 0 n) (row_length_lem weight line 0 n ∙ sym l)

  pub made_len : (r : ℕ) → r ≡ length (packed row) → r ≡ length (packed (plane_row weight line 0 n))
  made_len r d = d ∙ ap (λ (l : List ℕ). length (packed l)) made_row

  pub made_room : (out : List ℕ) (at : ℕ) → at + length (packed (plane_row weight line 0 n)) ≤ length out → at + length (packed row) ≤ length out
  made_room out at h = rw made_row h

  pub made_put : (out after : List ℕ) (at : ℕ) → after ≡ put out at (packed row) → after ≡ put out at (packed (plane_row weight line 0 n))
  made_put out after at d = d ∙ ap (λ (l : List ℕ). put out at (packed l)) made_row

pub ruleset made_laws = (made_len, made_room, made_put)

module _ (compression weight : ℕ) (line : List ℕ) (n : ℕ) where
  plain_row : compression ≡ 0 → written_row compression (plane_row weight line 0 n) ≡ plane_row weight line 0 n
  plain_row e = rw (eq-eqb compression 0 e)

  packed_row : (compression ≡ 0 → ⊥) → written_row compression (plane_row weight line 0 n) ≡ packed (plane_row weight line 0 n)
  packed_row e = rw (ne_eqb compression 0 e)

  plain_length : compression ≡ 0 → length (written_row compression (plane_row weight line 0 n)) ≡ n
  plain_length e = ap (λ (l : List ℕ). length l) (plain_row e) ∙ row_length_lem weight line 0 n

  pub plain_len : compression ≡ 0 → n ≡ length (written_row compression (plane_row weight line 0 n))
  plain_len e = sym (plain_length e)

  pub plain_room : (out : List ℕ) (at : ℕ) → compression ≡ 0 → at + length (written_row compression (plane_row weight line 0 n)) ≤ length out → at + n ≤ length out
  plain_room out at e h = let z = plain_length e in omega arith

  pub plain_put : (out after : List ℕ) (at : ℕ) → compression ≡ 0 → after ≡ put out at (plane_row weight line 0 n) → after ≡ put out at (written_row compression (plane_row weight line 0 n))
  plain_put out after at e d = d ∙ ap (λ (l : List ℕ). put out at l) (sym (plain_row e))

  pub packed_len : (r : ℕ) → (compression ≡ 0 → ⊥) → r ≡ length (packed (plane_row weight line 0 n)) → r ≡ length (written_row compression (plane_row weight line 0 n))
  packed_len r e d = d ∙ ap (λ (l : List ℕ). length l) (sym (packed_row e))

  pub packed_room :
      (room at : ℕ) → (compression ≡ 0 → ⊥) → at + length (written_row compression (plane_row weight line 0 n)) ≤ room →
      at + length (packed (plane_row weight line 0 n)) ≤ room
  packed_room room at e h = rw (packed_row e) at h

  pub packed_put :
      (out after : List ℕ) (at : ℕ) → (compression ≡ 0 → ⊥) → after ≡ put out at (packed (plane_row weight line 0 n)) →
      after ≡ put out at (written_row compression (plane_row weight line 0 n))
  packed_put out after at e d = d ∙ ap (λ (l : List ℕ). put out at l) (sym (packed_row e))

pub ruleset written_laws = (plain_len, plain_room, plain_put, packed_len, packed_room, packed_put)
