-- A plain row is its part of the BODY.
use Prim.Native.Nat.{ℕ, ◌+◌, ◌-◌, ◌^◌, ◌<◌, ◌≤◌}
use mathlib.Core.Path.{◌≡◌, refl, ap, ◌∙◌}
use mathlib.Core.List.{List}
use mathlib.Core.Bool.{Bool, true, false}
use lib.ListN.{length, take, drop, length-drop}
use lib.Dec.{leb}
use lib.Seq.{paste, length-take-le, take_all, take_at}
use mir.Syntax.{w64}
use mir.Val.{Fits}
use borrow.Author.Tests.{le-leb, leb-true}
use native.Mathlib.Omega.{arith}
use Rattle.iff_name.specs.Name.{pick}
use Rattle.byterun_row.specs.ByteRun.{Row, filled, short, plain_row, IsFull}

plain_room : (body : List ℕ) (at n : ℕ) → IsFull (plain_row body at n) → n ≤ length body - at
unfolding plain_row
plain_room body at n f = go (leb n (length body - at)) refl f
  where
    go :
        (t : Bool) → leb n (length body - at) ≡ t → IsFull (pick t (filled (take n (drop at body)) (at + n)) (short at)) →
        n ≤ length body - at
    go true e g = leb-true n (length body - at) e
    go false e g = absurd g

pub plain_empty : (body row : List ℕ) (at n : ℕ) → n ≡ 0 → plain_row body at n ≡ filled (take n row) at
unfolding plain_row
plain_empty body row at n e = let z : at + 0 ≡ at = omega arith in rw e (simp (le-leb 0 (length body - at) (omega arith), z))

module _ (body : List ℕ) (at n : ℕ) (f : IsFull (plain_row body at n)) (z : n ≡ 0 → ⊥) where
  pub plain_inside : at + n ≤ length body
  plain_inside = omega (arith, z, plain_room body at n f)

  pub plain_fits : length body < 2 ^ 64 → Fits w64 (at + n)
  plain_fits b = omega (arith, z, plain_room body at n f)

  pub plain_written : (row row' : List ℕ) → row' ≡ paste row 0 (drop at body) n → plain_row body at n ≡ filled (take n row') (at + n)
  unfolding plain_row
  plain_written row row' e =
      let l = plain_room body at n f in
      let t = take_at (take n (drop at body)) (drop (0 + n) row) n (length-take-le n (drop at body) (rw length-drop l)) in
      rw (e, t) (simp (le-leb _ _ l))

pub ruleset plain = (plain_empty, plain_inside, plain_fits, plain_written)

-- a row that is all of the buffer
pub whole_row : (v : Row) (r n : ℕ) (row : List ℕ) → length row ≡ n → v ≡ filled (take n row) r → v ≡ filled row r
whole_row v r n row l e = e ∙ ap (λ (bs : List ℕ). filled bs r) (take_all n row (omega arith))
