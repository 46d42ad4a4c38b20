-- Plain rows lie one after the other in the BODY, as they would in the buffer: they are gathered from where they are.
use Prim.Native.Nat.{ℕ, zero, suc, ◌+◌, ◌-◌, ◌*◌, ◌^◌, ◌<◌, ◌≤◌}
use mathlib.Core.Path.{◌≡◌, refl, ap, ◌∙◌}
use mathlib.Core.Bool.{Bool, true, false}
use mathlib.Core.List.{List}
use lib.Dec.{leb}
use lib.ListN.{length, take, drop, length-drop}
use lib.Seq.{drop-drop, take_all}
use mir.Syntax.{w64}
use mir.Val.{Fits}
use borrow.Author.Tests.{leb-true}
use native.Mathlib.Nat.{suc-mul, mul-le-mul_right}
use native.Mathlib.Omega.{arith}
use Rattle.iff_name.specs.Name.{pick}
use Rattle.byterun_row.specs.ByteRun.{filled, short, plain_row}
use Rattle.iff_tree.specs.Judge.{found, refused}
use Rattle.ilbm_spec.specs.Rows.{Read, then_read, IsRead, row_read, rows_from}
use Rattle.ilbm_gather.specs.Buffer.{rows_in}
use Rattle.ilbm_plane_rows.proofs.Judging.{onward}

-- the rows after the first are the rows of what lies after it
rows_after : (n m k : ℕ) (xs : List ℕ) → rows_in n m (suc k) xs ≡ rows_in n m k (drop n xs)
unfolding rows_in
rows_after n zero k xs = refl
rows_after n (suc m) k xs =
    let e : suc k * n ≡ n + k * n = omega (arith, suc-mul k n) in
    rw (e, ← drop-drop (k * n) n xs, rows_after n m (suc k) xs)

-- rows that are read lie inside the BODY
pub record Plain (body : List ℕ) (n rows at : ℕ) (v : Read (List (List ℕ))) : Type 0 where
  pub inside : at + rows * n ≤ length body
  pub is : v ≡ found ((rows_in n rows 0 (drop at body)), (at + rows * n))

read_later : (bs : List ℕ) (v : Read (List (List ℕ))) → IsRead (onward bs v) → IsRead v
read_later bs (found (a, q)) i = tt
read_later bs (refused k p) i = i

module _ (body : List ℕ) (n : ℕ) where
  plain_next :
      (rows at : ℕ) → at ≤ length body → n ≤ length body - at → (v : Read (List (List ℕ))) → Plain body n rows (at + n) v →
      Plain body n (suc rows) at (onward (take n (drop at body)) v)
  unfolding rows_in
  plain_next rows at h l v p =
      let e : suc rows * n ≡ rows * n + n = suc-mul rows n in
      let f : at + suc rows * n ≡ at + n + rows * n = omega arith in
      let g : rows_in n rows 1 (drop at body) ≡ rows_in n rows 0 (drop (at + n) body) =
      rows_after n rows 0 (drop at body) ∙ ap (λ (xs : List ℕ). rows_in n rows 0 xs) (drop-drop n at body) in
      let z : 0 * n ≡ 0 = omega arith in
      record { inside = rw f p.inside; is = rw (p.is, f, z, g) }

  -- the first row by the test of its length, and the others
  abbrev by_test : ℕ → ℕ → Bool → Read (List (List ℕ))
  by_test rows at t =
      then_read (row_read (pick t (filled (take n (drop at body)) (at + n)) (short at))) (λ bs q. onward bs (rows_from 0 body n rows q))

  pub plain_rows : (rows at : ℕ) → at ≤ length body → IsRead (rows_from 0 body n rows at) → Plain body n rows at (rows_from 0 body n rows at)
  unfolding rows_from rows_in plain_row
  plain_rows zero at h i = let e : at + 0 * n ≡ at = omega arith in record { inside = rw e h; is = rw e }
  plain_rows (suc rows) at h i = go (λ l. plain_rows rows (at + n) (omega arith)) (leb n (length body - at)) refl i
    where
      go :
          (n ≤ length body - at → IsRead (rows_from 0 body n rows (at + n)) → Plain body n rows (at + n) (rows_from 0 body n rows (at + n))) →
          (t : Bool) → leb n (length body - at) ≡ t → IsRead (by_test rows at t) →
          Plain body n (suc rows) at (by_test rows at t)
      go ih true e j =
          let l = leb-true n (length body - at) e in
          let later : Read (List (List ℕ)) = rows_from 0 body n rows (at + n) in
          plain_next rows at h l later (ih l (read_later (take n (drop at body)) later j))
      go ih false e j = absurd j

-- the same in the words of the code
module _ (body : List ℕ) (n rows at compression : ℕ) (e : compression ≡ 0) (h : at ≤ length body) where
  -- what lies from the place on
  rest_whole : take (length body - at) (drop at body) ≡ drop at body
  rest_whole = take_all (length body - at) (drop at body) (rw length-drop (omega arith))

  module _ (i : IsRead (rows_from compression body n rows at)) where
    plain-all : Plain body n rows at (rows_from 0 body n rows at)
    plain-all = plain_rows body n rows at h (rw e at i)

    pub plain_read :
        rows_from compression body n rows at
        ≡ found ((rows_in n rows 0 (take (length body - at) (drop at body))), (at + rows * n))
    plain_read = rw (e, rest_whole) plain-all.is

    pub plain_room : (planes : ℕ) → planes ≤ rows → planes * n ≤ length (take (length body - at) (drop at body))
    plain_room planes l =
        rw (rest_whole, length-drop) (omega (arith, plain-all.inside, mul-le-mul_right {m = planes} {n = rows} n l))

    module _ (f : length body < 2 ^ 64) where
      pub plain_end_fits : Fits w64 (at + rows * n)
      plain_end_fits = let p = plain-all.inside in omega arith

      pub plain_length_fits : Fits w64 (rows * n)
      plain_length_fits = let p = plain-all.inside in omega arith

pub ruleset plain = (plain_read, plain_room, plain_end_fits, plain_length_fits)
