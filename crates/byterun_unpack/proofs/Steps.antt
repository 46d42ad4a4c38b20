-- One law for each way through a turn of the loop that writes a row of n bytes: the row's first o bytes stand before what is still to be
-- read, and a turn carries out one code. What stands behind the bytes that are written is not spoken of.
use Prim.Native.Nat.{ℕ, ◌+◌, ◌-◌, ◌<◌, ◌≤◌}
use mathlib.Core.Path.{◌≡◌, refl, sym, ap}
use mathlib.Core.List.{List, [], ◌++◌, append_assoc, append-nil}
use lib.ListN.{take, drop, replicate}
use mir.Syntax.{w64}
use mir.Val.{Fits}
use native.Mathlib.Nat.{le_refl}
use native.Mathlib.Omega.{arith}
use Rattle.byterun_row.specs.ByteRun.{Row, filled, over, short, code_of, prepend, on_code, unpack_row, IsFull}
use Rattle.byterun_row.proofs.laws.Steps.{row_none}
use Rattle.byterun_row.specs.declared.Code.{Code}
use Rattle.byterun_row.specs.declared.Code.TheVariants.{Missing, Skip, Copy, Repeat, Long, Cut}
use Rattle.byterun_row.proofs.Steps.{stepped, skip_fits, skip_less, copy_code_fits, copy_fits, copy_inside, copy_left, copy_less}
use Rattle.byterun_row.proofs.Steps.{repeat_fits, repeat_left, repeat_less}

prepend_twice : (xs ys : List ℕ) (r : Row) → prepend xs (prepend ys r) ≡ prepend (xs ++ ys) r
prepend_twice xs ys (filled cs q) = ap (λ (l : List ℕ). filled l q) (sym (append_assoc xs ys cs))
prepend_twice xs ys (over q) = refl
prepend_twice xs ys (short q) = refl

module _ (body : List ℕ) (i n o : ℕ) (r : Code) (is : r ≡ code_of body i (n - o)) (h : o < n) where
  step : (c : Code) → r ≡ c → unpack_row body i (n - o) ≡ on_code body i (n - o) (λ j m. unpack_row body j m) c
  step c e = stepped body i (n - o) r is c e (omega arith)

  module _ (row : List ℕ) (v : Row) (u : prepend (take o row) (unpack_row body i (n - o)) ≡ v) where
    pub write_skip : r ≡ Skip → prepend (take o row) (unpack_row body (i + 1) (n - o)) ≡ v
    write_skip e = rw (step Skip e) at u

    -- a code that writes the bytes of a run
    write-run :
        (run row' : List ℕ) (j k : ℕ) → unpack_row body i (n - o) ≡ prepend run (unpack_row body j (n - o - k)) →
        take (o + k) row' ≡ take o row ++ run → prepend (take (o + k) row') (unpack_row body j (n - (o + k))) ≡ v
    write-run run row' j k s t =
        let d : n - (o + k) ≡ n - o - k = omega arith in
        rw (t, d, ← prepend_twice (take o row) run (unpack_row body j (n - o - k))) (rw s at u)

    pub write_copy :
        (k : ℕ) (row' : List ℕ) → r ≡ Copy k → take (o + k) row' ≡ take o row ++ take k (drop (i + 1) body) →
        prepend (take (o + k) row') (unpack_row body (i + 1 + k) (n - (o + k))) ≡ v
    write_copy k row' e t = write-run (take k (drop (i + 1) body)) row' (i + 1 + k) k (step (Copy k) e) t

    pub write_repeat :
        (b k : ℕ) (row' : List ℕ) → r ≡ Repeat b k → take (o + k) row' ≡ take o row ++ replicate k b →
        prepend (take (o + k) row') (unpack_row body (i + 2) (n - (o + k))) ≡ v
    write_repeat b k row' e t = write-run (replicate k b) row' (i + 2) k (step (Repeat b k) e) t

    pub no_missing : r ≡ Missing → IsFull v → ⊥
    no_missing e f = rw (← u, step Missing e) at f

    pub no_long : r ≡ Long → IsFull v → ⊥
    no_long e f = rw (← u, step Long e) at f

    pub no_cut : r ≡ Cut → IsFull v → ⊥
    no_cut e f = rw (← u, step Cut e) at f

-- a run ends inside the row, and inside what holds the row
module _ (n o k : ℕ) (h : o < n) (l : k ≤ n - o) where
  pub run_room : (m : ℕ) → n ≤ m → o + k ≤ m
  run_room m e = omega arith

  pub run_fits : Fits w64 n → Fits w64 (o + k)
  run_fits f = omega arith

pub write_starts : (body row : List ℕ) (at n : ℕ) → prepend (take 0 row) (unpack_row body at (n - 0)) ≡ unpack_row body at n
write_starts body row at n = let d : n - 0 ≡ n = omega arith in rw d (go (unpack_row body at n))
  where
    go : (r : Row) → prepend [] r ≡ r
    go (filled bs q) = refl
    go (over q) = refl
    go (short q) = refl

pub write_ends :
    (body row : List ℕ) (i n o : ℕ) (v : Row) → o ≤ n → n ≤ o → prepend (take o row) (unpack_row body i (n - o)) ≡ v →
    v ≡ filled (take n row) i
write_ends body row i n o v a b u =
    let s : o ≡ n = omega arith in
    sym (rw (row_none body i (n - o) (omega arith), append-nil (take o row), s) at u)

pub ruleset codes = (skip_fits, skip_less, copy_code_fits, copy_fits, copy_inside, copy_left, copy_less)

pub ruleset runs = (repeat_fits, repeat_left, repeat_less, run_room, run_fits, le_refl)

pub ruleset writing = (codes, runs, write_starts, write_skip, write_copy, write_repeat, no_missing, no_long, no_cut, write_ends)
