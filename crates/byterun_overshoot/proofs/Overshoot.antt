-- A run written step by step. What stands before the run stays, and the bytes behind that are the run so far. The last step may reach
-- behind the run: a take of the run's length leaves that out.
use Prim.Native.Nat.{ℕ, ◌+◌, ◌≤◌}
use mathlib.Core.Path.{◌≡◌, sym, ◌∙◌}
use mathlib.Core.List.{List, ◌++◌, append_assoc}
use lib.ListN.{length, take, drop, replicate, length-drop, length-replicate, replicate-append-replicate}
use lib.Seq.{paste, length-take-le, take-append-add, take-add, take-paste, take-take, take_all, drop-drop}
use native.Mathlib.Omega.{arith}
use Rattle.std.proofs.lemmas.List.{take-replicate}

-- d and what was written at `at`, up to the k-th byte or behind it, of which the first `count` are asked for
module _ (d : List ℕ) (at count k : ℕ) (here : at ≤ length d) (far : count ≤ k) where
  run_ends : (e x : List ℕ) → take (at + k) e ≡ take at d ++ x → take (at + count) e ≡ take at d ++ take count x
  run_ends e x u =
      let n : length (take at d) ≡ at = length-take-le at d here in
      sym (take-take (at + count) (at + k) e (omega arith)) ∙ rw u (rw n at (take-append-add (take at d) x count))

  pub copy_ends :
      (src : List ℕ) (from : ℕ) (e : List ℕ) → take (at + k) e ≡ take at d ++ take k (drop from src) →
      take (at + count) e ≡ take at d ++ take count (drop from src)
  copy_ends src from e u = rw (take-take count k (drop from src) far) at (run_ends e (take k (drop from src)) u)

  pub fill_ends :
      (b : ℕ) (e : List ℕ) → take (at + k) e ≡ take at d ++ replicate k b → take (at + count) e ≡ take at d ++ replicate count b
  fill_ends b e u = rw (take-replicate count k b far) at (run_ends e (replicate k b) u)

-- one step more, of n bytes
module _ (d : List ℕ) (at k n : ℕ) (e f : List ℕ) (here : at + k ≤ length e) where
  run_more :
      (t x : List ℕ) → n ≤ length t → take (at + k) e ≡ take at d ++ x → f ≡ paste e (at + k) t n →
      take (at + (k + n)) f ≡ take at d ++ (x ++ take n t)
  run_more t x l u p =
      let m : at + (k + n) ≡ at + k + n = omega arith in
      rw (m, p) (take-paste e (at + k) t n here l ∙ rw u (append_assoc (take at d) x (take n t)))

  pub copy_more :
      (src : List ℕ) (from : ℕ) → from + k + n ≤ length src → take (at + k) e ≡ take at d ++ take k (drop from src) →
      f ≡ paste e (at + k) (drop (from + k) src) n → take (at + (k + n)) f ≡ take at d ++ take (k + n) (drop from src)
  copy_more src from l u p =
      rw (take-add k n (drop from src), drop-drop k from src)
      (run_more (drop (from + k) src) (take k (drop from src)) (rw length-drop (omega arith)) u p)

  pub fill_more :
      (b : ℕ) → take (at + k) e ≡ take at d ++ replicate k b → f ≡ paste e (at + k) (replicate n b) n →
      take (at + (k + n)) f ≡ take at d ++ replicate (k + n) b
  fill_more b u p =
      let l : length (replicate n b) ≡ n = length-replicate n b in
      let all : take n (replicate n b) ≡ replicate n b = take_all n (replicate n b) (omega arith) in
      rw (← replicate-append-replicate k n b) (rw all at (run_more (replicate n b) (replicate k b) (omega arith) u p))
