-- One law for each way through `code_at` and `judge_plain`: the tests that were passed settle the definition.
use Prim.Native.Nat.{ℕ, ◌+◌, ◌-◌, ◌<◌, ◌≤◌}
use mathlib.Core.Path.{◌≡◌}
use mathlib.Core.List.{List}
use lib.ListN.{length, get_or}
use borrow.Author.Tests.{lt-ltb, le-ltb, le-leb, lt-leb, eq-eqb, ne_eqb}
use native.Mathlib.Omega.{arith}
use Rattle.byterun_row.specs.ByteRun.{code_of, plain_row, answer_of}
use Rattle.byterun_row.specs.declared.Code.TheVariants.{Missing, Skip, Copy, Repeat, Long, Cut}
use Rattle.iff_refusal.specs.declared.Reason.TheVariants.{BodyEnds}
use Rattle.iff_refusal.specs.Numbers.{refusing}
use Rattle.std.specs.Prelude.{Ok}

module _ (body : List ℕ) (i left : ℕ) where
  pub is_missing : length body ≤ i → Missing ≡ code_of body i left
  unfolding code_of
  is_missing h = simp (le-ltb _ _ h)

  module _ (h : i < length body) (c : ℕ) (e : c ≡ get_or body i 0) where
    pub is_skip : c ≡ 128 → Skip ≡ code_of body i left
    unfolding code_of
    is_skip p = simp (lt-ltb _ _ h, ← e, eq-eqb _ _ p)

    module _ (n : c ≡ 128 → ⊥) where
      pub copy_long : c < 128 → left < c + 1 → Long ≡ code_of body i left
      unfolding code_of
      copy_long p q = simp (lt-ltb _ _ h, ← e, ne_eqb _ _ n, lt-ltb _ _ p, lt-ltb _ _ q)

      pub copy_cut : c < 128 → c + 1 ≤ left → length body - (i + 1) < c + 1 → Cut ≡ code_of body i left
      unfolding code_of
      copy_cut p q t = simp (lt-ltb _ _ h, ← e, ne_eqb _ _ n, lt-ltb _ _ p, le-ltb _ _ q, lt-ltb _ _ t)

      pub is_copy : c < 128 → c + 1 ≤ left → c + 1 ≤ length body - (i + 1) → Copy (c + 1) ≡ code_of body i left
      unfolding code_of
      is_copy p q t = simp (lt-ltb _ _ h, ← e, ne_eqb _ _ n, lt-ltb _ _ p, le-ltb _ _ q, le-ltb _ _ t)

      pub repeat_long : 128 ≤ c → left < 257 - c → Long ≡ code_of body i left
      unfolding code_of
      repeat_long p q = simp (lt-ltb _ _ h, ← e, ne_eqb _ _ n, le-ltb _ _ p, lt-ltb _ _ q)

      pub repeat_cut : 128 ≤ c → 257 - c ≤ left → length body - (i + 1) < 1 → Cut ≡ code_of body i left
      unfolding code_of
      repeat_cut p q t = simp (lt-ltb _ _ h, ← e, ne_eqb _ _ n, le-ltb _ _ p, le-ltb _ _ q, lt-ltb _ _ t)

      pub is_repeat : 128 ≤ c → 257 - c ≤ left → 1 ≤ length body - (i + 1) → Repeat (get_or body (i + 1) 0) (257 - c) ≡ code_of body i left
      unfolding code_of
      is_repeat p q t = simp (lt-ltb _ _ h, ← e, ne_eqb _ _ n, le-ltb _ _ p, le-ltb _ _ q, le-ltb _ _ t)

module _ (body : List ℕ) (at n : ℕ) where
  pub plain_none : n ≡ 0 → Ok at ≡ answer_of (plain_row body at n)
  unfolding plain_row
  plain_none h = let e : at + n ≡ at = omega arith in simp (le-leb n (length body - at) (omega arith), e)

  pub plain_full : n ≤ length body - at → Ok (at + n) ≡ answer_of (plain_row body at n)
  unfolding plain_row
  plain_full h = simp (le-leb _ _ h)

  pub plain_beyond : (n ≡ 0 → ⊥) → length body ≤ at → refusing BodyEnds at ≡ answer_of (plain_row body at n)
  unfolding plain_row
  plain_beyond z h = simp (lt-leb n (length body - at) (omega (arith, z)))

  pub plain_ends : length body - at < n → refusing BodyEnds at ≡ answer_of (plain_row body at n)
  unfolding plain_row
  plain_ends h = simp (lt-leb _ _ h)

pub ruleset laws = (is_missing, is_skip, copy_long, copy_cut, is_copy, repeat_long, repeat_cut, is_repeat, plain_none, plain_full, plain_beyond, plain_ends)
