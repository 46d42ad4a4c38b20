-- One law for each way through a turn of a loop over a row: a turn carries out one code, which `row_step` says of the definition.
use Prim.Native.Nat.{ℕ, ◌+◌, ◌-◌, ◌^◌, ◌<◌, ◌≤◌}
use mathlib.Core.Path.{◌≡◌, refl, sym, ◌∙◌}
use mathlib.Core.List.{List}
use lib.ListN.{length, take, drop, replicate}
use mir.Syntax.{w64}
use mir.Val.{Fits}
use native.Mathlib.Omega.{arith}
use Rattle.byterun_row.specs.ByteRun.{Row, filled, over, short, code_of, prepend, on_code, unpack_row, answer_of}
use Rattle.byterun_row.proofs.laws.Steps.{row_none, row_step, Within, code_within}
use Rattle.byterun_row.specs.declared.Code.{Code}
use Rattle.byterun_row.specs.declared.Code.TheVariants.{Missing, Skip, Copy, Repeat, Long, Cut}
use Rattle.iff_refusal.specs.declared.Reason.TheVariants.{BodyEnds, RowOverstepped}
use Rattle.iff_refusal.specs.Numbers.{Answer, refusing}
use Rattle.std.specs.Prelude.{Ok}

-- bytes put in front change no answer
prepend_answer : (bs : List ℕ) (r : Row) → answer_of (prepend bs r) ≡ answer_of r
prepend_answer bs (filled cs q) = refl
prepend_answer bs (over q) = refl
prepend_answer bs (short q) = refl

module _ (body : List ℕ) (i left : ℕ) (r : Code) (is : r ≡ code_of body i left) where
  pub within : (c : Code) → r ≡ c → Within body i left c
  within c e = rw (← is, e) at (code_within body i left)

  pub stepped : (c : Code) → r ≡ c → 0 < left → unpack_row body i left ≡ on_code body i left (λ j m. unpack_row body j m) c
  stepped c e h = rw (← is, e) at (row_step body i left h)

  module _ (e : r ≡ Skip) where
    pub skip_fits : length body < 2 ^ 64 → Fits w64 (i + 1)
    skip_fits b = let w = within Skip e in omega arith

    pub skip_less : length body - (i + 1) < length body - i
    skip_less = let w = within Skip e in omega arith

    pub judge_skip : (v : Answer ℕ) → 0 < left → answer_of (unpack_row body i left) ≡ v → answer_of (unpack_row body (i + 1) left) ≡ v
    judge_skip v h u = rw (stepped Skip e h) at u

  module _ (k : ℕ) (e : r ≡ Copy k) where
    pub copy_code_fits : length body < 2 ^ 64 → Fits w64 (i + 1)
    copy_code_fits b = let w = within (Copy k) e in omega arith

    pub copy_fits : length body < 2 ^ 64 → Fits w64 (i + 1 + k)
    copy_fits b = let w = within (Copy k) e in omega arith

    pub copy_inside : i + 1 + k ≤ length body
    copy_inside = (within (Copy k) e).1

    pub copy_left : k ≤ left
    copy_left = (within (Copy k) e).0

    pub copy_less : length body - (i + 1 + k) < length body - i
    copy_less = let w = within (Copy k) e in omega arith

    pub judge_copy : (v : Answer ℕ) → 0 < left → answer_of (unpack_row body i left) ≡ v → answer_of (unpack_row body (i + 1 + k) (left - k)) ≡ v
    judge_copy v h u = sym (prepend_answer (take k (drop (i + 1) body)) (unpack_row body (i + 1 + k) (left - k))) ∙ (rw (stepped (Copy k) e h) at u)

  module _ (b k : ℕ) (e : r ≡ Repeat b k) where
    pub repeat_fits : length body < 2 ^ 64 → Fits w64 (i + 2)
    repeat_fits l = let w = within (Repeat b k) e in omega arith

    pub repeat_left : k ≤ left
    repeat_left = (within (Repeat b k) e).0

    pub repeat_less : length body - (i + 2) < length body - i
    repeat_less = let w = within (Repeat b k) e in omega arith

    pub judge_repeat : (v : Answer ℕ) → 0 < left → answer_of (unpack_row body i left) ≡ v → answer_of (unpack_row body (i + 2) (left - k)) ≡ v
    judge_repeat v h u = sym (prepend_answer (replicate k b) (unpack_row body (i + 2) (left - k))) ∙ (rw (stepped (Repeat b k) e h) at u)

  pub judge_missing : (v : Answer ℕ) → r ≡ Missing → 0 < left → answer_of (unpack_row body i left) ≡ v → refusing BodyEnds (length body) ≡ v
  judge_missing v e h u = rw (stepped Missing e h) at u

  pub judge_long : (v : Answer ℕ) → r ≡ Long → 0 < left → answer_of (unpack_row body i left) ≡ v → refusing RowOverstepped i ≡ v
  judge_long v e h u = rw (stepped Long e h) at u

  pub judge_cut : (v : Answer ℕ) → r ≡ Cut → 0 < left → answer_of (unpack_row body i left) ≡ v → refusing BodyEnds i ≡ v
  judge_cut v e h u = rw (stepped Cut e h) at u

pub judge_full : (body : List ℕ) (i left : ℕ) (v : Answer ℕ) → left ≤ 0 → answer_of (unpack_row body i left) ≡ v → Ok i ≡ v
judge_full body i left v h u = rw (row_none body i left (omega arith)) at u

pub ruleset judging = (skip_fits, skip_less, judge_skip, copy_code_fits, copy_fits, copy_left, copy_less, judge_copy, repeat_fits, repeat_left, repeat_less, judge_repeat, judge_missing, judge_long, judge_cut, judge_full)
