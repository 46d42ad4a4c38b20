-- From the parts of the file that hold a picture to its refusal.
use Prim.Native.Nat.{ℕ, ◌+◌, ◌-◌, ◌≤◌, ◌<◌}
use mathlib.Core.Path.{◌≡◌, refl, sym, ap, ◌∙◌}
use mathlib.Core.Bool.{Bool, true, false, not}
use mathlib.Core.List.{List}
use mathlib.Core.Option.{some}
use lib.Dec.{eqb, ltb}
use lib.ListN.{length, take, drop}
use lib.Seq.{slice}
use borrow.Author.Tests.{lt-ltb, le-ltb, eqb-true}
use native.Mathlib.Omega.{arith}
use Rattle.iff_name.specs.Name.{either}
use Rattle.iff_grammar.proofs.laws.Words.{slice_take}
use Rattle.ilbm_spec.specs.declared.BitmapHeader.{BitmapHeader}
use Rattle.ilbm_spec.specs.Contents.{Property, own, shared, absent, Content}
use Rattle.ilbm_spec.specs.Pictures.{data_of, counts, size_not, wrong_size, header_in, header_refusal, picture_refusal}
use Rattle.ilbm_content.specs.Held.{Shows}
use Rattle.ilbm_content.specs.declared.Held.{Held}
use Rattle.ilbm_content.specs.declared.Contents.{Contents}
use Rattle.ilbm_content.specs.Held.{HeldIs, ContentsAre}
use Rattle.ilbm_refusals.specs.Refusals.{Full, SizesAre, JudgementIs}
use Rattle.ilbm_refusals.proofs.Laws.{held_some, held_none}
use Rattle.iff_refusal.specs.declared.Reason.{Reason}
use Rattle.iff_refusal.specs.declared.Reason.TheVariants.{NoHeader, SecondBody, WrongSize}
use Rattle.std.specs.Prelude.{Some, None, Result, Ok, Err}

-- the data that a part holds
pub held_data : (s : List ℕ) (h : Held) (q : Property) (a b : ℕ) → HeldIs s h q → h.part ≡ Some (a, b) → (slice a b s ≡ data_of q) ×
    (a + length (data_of q) ≡ b) × (b ≤ length s)
held_data s h (own x) a b k i = let w : Shows s (Some (a, b)) (some x) = rw i at k.1 in (w.0, w.1, w.2)
held_data s h (shared p x) a b k i = let w : Shows s (Some (a, b)) (some x) = rw i at k.1 in (w.0, w.1, w.2)
held_data s h absent a b k i = absurd (let j : None ≡ Some (a, b) = sym k.1 ∙ i in let z : ◌≡◌ {A = ℕ} 0 1 = cc in omega arith)

pub data_taken : (s : List ℕ) (h : Held) (q : Property) (a b : ℕ) → HeldIs s h q → h.part ≡ Some (a, b) →
    take (b - a) (drop a s) ≡ data_of q
data_taken s h q a b k i =
    let w = held_data s h q a b k i in
    let j : a + (b - a) ≡ b = omega (arith, w.1) in
    sym (slice_take s a (b - a)) ∙ (ap (λ (x : ℕ). slice a x s) j ∙ w.0)

pub refusal_21 : (s : List ℕ) (c : Contents) → c.bmhd.part ≡ None → JudgementIs s c (Err NoHeader)
unfolding picture_refusal
refusal_21 s c i = record { at = λ x k. rw (held_none s c.bmhd x.bmhd k.bmhd i) }

sized_left : (a b : Bool) → either a b ≡ false → a ≡ false
sized_left true b e = e
sized_left false b e = refl

not-false : (b : Bool) → not b ≡ false → b ≡ true
not-false true e = refl
not-false false e = sym e

module _ (s : List ℕ) (c : Contents) (a b : ℕ) (i : c.bmhd.part ≡ Some (a, b)) where
  counted : (x : Content) → ContentsAre s c x → counts x.bmhd ≡ true
  counted x k = (held_some s c.bmhd x.bmhd a b k.bmhd i).counts

  pub part_order : Full s c → a ≤ b
  part_order (x, k) = omega (arith, (held_some s c.bmhd x.bmhd a b k.bmhd i).sized)

  pub part_inside : Full s c → b ≤ length s
  part_inside (x, k) = (held_data s c.bmhd x.bmhd a b k.bmhd i).2

  pub refusal_22 : 1 < c.bodies → JudgementIs s c (Err SecondBody)
  unfolding picture_refusal
  refusal_22 l = record { at = λ x k. let m : 1 < length x.bodies = omega (arith, k.bodies) in rw (counted x k, lt-ltb _ _ m) }

  module _ (l : c.bodies ≤ 1) (w : Bool) (v : SizesAre s c w) where
    pub refusal_23 : w ≡ true → JudgementIs s c (Err WrongSize)
    unfolding picture_refusal
    refusal_23 j = record {
      at = λ x k. let m : length x.bodies ≤ 1 = omega (arith, k.bodies) in rw (counted x k, le-ltb _ _ m, ← v.at x k, j);
    }

    module _ (j : w ≡ false) where
      bmhd-20 : (x : Content) → ContentsAre s c x → length (data_of x.bmhd) ≡ 20
      unfolding wrong_size
      bmhd-20 x k =
          let e : wrong_size x ≡ false = sym (v.at x k) ∙ j in
          let f : size_not 20 x.bmhd ≡ false = sized_left _ _ e in
          let g : not (eqb (length (data_of x.bmhd)) 20) ≡ false = rw (counted x k) at f in
          eqb-true _ _ (not-false _ g)

      pub header_room : Full s c → 20 ≤ length (take (b - a) (drop a s))
      header_room (x, k) = rw (data_taken s c.bmhd x.bmhd a b k.bmhd i) (omega (arith, bmhd-20 x k))

      -- the header's fields decide
      module _ (h : BitmapHeader) (r : Result (Unit {0}) Reason) (y : h ≡ header_in (take (b - a) (drop a s))) where
        header_is : (x : Content) → ContentsAre s c x → h ≡ header_in (data_of x.bmhd)
        header_is x k = y ∙ ap header_in (data_taken s c.bmhd x.bmhd a b k.bmhd i)

        module _ (f : r ≡ header_refusal h (ltb 0 c.bodies)) where
          refusal_is : (x : Content) → ContentsAre s c x → picture_refusal x ≡ r
          unfolding picture_refusal
          refusal_is x k =
              let m : length x.bodies ≤ 1 = omega (arith, k.bodies) in
              rw (counted x k, le-ltb _ _ m, ← v.at x k, j, ← header_is x k, ← k.bodies) (sym f)

          pub header_refused : (n : Reason) → r ≡ Err n → JudgementIs s c (Err n)
          header_refused n z = record { at = λ x k. rw (refusal_is x k, z) }

          pub header_passes : r ≡ Ok tt → JudgementIs s c (Ok h)
          header_passes z = record { at = λ x k. rw (refusal_is x k, z, header_is x k) }
