-- What is not refused has the right lengths: where 28 and 44 pass, a reading that is refused stays what it is, so 28 was not given; and both
-- lengths were looked at.
use Rattle.std.proofs.Common.{ℕ, ◌≡◌, Bool, true, false, refl, sym, ◌∙◌, eqb, arith, eqb-true}
use Rattle.std.specs.Prelude.{Result, Ok}
use Rattle.iff_name.specs.Name.{both}
use Rattle.iff_tree.specs.Judge.{refused}
use Rattle.iff_refusal.specs.declared.Reason.{Reason}
use Rattle.iff_refusal.specs.declared.Reason.TheVariants.{BeyondBody}
use Rattle.ilbm_spec.specs.Rows.{right_length}
use Rattle.ilbm_spec.specs.Shapes.{shape_asked}
use Rattle.ilbm_body_shapes.specs.Refusals.{Refuses}

not_refused :
    (right : Bool) (masking : ℕ) (r : Result (Unit {0}) Reason) (u : Unit {0}) → Refuses r right masking → r ≡ Ok u → right ≡ true
not_refused right masking r u f z = go right (rw z at (f.settles (refused BeyondBody 0)))
  where
    go : (b : Bool) → refused BeyondBody 0 ≡ right_length b (shape_asked masking (refused BeyondBody 0)) → b ≡ true
    go true e = refl
    go false e = absurd (let z : ◌≡◌ {A = ℕ} 0 1 = cc in omega arith)

both_true : (colours shape pixels : ℕ) → both (eqb colours pixels) (eqb shape pixels) ≡ true → (colours ≡ pixels) × (shape ≡ pixels)
both_true colours shape pixels e = go (eqb colours pixels) refl e
  where
    go : (b : Bool) → eqb colours pixels ≡ b → both b (eqb shape pixels) ≡ true → (colours ≡ pixels) × (shape ≡ pixels)
    go true f g = (eqb-true colours pixels f, eqb-true shape pixels g)
    go false f g = absurd (let z : ◌≡◌ {A = ℕ} 0 1 = cc in omega arith)

-- of two lengths that were looked at
pub right_lengths :
    (masking colours shape pixels : ℕ) (right : Bool) (r : Result (Unit {0}) Reason) (u : Unit {0}) →
    right ≡ both (eqb colours pixels) (eqb shape pixels) → Refuses r right masking → r ≡ Ok u → (colours ≡ pixels) × (shape ≡ pixels)
right_lengths masking colours shape pixels right r u e f z =
    both_true colours shape pixels (sym e ∙ not_refused right masking r u f z)
