-- Rows of any bytes as a BODY: fields that are refused leave the lent bytes; with those that pass, at most 8 planes, the rows are read.
use Rattle.std.proofs.Common.{ℕ, ◌≡◌, ◌≤◌, Bool, List, refl, sym, ◌∙◌}
use Rattle.std.specs.Prelude.{Result, Ok, Err}
use Rattle.iff_refusal.specs.declared.Reason.{Reason}
use Rattle.iff_refusal.specs.Numbers.{Answer, refusing}
use Rattle.iff_tree.specs.Judge.{refused}
use Rattle.ilbm_spec.specs.Pictures.{passing, empty_fields, fields_refusal}
use Rattle.ilbm_spec.specs.Rows.{Read}
use Rattle.ilbm_spec.proofs.laws.Pictures as Pictures
use Rattle.ilbm_body_rows.proofs.Laws.{LineAnswered, FrameAnswered}

-- the refusal of the fields of a BODY's header
abbrev pub refusal : ℕ → ℕ → ℕ → ℕ → ℕ → Result (Unit {0}) Reason
refusal w h planes masking compression = fields_refusal planes masking compression (empty_fields w h planes)

pub judged :
    (w h planes masking compression : ℕ) (r : Result (Unit {0}) Reason) (e : Bool) → e ≡ empty_fields w h planes →
    r ≡ fields_refusal planes masking compression e → r ≡ refusal w h planes masking compression
judged w h planes masking compression r e i j = rw (← i) j

pub few_planes :
    (w h planes masking compression : ℕ) (r : Result (Unit {0}) Reason) → r ≡ refusal w h planes masking compression → r ≡ Ok tt → planes ≤ 8
few_planes w h planes masking compression r j z = Pictures.few_planes planes masking compression (empty_fields w h planes) (sym j ∙ z)

module _ {A : Type 0} (r k : Result (Unit {0}) Reason) (j : r ≡ k) (rows : Read A) where
  pub unfit : (o : Reason) → r ≡ Err o → passing k rows ≡ refused o 0
  unfit o z = rw (← j, z)

  pub fit : r ≡ Ok tt → passing k rows ≡ rows
  fit z = rw (← j, z)

-- of a scan line and of a frame, whatever is made of their rows
module _ (r k : Result (Unit {0}) Reason) (j : r ≡ k) (rows : Read (List ℕ)) (old : List ℕ) where
  pub line_unfit : (o : Reason) → r ≡ Err o → LineAnswered (passing k rows) old (refusing o 0) old
  line_unfit o z = rw (unfit r k j rows o z) (refl, refl)

  pub line_fit : (a : Answer ℕ) (new : List ℕ) → r ≡ Ok tt → LineAnswered rows old a new → LineAnswered (passing k rows) old a new
  line_fit a new z t = rw (fit r k j rows z) t

  pub frame_unfit : (o : Reason) → r ≡ Err o → FrameAnswered (passing k rows) old (refusing o 0) old
  frame_unfit o z = rw (unfit r k j rows o z) (refl, refl)

  pub frame_fit : (a : Answer ℕ) (new : List ℕ) → r ≡ Ok tt → FrameAnswered rows old a new → FrameAnswered (passing k rows) old a new
  frame_fit a new z t = rw (fit r k j rows z) t
