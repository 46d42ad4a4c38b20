-- A picture that is not refused: it has a BMHD and at most one BODY, its properties have their sizes, and with a BODY its fields pass for
-- themselves, at most 8 planes.
use Rattle.std.specs.Prelude.{ℕ, ◌≤◌, ◌≡◌, refl, Bool, true, false, not, List, ◌∷◌, eqb, ltb, length, Result, Ok, Err}
use borrow.Author.Tests.{eqb-true, ltb-false, lt-ltb}
use Rattle.std.proofs.Common.{arith}
use Rattle.iff_name.specs.Name.{both, either, pick}
use Rattle.iff_refusal.specs.declared.Reason.{Reason}
use Rattle.iff_refusal.specs.declared.Reason.TheVariants.{NoHeader, SecondBody, WrongSize, EmptyPicture, TooManyPlanes, UnknownMasking}
use Rattle.iff_refusal.specs.declared.Reason.TheVariants.{UnknownCompression}
use Rattle.ilbm_spec.specs.declared.BitmapHeader.{BitmapHeader}
use Rattle.ilbm_spec.specs.Contents.{Located, Content}
use Rattle.ilbm_spec.specs.Pictures.{header_in, data_of, counts, wrong_size, empty_fields, fields_refusal, header_refusal, picture_refusal}

-- a check passes, or refuses
abbrev Check : Type 0
Check = Result (Unit {0}) Reason

not_refused :
    (x : Content) → picture_refusal x ≡ Ok tt →
    (counts x.bmhd ≡ true) × (ltb 1 (length x.bodies) ≡ false) × (wrong_size x ≡ false) ×
    (header_refusal (header_in (data_of x.bmhd)) (ltb 0 (length x.bodies)) ≡ Ok tt)
unfolding picture_refusal
not_refused x e = go (counts x.bmhd) (ltb 1 (length x.bodies)) (wrong_size x) _ e
  where
    go :
        (a b w : Bool) (n : Check) → pick (not a) (Err NoHeader) (pick b (Err SecondBody) (pick w (Err WrongSize) n)) ≡ Ok tt →
        (a ≡ true) × (b ≡ false) × (w ≡ false) × (n ≡ Ok tt)
    go true true w n e = absurd cc
    go true false true n e = absurd cc
    go true false false n e = (refl, refl, refl, e)
    go false b w n e = absurd cc

pub sizes_right : (x : Content) → picture_refusal x ≡ Ok tt → wrong_size x ≡ false
sizes_right x e = (not_refused x e).2

pub header_size : (x : Content) → picture_refusal x ≡ Ok tt → length (data_of x.bmhd) ≡ 20
unfolding wrong_size
header_size x e =
    eqb-true (length (data_of x.bmhd)) 20
    (go (counts x.bmhd) (eqb (length (data_of x.bmhd)) 20) _ (not_refused x e).0 (sizes_right x e))
  where
    go : (a b rest : Bool) → a ≡ true → either (both a (not b)) rest ≡ false → b ≡ true
    go true true rest i j = refl
    go true false rest i j = absurd cc
    go false b rest i j = absurd cc

pub one_body : (x : Content) → picture_refusal x ≡ Ok tt → length x.bodies ≤ 1
one_body x e = ltb-false 1 (length x.bodies) (not_refused x e).1

passed : (t : Bool) (k : Reason) (n : Check) → pick t (Err k) n ≡ Ok tt → t ≡ false
passed true k n e = absurd cc
passed false k n e = refl

-- fields that pass have at most 8 planes
pub few_planes : (planes masking compression : ℕ) (empty : Bool) → fields_refusal planes masking compression empty ≡ Ok tt → planes ≤ 8
unfolding fields_refusal
few_planes planes masking compression empty e = ltb-false 8 planes (passed (ltb 8 planes) TooManyPlanes _ e)

-- where nothing is refused for an empty picture, nothing is for one that is not empty
with_height : (planes masking compression w h : ℕ) → fields_refusal planes masking compression (empty_fields w h planes) ≡ Ok tt →
    fields_refusal planes masking compression (empty_fields w 1 planes) ≡ Ok tt
unfolding fields_refusal
with_height planes masking compression w h e =
    go (ltb 8 planes) (ltb 3 masking) (ltb 1 compression) (eqb w 0) (eqb h 0) (eqb planes 0) e
  where
    judged : (a b c empty : Bool) → Check
    judged a b c empty =
        pick a (Err TooManyPlanes) (pick b (Err UnknownMasking) (pick c (Err UnknownCompression) (pick empty (Err EmptyPicture) (Ok tt))))

    go : (a b c x y z : Bool) → judged a b c (either x (either y z)) ≡ Ok tt → judged a b c (either x z) ≡ Ok tt
    go true b c x y z e = e
    go false true c x y z e = e
    go false false true x y z e = e
    go false false false true y z e = e
    go false false false false true z e = absurd cc
    go false false false false false z e = e

module _ (x : Content) (e : picture_refusal x ≡ Ok tt) (b : Located) (bs : List Located) (i : x.bodies ≡ b ∷ bs) where
  abbrev h : BitmapHeader
  h = header_in (data_of x.bmhd)

  pub frame_fields : fields_refusal h.planes h.masking h.compression (empty_fields h.w h.h h.planes) ≡ Ok tt
  unfolding header_refusal
  frame_fields = rw (i, lt-ltb 0 (length (b ∷ bs)) (omega arith)) at (not_refused x e).3

  pub line_fields : fields_refusal h.planes h.masking h.compression (empty_fields h.w 1 h.planes) ≡ Ok tt
  line_fields = with_height h.planes h.masking h.compression h.w h.h frame_fields
