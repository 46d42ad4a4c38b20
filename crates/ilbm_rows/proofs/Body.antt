-- The scan line and the frame of a picture with a BODY are those of its first BODY, by the header that counts: a picture that is not
-- refused has fields that pass.
use Prim.Native.Nat.{ℕ, ◌+◌, ◌-◌, ◌≤◌}
use mathlib.Core.Path.{◌≡◌, refl, sym, ap, ◌∙◌}
use mathlib.Core.List.{List, [], ◌∷◌}
use lib.ListN.{length, take, drop}
use lib.Seq.{slice}
use native.Mathlib.Omega.{arith}
use Rattle.iff_tree.specs.Judge.{found}
use Rattle.iff_grammar.proofs.laws.Words.{slice_take}
use Rattle.ilbm_spec.specs.declared.BitmapHeader.{BitmapHeader}
use Rattle.ilbm_spec.specs.Contents.{Located, Content}
use Rattle.ilbm_spec.specs.Rows.{Read, line_in_body, frame_in_body, line_read, frame_read, line_answer, frame_answer, bytes_after}
use Rattle.ilbm_spec.proofs.laws.Pictures.{line_fields, frame_fields}
use Rattle.ilbm_members.specs.Gathers.{first_of}
use Rattle.ilbm_content.specs.declared.Contents.{Contents}
use Rattle.ilbm_content.specs.Held.{Shows}
use Rattle.ilbm_find.specs.Seen.{Shown, Judged}
use Rattle.ilbm_rows.specs.Lines.{LineDone, FrameDone}
use Rattle.iff_refusal.specs.Numbers.{Answer}
use Rattle.std.specs.Prelude.{Some}

-- the BODY that lies in a part
pub record FirstBody (s : List ℕ) (a b : ℕ) (bodies : List Located) : Type 0 where
  pub first : Located
  pub others : List Located
  pub is : bodies ≡ first ∷ others
  pub is_data : first.content ≡ take (b - a) (drop a s)
  pub order : a ≤ b
  pub inside : b ≤ length s

first_body : (s : List ℕ) (a b : ℕ) (bodies : List Located) → Shows s (Some (a, b)) (first_of bodies) → FirstBody s a b bodies
first_body s a b [] w = absurd w
first_body s a b (x ∷ xs) w =
    let j : a + (b - a) ≡ b = omega (arith, w.1) in
    let e : take (b - a) (drop a s) ≡ x.content = sym (slice_take s a (b - a)) ∙ (ap (λ (y : ℕ). slice a y s) j ∙ w.0) in
    record { first = x; others = xs; is = refl; is_data = sym e; order = omega (arith, w.1); inside = w.2 }

module _ (s : List ℕ) (c : Contents) (h : BitmapHeader) (a b : ℕ) (i : c.body ≡ Some (a, b)) where
  pub body_of : (x : Content) → Shown s c h x → FirstBody s a b x.bodies
  body_of x k = first_body s a b x.bodies (rw i at k.parts.body)

  pub body_order : Judged s c h → a ≤ b
  body_order (x, k) = (body_of x k).order

  pub body_inside : Judged s c h → b ≤ length s
  body_inside (x, k) = (body_of x k).inside

  -- the scan line
  module _ (start : ℕ) (old : List ℕ) where
    abbrev line : Read (List ℕ)
    line = line_in_body (take (b - a) (drop a s)) h.w h.planes h.masking h.compression start (length old)

    line_at : (x : Content) → Shown s c h x → line_read (found x) start (length old) ≡ line
    line_at x k =
        let b = body_of x k in
        rw (b.is, b.is_data, k.header, line_fields x k.sound b.first b.others b.is)

    pub line_done : (r : Answer ℕ) (new : List ℕ) → r ≡ line_answer line → new ≡ bytes_after line old → LineDone s c h start old r new
    line_done r new e w = record { answer = λ x k. rw (line_at x k) e; row = λ x k. rw (line_at x k) w }

  -- the frame
  module _ (old : List ℕ) where
    abbrev frame : Read (List ℕ)
    frame = frame_in_body (take (b - a) (drop a s)) h.w h.h h.planes h.masking h.compression (length old)

    frame_at : (x : Content) → Shown s c h x → frame_read (found x) (length old) ≡ frame
    frame_at x k =
        let b = body_of x k in
        rw (b.is, b.is_data, k.header, frame_fields x k.sound b.first b.others b.is)

    pub frame_done : (r : Answer ℕ) (new : List ℕ) → r ≡ frame_answer frame → new ≡ bytes_after frame old → FrameDone s c h old r new
    frame_done r new e w = record { answer = λ x k. rw (frame_at x k) e; frame = λ x k. rw (frame_at x k) w }
