-- The scan line and the frame of a picture with a BODY are those of its first BODY, by the header that counts: a picture that is not
-- refused has fields that pass.
use Prim.Native.Nat.{ℕ, ◌-◌}
use mathlib.Core.Path.{◌≡◌}
use mathlib.Core.List.{List}
use lib.ListN.{length, take, drop}
use Rattle.iff_tree.specs.Judge.{found}
use Rattle.ilbm_spec.specs.declared.BitmapHeader.{BitmapHeader}
use Rattle.ilbm_spec.specs.Contents.{Content}
use Rattle.ilbm_spec.specs.Rows.{Read, line_answer, frame_answer}
use Rattle.ilbm_spec.specs.Shapes.{Shaped, shape_line_in_body, shape_frame_in_body, shape_line_read, shape_frame_read, colours_after, shape_after}
use Rattle.ilbm_spec.proofs.laws.Pictures.{line_fields, frame_fields}
use Rattle.ilbm_content.specs.declared.Contents.{Contents}
use Rattle.ilbm_find.specs.Seen.{Shown}
use Rattle.ilbm_rows.proofs.Body.{body_of}
use Rattle.ilbm_shapes.specs.Shapes.{LineDone, FrameDone}
use Rattle.iff_refusal.specs.Numbers.{Answer}
use Rattle.std.specs.Prelude.{Some}

module _ (s : List ℕ) (c : Contents) (h : BitmapHeader) (a b : ℕ) (i : c.body ≡ Some (a, b)) where
  -- the scan line
  module _ (start : ℕ) (row shape : List ℕ) where
    abbrev line : Read Shaped
    line =
        shape_line_in_body (take (b - a) (drop a s)) h.w h.planes h.masking h.compression h.transparent start
        (length row) (length shape)

    line_at : (x : Content) → Shown s c h x → shape_line_read (found x) start (length row) (length shape) ≡ line
    line_at x k =
        let b = body_of s c h a b i x k in
        rw (b.is, b.is_data, k.header, line_fields x k.sound b.first b.others b.is)

    pub line_done :
        (r : Answer ℕ) (new told : List ℕ) → r ≡ line_answer line → new ≡ colours_after line row → told ≡ shape_after line shape →
        LineDone s c h start row shape r new told
    line_done r new told e u v =
        record { answer = λ x k. rw (line_at x k) e; colours = λ x k. rw (line_at x k) u; bits = λ x k. rw (line_at x k) v }

  -- the frame
  module _ (frame shape : List ℕ) where
    abbrev all : Read Shaped
    all =
        shape_frame_in_body (take (b - a) (drop a s)) h.w h.h h.planes h.masking h.compression h.transparent
        (length frame) (length shape)

    frame_at : (x : Content) → Shown s c h x → shape_frame_read (found x) (length frame) (length shape) ≡ all
    frame_at x k =
        let b = body_of s c h a b i x k in
        rw (b.is, b.is_data, k.header, frame_fields x k.sound b.first b.others b.is)

    pub frame_done :
        (r : Answer ℕ) (new told : List ℕ) → r ≡ frame_answer all → new ≡ colours_after all frame → told ≡ shape_after all shape →
        FrameDone s c h frame shape r new told
    frame_done r new told e u v =
        record { answer = λ x k. rw (frame_at x k) e; colours = λ x k. rw (frame_at x k) u; bits = λ x k. rw (frame_at x k) v }
