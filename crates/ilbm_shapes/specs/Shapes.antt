-- What a scan line and a frame of a picture tell with their shape, by the parts of the file that hold its content.
use Rattle.std.specs.Prelude.{ℕ, ◌≡◌, List, length}
use Rattle.ilbm_spec.specs.declared.BitmapHeader.{BitmapHeader}
use Rattle.ilbm_spec.specs.Contents.{Content}
use Rattle.ilbm_spec.specs.Rows.{line_answer, frame_answer}
use Rattle.ilbm_spec.specs.Shapes.{shape_line_read, shape_frame_read, colours_after, shape_after}
use Rattle.ilbm_content.specs.declared.Contents.{Contents}
use Rattle.iff_tree.specs.Judge.{found}
use Rattle.ilbm_find.specs.Seen.{Shown}
use Rattle.iff_refusal.specs.Numbers.{Answer}

-- the answer, and what stands in both rows afterwards
pub record LineDone
    (s : List ℕ) (c : Contents) (h : BitmapHeader) (start : ℕ) (row shape : List ℕ) (r : Answer ℕ) (new told : List ℕ) : Type 0 where
  pub answer : (x : Content) → Shown s c h x → r ≡ line_answer (shape_line_read (found x) start (length row) (length shape))
  pub colours : (x : Content) → Shown s c h x → new ≡ colours_after (shape_line_read (found x) start (length row) (length shape)) row
  pub bits : (x : Content) → Shown s c h x → told ≡ shape_after (shape_line_read (found x) start (length row) (length shape)) shape

-- the answer, and what stands in both frames afterwards
pub record FrameDone
    (s : List ℕ) (c : Contents) (h : BitmapHeader) (frame shape : List ℕ) (r : Answer ℕ) (new told : List ℕ) : Type 0 where
  pub answer : (x : Content) → Shown s c h x → r ≡ frame_answer (shape_frame_read (found x) (length frame) (length shape))
  pub colours : (x : Content) → Shown s c h x → new ≡ colours_after (shape_frame_read (found x) (length frame) (length shape)) frame
  pub bits : (x : Content) → Shown s c h x → told ≡ shape_after (shape_frame_read (found x) (length frame) (length shape)) shape
