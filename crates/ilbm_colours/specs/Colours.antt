-- What a scan line and a frame of a picture tell in colours, by the parts of the file that hold its content.
use Rattle.std.specs.Prelude.{ℕ, ◌≡◌, List, length}
use Rattle.ilbm_spec.specs.declared.BitmapHeader.{BitmapHeader}
use Rattle.ilbm_spec.specs.Contents.{Content}
use Rattle.ilbm_spec.specs.Rows.{line_answer, frame_answer, bytes_after}
use Rattle.ilbm_spec.specs.Colours.{colour_line_read, colour_frame_read}
use Rattle.ilbm_content.specs.declared.Contents.{Contents}
use Rattle.iff_tree.specs.Judge.{found}
use Rattle.ilbm_find.specs.Seen.{Shown}
use Rattle.iff_refusal.specs.Numbers.{Answer}

-- the answer, and what stands in the row afterwards
pub record LineDone
    (s : List ℕ) (c : Contents) (h : BitmapHeader) (default : List ℕ) (start : ℕ) (old : List ℕ) (r : Answer ℕ) (new : List ℕ)
    : Type 0 where
  pub answer : (x : Content) → Shown s c h x → r ≡ line_answer (colour_line_read (found x) default start (length old))
  pub row : (x : Content) → Shown s c h x → new ≡ bytes_after (colour_line_read (found x) default start (length old)) old

-- the answer, and what stands in the frame afterwards
pub record FrameDone
    (s : List ℕ) (c : Contents) (h : BitmapHeader) (default old : List ℕ) (r : Answer ℕ) (new : List ℕ) : Type 0 where
  pub answer : (x : Content) → Shown s c h x → r ≡ frame_answer (colour_frame_read (found x) default (length old))
  pub frame : (x : Content) → Shown s c h x → new ≡ bytes_after (colour_frame_read (found x) default (length old)) old
