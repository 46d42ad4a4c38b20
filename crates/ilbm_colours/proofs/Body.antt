-- The scan line and the frame of a picture with a BODY are those of its first BODY, by the header, the number that CAMG holds and the
-- palette that count: a picture that is not refused has fields that pass.
use Prim.Native.Nat.{ℕ, ◌-◌}
use mathlib.Core.Path.{◌≡◌, refl, ◌∙◌}
use mathlib.Core.List.{List}
use lib.ListN.{length, take, drop}
use Rattle.iff_tree.specs.Judge.{found}
use Rattle.ilbm_spec.specs.declared.BitmapHeader.{BitmapHeader}
use Rattle.ilbm_spec.specs.Contents.{Content}
use Rattle.ilbm_spec.specs.Rows.{Read, line_answer, frame_answer, bytes_after}
use Rattle.ilbm_spec.specs.Pictures.{palette_of_property}
use Rattle.ilbm_spec.specs.Colours.{colour_line_in_body, colour_frame_in_body, colour_line_read, colour_frame_read, mode_of_view}
use Rattle.ilbm_spec.proofs.laws.Pictures.{line_fields, frame_fields}
use Rattle.ilbm_content.specs.declared.Contents.{Contents}
use Rattle.ilbm_find.specs.Seen.{Shown, Judged}
use Rattle.ilbm_cmap.specs.Parts.{PartIn, part_or}
use Rattle.ilbm_cmap.proofs.PaletteLaws.{part_in, part_is}
use Rattle.ilbm_properties.specs.Fields.{LongIs}
use Rattle.ilbm_rows.proofs.Body.{body_of}
use Rattle.ilbm_colours.specs.Colours.{LineDone, FrameDone}
use Rattle.iff_refusal.specs.Numbers.{Answer}
use Rattle.std.specs.Prelude.{Some}

-- the palette's part lies in the file
pub cmap_inside : (s : List ℕ) (c : Contents) (h : BitmapHeader) → Judged s c h → PartIn s c.cmap.part
cmap_inside s c h (x, k) = part_in s c.cmap x.cmap c.cmap.part k.parts.cmap refl

module _
    (s : List ℕ) (c : Contents) (h : BitmapHeader) (default : List ℕ) (mode : ℕ) (told : LongIs s c.camg mode) (palette : List ℕ)
    (part : palette ≡ part_or s c.cmap.part default) (a b : ℕ) (i : c.body ≡ Some (a, b))
  where
    mode-is : (x : Content) → Shown s c h x → mode ≡ mode_of_view x
    mode-is x k = told.at x.camg k.parts.camg

    palette-is : (x : Content) → Shown s c h x → palette ≡ palette_of_property x.cmap default
    palette-is x k = part ∙ part_is s c.cmap x.cmap c.cmap.part default k.parts.cmap refl

    -- the scan line
    module _ (start : ℕ) (old : List ℕ) where
      abbrev line : Read (List ℕ)
      line =
          colour_line_in_body (take (b - a) (drop a s)) h.w h.planes h.masking h.compression mode palette start (length old)

      line_at : (x : Content) → Shown s c h x → colour_line_read (found x) default start (length old) ≡ line
      line_at x k =
          let b = body_of s c h a b i x k in
          rw (b.is, b.is_data, k.header, mode-is x k, palette-is x k, line_fields x k.sound b.first b.others b.is)

      pub line_done :
          (r : Answer ℕ) (new : List ℕ) → r ≡ line_answer line → new ≡ bytes_after line old → LineDone s c h default start old r new
      line_done r new e w = record { answer = λ x k. rw (line_at x k) e; row = λ x k. rw (line_at x k) w }

    -- the frame
    module _ (old : List ℕ) where
      abbrev frame : Read (List ℕ)
      frame =
          colour_frame_in_body (take (b - a) (drop a s)) h.w h.h h.planes h.masking h.compression mode palette (length old)

      frame_at : (x : Content) → Shown s c h x → colour_frame_read (found x) default (length old) ≡ frame
      frame_at x k =
          let b = body_of s c h a b i x k in
          rw (b.is, b.is_data, k.header, mode-is x k, palette-is x k, frame_fields x k.sound b.first b.others b.is)

      pub frame_done :
          (r : Answer ℕ) (new : List ℕ) → r ≡ frame_answer frame → new ≡ bytes_after frame old → FrameDone s c h default old r new
      frame_done r new e w = record { answer = λ x k. rw (frame_at x k) e; frame = λ x k. rw (frame_at x k) w }
