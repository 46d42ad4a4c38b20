-- 01: "Reading back, with an empty default palette, gives the same fields but pad1, the same palette and frame." 02, Ask 4: "what it
-- writes reads back", the shape too. Ask 5: in colours, and the palette as triples.
use Rattle.std.specs.Prelude.{ℕ, suc, ◌*◌, ◌≡◌, List, [], length, Ok, None}
use Rattle.iff_tree.specs.Judge.{found, read_file, check_of, refused, accepting}
use Rattle.iff_grammar.specs.Grammar.{ChunkFile}
use Rattle.ilbm_spec.specs.declared.BitmapHeader.{BitmapHeader}
use Rattle.ilbm_spec.specs.Contents.{contents_of}
use Rattle.ilbm_spec.specs.Pictures.{view_of, picture_of}
use Rattle.ilbm_spec.specs.Palette.{palette_answer}
use Rattle.ilbm_spec.specs.Rows.{frame_of}
use Rattle.ilbm_spec.specs.Shapes.{shape_frame_of}
use Rattle.ilbm_spec.specs.Colours.{colour_frame_of}
use Rattle.ilbm_spec.specs.Triples.{triples_of}
use Rattle.write_form.specs.File.{picture_form}
use Rattle.theorem_roundtrip.specs.Expected.{chunks_for, picture_for, shape_for, colours_for, triples_for}
use Rattle.iff_refusal.specs.declared.Reason.TheVariants.{NoPicture}

-- A file that reads as this picture and holds nothing else: the chunk tree of the picture, and no byte after it.
pub record ReadsBack (s : List ℕ) (b : BitmapHeader) (palette frame shape : List ℕ) : Type 0 where
  pub grammar : ChunkFile s (picture_form b palette frame shape) []
  pub accepted : check_of s ≡ accepting (chunks_for palette) (length s) 0
  pub tree : read_file s ≡ found (picture_form b palette frame shape)
  pub pictures : length (contents_of (picture_form b palette frame shape)) ≡ 1
  pub others : (i : ℕ) → view_of s (suc i) ≡ refused NoPicture 0
  pub picture : picture_of s 0 ≡ Ok (picture_for b palette)
  pub palette_back : palette_answer s 0 [] ≡ record { refusal = None; colours = palette }
  pub frame_back : frame_of s 0 (b.w * b.h) ≡ found (frame, 0)
  pub shape_back : shape_frame_of s 0 (b.w * b.h) (b.w * b.h) ≡ shape_for b frame shape
  pub colours_back : colour_frame_of s 0 [] (3 * (b.w * b.h)) ≡ colours_for palette frame
  pub triples_back : triples_of s 0 [] ≡ triples_for palette
