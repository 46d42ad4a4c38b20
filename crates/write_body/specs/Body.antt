-- 01 "Writing" and "Rows": the data of BODY for a frame of colour numbers and a shape.
use Rattle.std.specs.Prelude.{ℕ, zero, suc, ◌*◌, List, [], ◌++◌, eqb, take, drop}
use Rattle.iff_name.specs.Name.{pick}
use Rattle.ilbm_spec.specs.declared.BitmapHeader.{BitmapHeader}
use Rattle.ilbm_spec.specs.Rows.{row_length, mask_rows}
use Rattle.byterun_pack.specs.Written.{written_row}
use Rattle.write_plane_row.specs.Planes.{plane_row}

-- so many plane rows of n bytes, from the plane of this weight on, each as the compression says
unfoldable pub line_rows : ℕ → ℕ → List ℕ → ℕ → ℕ → List ℕ
line_rows compression n line weight zero = []
line_rows compression n line weight (suc rows) =
    written_row compression (plane_row weight line 0 n) ++ line_rows compression n line (weight * 2) rows

-- "A scan line is one row for each plane, plane 0 first, then a mask row if masking is 1": the shape of a line as one plane
abbrev pub line_bytes : BitmapHeader → List ℕ → List ℕ → List ℕ
line_bytes b line shape =
    line_rows b.compression (row_length b.w) line 1 b.planes ++
    line_rows b.compression (row_length b.w) shape 1 (mask_rows b.masking)

-- 02, Ask 4: "The picture writer also takes such a row per line for masking 1", of w bytes; none for the rest
abbrev pub shape_width : BitmapHeader → ℕ
shape_width b = pick (eqb b.masking 1) b.w 0

-- so many scan lines, one after the other
unfoldable pub body_lines : BitmapHeader → List ℕ → List ℕ → ℕ → List ℕ
body_lines b frame shape zero = []
body_lines b frame shape (suc lines) =
    line_bytes b (take b.w frame) (take (shape_width b) shape) ++ body_lines b (drop b.w frame) (drop (shape_width b) shape) lines

abbrev pub body_bytes : BitmapHeader → List ℕ → List ℕ → List ℕ
body_bytes b frame shape = body_lines b frame shape b.h
