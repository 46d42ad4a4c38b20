-- The rows and lines are read back from a BODY as they were written into it: each row ends where the next one starts. What is made of a
-- line's rows is left open, so colours and shape are read back by the same laws.
use Prim.Native.Nat.{ℕ, zero, suc, ◌+◌, ◌*◌, ◌^◌}
use Rattle.std.specs.Prelude.{◌≡◌, refl, take, drop}
use Rattle.std.proofs.Math.Path.{sym}
use Rattle.std.proofs.Common.{◌∙◌, length-drop, length-take-le, add-zero, zero-add, suc-add, suc-mul, arith}
use mathlib.Core.List.{List, [], ◌∷◌, ◌++◌, append_assoc, append-nil}
use Rattle.std.proofs.Math.ListN.{length, length-append, take-append-drop}
use Rattle.byterun_row.specs.ByteRun.{filled, row_of}
use Rattle.byterun_pack.specs.Written.{written_row}
use Rattle.byterun_pack.proofs.laws.Written.{written_reads}
use Rattle.iff_tree.specs.Judge.{found}
use Rattle.ilbm_spec.specs.declared.BitmapHeader.{BitmapHeader}
use Rattle.ilbm_spec.specs.Rows.{row_length, mask_rows, rows_in_line, Read, rows_from, Pixels, lines_with}
use Rattle.write_plane_row.specs.Planes.{plane_row}
use Rattle.write_body.specs.Body.{line_rows, line_bytes, shape_width, body_lines}
use Rattle.theorem_roundtrip.proofs.laws.Planes.{row_length_lem, plane_rows, Below, below_take, below_drop}

-- behind the bytes `pre`
module _ (compression n : ℕ) (line : List ℕ) where
  one_row :
      (weight : ℕ) (pre rest : List ℕ) →
      row_of compression (pre ++ (written_row compression (plane_row weight line 0 n) ++ rest)) (length pre) n
      ≡ filled (plane_row weight line 0 n) (length pre + length (written_row compression (plane_row weight line 0 n)))
  one_row weight pre rest = rw row_length_lem at (written_reads compression (plane_row weight line 0 n) pre rest)

  -- these rows and then more
  rows_then :
      (rows weight more : ℕ) (pre rest : List ℕ) (others : List (List ℕ)) (r : ℕ) →
      rows_from compression (pre ++ (line_rows compression n line weight rows ++ rest)) n more
      (length pre + length (line_rows compression n line weight rows))
      ≡ found (others, r) →
      rows_from compression (pre ++ (line_rows compression n line weight rows ++ rest)) n (rows + more) (length pre)
      ≡ found ((plane_rows n line weight rows ++ others), r)
  unfolding rows_from line_rows plane_rows
  rows_then zero weight more pre rest others r e = rw (zero-add more) (rw (add-zero (length pre)) at e)
  rows_then (suc rows) weight more pre rest others r e =
      let row : List ℕ = written_row compression (plane_row weight line 0 n) in
      let left : List ℕ = line_rows compression n line (weight * 2) rows in
      let body : List ℕ = pre ++ ((row ++ left) ++ rest) in
      let one : body ≡ pre ++ (row ++ (left ++ rest)) = rw (append_assoc row left rest) in
      let two : body ≡ (pre ++ row) ++ (left ++ rest) = one ∙ sym (append_assoc pre row (left ++ rest)) in
      let at : length (pre ++ row) ≡ length pre + length row = length-append pre row in
      let first : row_of compression body (length pre) n ≡ filled (plane_row weight line 0 n) (length pre + length row) =
      rw one (one_row weight pre (left ++ rest)) in
      let ends : length pre + length (row ++ left) ≡ length (pre ++ row) + length left = simp length-append (omega arith) in
      let next : rows_from compression ((pre ++ row) ++ (left ++ rest)) n more (length (pre ++ row) + length left) ≡ found (others, r) =
      rw (two, ends) at e in
      let rows_left : rows_from compression body n (rows + more) (length pre + length row)
      ≡ found ((plane_rows n line (weight * 2) rows ++ others), r) =
      rw (two, ← at) (rows_then rows (weight * 2) more (pre ++ row) rest others r next) in
      rw (suc-add rows more, first, rows_left)

-- the rows that are written for a line and its shape
abbrev pub rows_of : BitmapHeader → List ℕ → List ℕ → List (List ℕ)
rows_of b line shape =
    plane_rows (row_length b.w) line 1 b.planes
    ++ plane_rows (row_length b.w) shape 1 (mask_rows b.masking)

-- The mask row is read as the rows of the planes are.
line_rows_lem :
    (b : BitmapHeader) (line shape pre rest : List ℕ) →
    rows_from b.compression (pre ++ (line_bytes b line shape ++ rest)) (row_length b.w) (rows_in_line b.planes b.masking)
    (length pre)
    ≡ found (rows_of b line shape, (length pre + length (line_bytes b line shape)))
unfolding rows_from
line_rows_lem b line shape pre rest =
    let c : ℕ = b.compression in
    let n : ℕ = row_length b.w in
    let masks : ℕ = mask_rows b.masking in
    let planes : List ℕ = line_rows c n line 1 b.planes in
    let mask : List ℕ = line_rows c n shape 1 masks in
    let one : pre ++ ((planes ++ mask) ++ rest) ≡ pre ++ (planes ++ (mask ++ rest)) = rw (append_assoc planes mask rest) in
    let two : pre ++ (planes ++ (mask ++ rest)) ≡ (pre ++ planes) ++ (mask ++ rest) = sym (append_assoc pre planes (mask ++ rest)) in
    let at : length (pre ++ planes) ≡ length pre + length planes = length-append pre planes in
    let ends : length (pre ++ planes) + length mask ≡ length pre + length (planes ++ mask) = simp length-append (omega arith) in
    let last = rows_then c n shape masks 1 0 (pre ++ planes) rest [] (length (pre ++ planes) + length mask) refl in
    let next : rows_from c (pre ++ (planes ++ (mask ++ rest))) n masks (length pre + length planes)
    ≡ found (plane_rows n shape 1 masks, (length pre + length (planes ++ mask))) =
    rw (two, ← at, ← ends) (rw (add-zero masks, append-nil (plane_rows n shape 1 masks)) at last) in
    rw one (rows_then c n line b.planes 1 masks pre (mask ++ rest) (plane_rows n shape 1 masks) _ next)

-- What is made of the rows of a line is made of the line and its shape; the making goes line by line.
pub record Makes (b : BitmapHeader) (pixels : Pixels) (made : List ℕ → List ℕ → List ℕ) : Type 0 where
  pub none : made [] [] ≡ []
  pub joined : (cs ds ms ns : List ℕ) → made (cs ++ ds) (ms ++ ns) ≡ made cs ms ++ made ds ns
  pub line :
      (cs ms : List ℕ) → length cs ≡ b.w → Below (2 ^ b.planes) cs → length ms ≡ shape_width b → Below 2 ms →
      pixels (rows_of b cs ms) ≡ made cs ms

-- so many lines of colour numbers and of a shape
pub record Drawn (b : BitmapHeader) (lines : ℕ) (frame shape : List ℕ) : Type 0 where
  pub whole : length frame ≡ lines * b.w
  pub colours : Below (2 ^ b.planes) frame
  pub shape_whole : length shape ≡ lines * shape_width b
  pub bits : Below 2 shape

drawn_left :
    (b : BitmapHeader) (lines : ℕ) (frame shape : List ℕ) → Drawn b (suc lines) frame shape →
    Drawn b lines (drop b.w frame) (drop (shape_width b) shape)
drawn_left b lines frame shape d =
    let e : length frame ≡ lines * b.w + b.w = d.whole ∙ suc-mul lines b.w in
    let f : length shape ≡ lines * shape_width b + shape_width b = d.shape_whole ∙ suc-mul lines (shape_width b) in
    record {
      whole = rw length-drop (omega arith);
      colours = below_drop (2 ^ b.planes) b.w frame d.colours;
      shape_whole = rw length-drop (omega arith);
      bits = below_drop 2 (shape_width b) shape d.bits;
    }

module _ (b : BitmapHeader) (pixels : Pixels) (made : List ℕ → List ℕ → List ℕ) (makes : Makes b pixels made) where
  abbrev reads : List ℕ → ℕ → ℕ → Read (List ℕ)
  reads body lines at = lines_with pixels b.compression (row_length b.w) (rows_in_line b.planes b.masking) body lines at

  first_made :
      (lines : ℕ) (frame shape : List ℕ) → Drawn b (suc lines) frame shape →
      pixels (rows_of b (take b.w frame) (take (shape_width b) shape)) ≡ made (take b.w frame) (take (shape_width b) shape)
  first_made lines frame shape d =
      let e : length frame ≡ lines * b.w + b.w = d.whole ∙ suc-mul lines b.w in
      let f : length shape ≡ lines * shape_width b + shape_width b = d.shape_whole ∙ suc-mul lines (shape_width b) in
      makes.line _ _ (length-take-le b.w frame (omega arith)) (below_take (2 ^ b.planes) b.w frame d.colours)
      (length-take-le (shape_width b) shape (omega arith)) (below_take 2 (shape_width b) shape d.bits)

  pub lines_back :
      (lines : ℕ) (frame shape pre rest : List ℕ) → Drawn b lines frame shape →
      reads (pre ++ (body_lines b frame shape lines ++ rest)) lines (length pre)
      ≡ found (made frame shape, (length pre + length (body_lines b frame shape lines)))
  unfolding lines_with body_lines
  lines_back zero [] [] pre rest d = rw (add-zero (length pre), makes.none)
  lines_back zero [] (m ∷ ms) pre rest d = let e = d.shape_whole in absurd (omega arith)
  lines_back zero (c ∷ cs) shape pre rest d = let e = d.whole in absurd (omega arith)
  lines_back (suc lines) frame shape pre rest d =
      let w : ℕ = b.w in
      let u : ℕ = shape_width b in
      let head : List ℕ = line_bytes b (take w frame) (take u shape) in
      let more : List ℕ = body_lines b (drop w frame) (drop u shape) lines in
      let body : List ℕ = pre ++ ((head ++ more) ++ rest) in
      let one : body ≡ pre ++ (head ++ (more ++ rest)) = rw (append_assoc head more rest) in
      let two : body ≡ (pre ++ head) ++ (more ++ rest) = one ∙ sym (append_assoc pre head (more ++ rest)) in
      let at : length (pre ++ head) ≡ length pre + length head = length-append pre head in
      let first = rw (← one) at (line_rows_lem b (take w frame) (take u shape) pre (more ++ rest)) in
      let others : reads body lines (length pre + length head)
      ≡ found (made (drop w frame) (drop u shape), (length pre + length head + length more)) =
      rw (two, ← at) (lines_back lines (drop w frame) (drop u shape) (pre ++ head) rest (drawn_left b lines frame shape d)) in
      let ends : length pre + length head + length more ≡ length pre + length (head ++ more) = rw (length-append head more) (omega arith) in
      let parts = makes.joined (take w frame) (drop w frame) (take u shape) (drop u shape) in
      let all : made frame shape ≡ made (take w frame) (take u shape) ++ made (drop w frame) (drop u shape) =
      rw (take-append-drop w frame, take-append-drop u shape) at parts in
      rw (first, first_made lines frame shape d, others, all, ends)
