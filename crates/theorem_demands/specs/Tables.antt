-- The table of pictures leads to the same answers, so demand 3 and the round trip hold of this way too. Both are proved by going from a
-- row to the call by number, and from there by the theorem on it.
use Rattle.std.specs.Prelude.{ℕ, ◌*◌, ◌/◌, ◌<◌, ◌≤◌, ◌≡◌, refl, List, [], length, take, Ok, Err, None}
use Rattle.std.proofs.Common.{sym, ap, ◌∙◌, arith, le-ltb}
use Rattle.iff_chunk.specs.Chunks.{Chunk}
use Rattle.iff_tree.specs.Judge.{found, read_file}
use Rattle.iff_grammar.specs.Words.{Bytes}
use Rattle.iff_grammar.proofs.Accept.{sound}
use Rattle.ilbm_spec.specs.declared.BitmapHeader.{BitmapHeader}
use Rattle.ilbm_spec.specs.declared.Picture.{Picture}
use Rattle.ilbm_spec.specs.Contents.{contents_of}
use Rattle.ilbm_spec.specs.Rows.{Read}
use Rattle.ilbm_spec.specs.Shapes.{Shaped}
use Rattle.ilbm_spec.specs.Table.{PictureRow, table_of, table_answer, table_after}
use Rattle.write_form.specs.File.{picture_form, picture_file}
use Rattle.write_picture.specs.Write.{write_of, out_after}
use Rattle.theorem_table.specs.ByTable.{row_at, view_by, properties_by, palette_by, extent_by, palette_triples_by, scan_line_by, frame_by}
use Rattle.theorem_table.specs.ByTable.{shape_line_by, shape_frame_by, colour_line_by, colour_frame_by, ByTable}
use Rattle.theorem_table.proofs.Theorem.{tree_by_table}
use Rattle.theorem_table.proofs.laws.Rows.{count_rows}
use Rattle.theorem_additions.specs.Additions.{Addition, tree_after, file_after, MayAddAll, moved_by}
use Rattle.theorem_additions.specs.Statement.{moved_view, moved_answer, moved_extent, line_told, frame_told, shape_line_told, shape_frame_told}
use Rattle.theorem_additions.specs.Statement.{SameAnswers}
use Rattle.theorem_additions.proofs.laws.After.{file_after_lem}
use Rattle.theorem_additions.proofs.Demand3.{demand3}
use Rattle.theorem_roundtrip.specs.Expected.{picture_for, shape_for, colours_for, triples_for}
use Rattle.theorem_roundtrip.specs.Header.{InRange}
use Rattle.theorem_roundtrip.specs.RoundTrip.{ReadsBack}
use Rattle.theorem_roundtrip.proofs.RoundTrip.{round_trip}
use Rattle.iff_refusal.specs.Numbers.{Answer, refusal_in, number_in}

-- row i of the table of a file's pictures, in a lent one with these numbers
abbrev pub row_of : List ℕ → List ℕ → ℕ → PictureRow
row_of s old i = row_at (table_after (table_of s (length old)) old) i

-- A scan line and a frame by a row, for a lent row of bytes or a lent frame, with the shape for two, and in colours: what is told, and the
-- bytes left there.
abbrev pub line_by_row : List ℕ → PictureRow → ℕ → List ℕ → Answer ℕ × List ℕ
line_by_row s r start row = line_told (scan_line_by s r start (length row)) row

abbrev pub frame_by_row : List ℕ → PictureRow → List ℕ → Answer ℕ × List ℕ
frame_by_row s r frame = frame_told (frame_by s r (length frame)) frame

abbrev pub shape_line_by_row : List ℕ → PictureRow → ℕ → List ℕ → List ℕ → Answer ℕ × List ℕ × List ℕ
shape_line_by_row s r start row shape = shape_line_told (shape_line_by s r start (length row) (length shape)) row shape

abbrev pub shape_frame_by_row : List ℕ → PictureRow → List ℕ → List ℕ → Answer ℕ × List ℕ × List ℕ
shape_frame_by_row s r frame shape = shape_frame_told (shape_frame_by s r (length frame) (length shape)) frame shape

abbrev pub colour_line_by_row : List ℕ → PictureRow → List ℕ → ℕ → List ℕ → Answer ℕ × List ℕ
colour_line_by_row s r default start row = line_told (colour_line_by s r default start (length row)) row

abbrev pub colour_frame_by_row : List ℕ → PictureRow → List ℕ → List ℕ → Answer ℕ × List ℕ
colour_frame_by_row s r default frame = frame_told (colour_frame_by s r default (length frame)) frame

-- Two files whose tables have n rows each, with the same answers in them, by which every call answers the same but for places that moved.
pub record SameByTable (f g old : List ℕ) (move : ℕ → ℕ) (n : ℕ) : Type 0 where
  pub count : table_answer (table_of g (length old)) ≡ Ok n
  pub answers : (i : ℕ) → i < n → (row_of g old i).answer ≡ (row_of f old i).answer
  pub views : (i : ℕ) → i < n → view_by g (row_of g old i) ≡ moved_view move (view_by f (row_of f old i))
  pub properties : (i : ℕ) → i < n → properties_by g (row_of g old i) ≡ moved_answer move (properties_by f (row_of f old i))
  pub palettes : (i : ℕ) → i < n → (default : List ℕ) → palette_by g (row_of g old i) default ≡ palette_by f (row_of f old i) default
  pub extents : (i : ℕ) → i < n → extent_by (row_of g old i) ≡ moved_extent move (extent_by (row_of f old i))
  pub lines : (i : ℕ) → i < n → (start : ℕ) (row : List ℕ) → line_by_row g (row_of g old i) start row ≡ line_by_row f (row_of f old i) start row
  pub frames : (i : ℕ) → i < n → (frame : List ℕ) → frame_by_row g (row_of g old i) frame ≡ frame_by_row f (row_of f old i) frame
  pub shape_lines :
      (i : ℕ) → i < n → (start : ℕ) (row shape : List ℕ) →
      shape_line_by_row g (row_of g old i) start row shape ≡ shape_line_by_row f (row_of f old i) start row shape
  pub shape_frames :
      (i : ℕ) → i < n → (frame shape : List ℕ) →
      shape_frame_by_row g (row_of g old i) frame shape ≡ shape_frame_by_row f (row_of f old i) frame shape
  pub colour_lines :
      (i : ℕ) → i < n → (default : List ℕ) (start : ℕ) (row : List ℕ) →
      colour_line_by_row g (row_of g old i) default start row ≡ colour_line_by_row f (row_of f old i) default start row
  pub colour_frames :
      (i : ℕ) → i < n → (default frame : List ℕ) →
      colour_frame_by_row g (row_of g old i) default frame ≡ colour_frame_by_row f (row_of f old i) default frame
  pub triples :
      (i : ℕ) → i < n → (default : List ℕ) → palette_triples_by g (row_of g old i) default ≡ palette_triples_by f (row_of f old i) default

-- the number of a picture's refusal, which no move changes
abbrev number : Answer Picture → ℕ
number x = number_in (refusal_in x)

number_kept : (move : ℕ → ℕ) (x : Answer Picture) → number (moved_answer move x) ≡ number x
number_kept move (Ok x) = refl
number_kept move (Err r) = refl

module _ (f g old : List ℕ) (move : ℕ → ℕ) (n : ℕ) (same : SameAnswers f g move) (told : table_answer (table_of f (length old)) ≡ Ok n)
    (a : ByTable f (table_after (table_of f (length old)) old) n) (b : ByTable g (table_after (table_of g (length old)) old) n) where
  same_by_table : SameByTable f g old move n
  same_by_table =
      record {
        count = same.table_answers (length old) ∙ told;
        answers = λ i h. b.answers i h ∙ ap number (same.pictures i) ∙ number_kept move _ ∙ sym (a.answers i h);
        views = λ i h. b.views i h ∙ same.views i ∙ ap (moved_view move) (sym (a.views i h));
        properties = λ i h. b.properties i h ∙ same.pictures i ∙ ap (moved_answer move) (sym (a.properties i h));
        palettes = λ i h default. b.palettes i h default ∙ same.palettes i default ∙ sym (a.palettes i h default);
        extents = λ i h. b.extents i h ∙ same.extents i ∙ ap (moved_extent move) (sym (a.extents i h));
        lines = λ i h start row.
            let told : Read (List ℕ) → Answer ℕ × List ℕ = λ x. line_told x row in
            ap told (b.lines i h start (length row)) ∙ same.lines i start row ∙ sym (ap told (a.lines i h start (length row)));
        frames = λ i h frame.
            let told : Read (List ℕ) → Answer ℕ × List ℕ = λ x. frame_told x frame in
            ap told (b.frames i h (length frame)) ∙ same.frames i frame ∙ sym (ap told (a.frames i h (length frame)));
        shape_lines = λ i h start row shape.
            let told : Read Shaped → Answer ℕ × List ℕ × List ℕ = λ x. shape_line_told x row shape in
            ap told (b.shape_lines i h start (length row) (length shape)) ∙ same.shape_lines i start row shape ∙
            sym (ap told (a.shape_lines i h start (length row) (length shape)));
        shape_frames = λ i h frame shape.
            let told : Read Shaped → Answer ℕ × List ℕ × List ℕ = λ x. shape_frame_told x frame shape in
            ap told (b.shape_frames i h (length frame) (length shape)) ∙ same.shape_frames i frame shape ∙
            sym (ap told (a.shape_frames i h (length frame) (length shape)));
        colour_lines = λ i h default start row.
            let told : Read (List ℕ) → Answer ℕ × List ℕ = λ x. line_told x row in
            ap told (b.colour_lines i h default start (length row)) ∙ same.colour_lines i default start row ∙
            sym (ap told (a.colour_lines i h default start (length row)));
        colour_frames = λ i h default frame.
            let told : Read (List ℕ) → Answer ℕ × List ℕ = λ x. frame_told x frame in
            ap told (b.colour_frames i h default (length frame)) ∙ same.colour_frames i default frame ∙
            sym (ap told (a.colour_frames i h default (length frame)));
        triples = λ i h default. b.triples i h default ∙ same.triples i default ∙ sym (a.triples i h default);
      }

-- Demand 3 by the table: of an accepted file and whatever is added.
pub unchanged :
    (f : List ℕ) → Bytes f → (c : Chunk) → read_file f ≡ found c → (adds : List Addition) → MayAddAll adds c f → (old : List ℕ) (n : ℕ) →
    table_answer (table_of f (length old)) ≡ Ok n → SameByTable f (file_after adds c f) old (moved_by adds c) n
unchanged f b c e adds may old n told =
    let was = sound f b c e in
    let now = file_after_lem adds c f was.0 was.1 may in
    let same = (demand3 f b c e adds may).answers in
    same_by_table f (file_after adds c f) old (moved_by adds c) n same told
    (tree_by_table f c was.0 was.1 old n told)
    (tree_by_table (file_after adds c f) (tree_after adds c) now.0 now.1 old n (same.table_answers (length old) ∙ told))

-- A written file by its table: one row, and by it the picture, its palette with the triples, its frame, its shape and its colours.
pub record ReadsBackByTable (s old : List ℕ) (b : BitmapHeader) (palette frame shape : List ℕ) : Type 0 where
  pub count : table_answer (table_of s (length old)) ≡ Ok 1
  pub picture : properties_by s (row_of s old 0) ≡ Ok (picture_for b palette)
  pub palette_back : palette_by s (row_of s old 0) [] ≡ record { refusal = None; colours = palette }
  pub frame_back : frame_by s (row_of s old 0) (b.w * b.h) ≡ found (frame, 0)
  pub shape_back : shape_frame_by s (row_of s old 0) (b.w * b.h) (b.w * b.h) ≡ shape_for b frame shape
  pub colours_back : colour_frame_by s (row_of s old 0) [] (3 * (b.w * b.h)) ≡ colours_for palette frame
  pub triples_back : palette_triples_by s (row_of s old 0) [] ≡ triples_for palette

back_by_table :
    (s old : List ℕ) (b : BitmapHeader) (palette frame shape : List ℕ) → 30 ≤ length old → ReadsBack s b palette frame shape →
    ReadsBackByTable s old b palette frame shape
back_by_table s old b palette frame shape room r =
    let cs = contents_of (picture_form b palette frame shape) in
    let one : table_answer (table_of s (length old)) ≡ Ok 1 =
    rw (r.tree, r.pictures, le-ltb (length old / 30) 1 (omega arith), count_rows cs, r.pictures) in
    let t = tree_by_table s (picture_form b palette frame shape) [] r.grammar old 1 one in
    record {
      count = one;
      picture = t.properties 0 (omega arith) ∙ r.picture;
      palette_back = t.palettes 0 (omega arith) [] ∙ r.palette_back;
      frame_back = t.frames 0 (omega arith) (b.w * b.h) ∙ r.frame_back;
      shape_back = t.shape_frames 0 (omega arith) (b.w * b.h) (b.w * b.h) ∙ r.shape_back;
      colours_back = t.colour_frames 0 (omega arith) [] (3 * (b.w * b.h)) ∙ r.colours_back;
      triples_back = t.triples 0 (omega arith) [] ∙ r.triples_back;
    }

-- The round trip by the table: of what the writer leaves, with a lent table that has room for one picture.
pub written :
    (b : BitmapHeader) (palette frame shape out : List ℕ) (n : ℕ) → InRange b → write_of b palette frame shape (length out) ≡ Ok n →
    (old : List ℕ) → 30 ≤ length old →
    ReadsBackByTable (take n (out_after (write_of b palette frame shape (length out)) (picture_file b palette frame shape) out)) old
    b palette frame shape
written b palette frame shape out n range e old room =
    back_by_table _ old b palette frame shape room (round_trip b palette frame shape out n range e)
