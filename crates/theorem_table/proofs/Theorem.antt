-- The table of a file's pictures and the calls by number agree.
use Rattle.std.specs.Prelude.{ℕ, ◌<◌, ◌/◌, ◌≡◌, refl, Bool, true, false, List, ◌++◌, ltb, length, Ok}
use Rattle.std.proofs.Common.{ap, arith}
use Rattle.iff_name.specs.Name.{pick}
use Rattle.iff_chunk.specs.Chunks.{Chunk}
use Rattle.iff_tree.specs.Judge.{Found, found, refused, read_file}
use Rattle.iff_grammar.specs.Words.{Bytes}
use Rattle.iff_grammar.specs.Grammar.{ChunkFile}
use Rattle.iff_grammar.proofs.Accept.{complete, sound}
use Rattle.ilbm_spec.specs.Contents.{Content, contents_of}
use Rattle.ilbm_spec.specs.Pictures.{Viewed, judged, view_in, view_of, picture_answer}
use Rattle.ilbm_spec.specs.Palette.{answer_in, extent_in}
use Rattle.ilbm_spec.specs.Rows.{line_read, frame_read}
use Rattle.ilbm_spec.specs.Shapes.{shape_line_read, shape_frame_read}
use Rattle.ilbm_spec.specs.Colours.{colour_line_read, colour_frame_read}
use Rattle.ilbm_spec.specs.Triples.{triples_in}
use Rattle.ilbm_spec.specs.Table.{PictureRow, picture_row, picture_rows, rows_for, table_of, table_numbers, table_answer, table_after}
use Rattle.theorem_table.specs.ByTable.{row_at, data_by, view_by, properties_by, palette_by, extent_by, palette_triples_by, scan_line_by}
use Rattle.theorem_table.specs.ByTable.{frame_by}
use Rattle.theorem_table.specs.ByTable.{shape_line_by, shape_frame_by, colour_line_by, colour_frame_by, Parts, ByTable, RefusedBoth}
use Rattle.theorem_table.specs.Lies.{ContentLies, ContentsLie}
use Rattle.theorem_table.proofs.laws.Lies.{file_lies}
use Rattle.theorem_table.proofs.laws.Rows.{count_rows, row_shows, no_more}
use Rattle.theorem_table.proofs.laws.Told.{answer_told, parts_told, header_told, view_told, properties_told, palette_told, extent_told}
use Rattle.theorem_table.proofs.laws.Told.{line_told_lem, frame_told_lem, shape_line_told_lem, shape_frame_told_lem, triples_told}
use Rattle.theorem_table.proofs.laws.Told.{colour_line_told, colour_frame_told}
use Rattle.iff_refusal.specs.declared.Reason.TheVariants.{TableTooShort}
use Rattle.iff_refusal.specs.declared.Reason.{Reason}
use Rattle.iff_refusal.specs.Numbers.{refusal_in, number_in}

-- What a row and the file tell is what the calls tell of the picture that is seen.
record Tells (s : List ℕ) (r : PictureRow) (v : Viewed) : Type 0 where
  answer : r.answer ≡ number_in (refusal_in (picture_answer v))
  view : view_by s r ≡ v
  properties : properties_by s r ≡ picture_answer v
  palette : (default : List ℕ) → palette_by s r default ≡ answer_in v default
  extent : extent_by r ≡ extent_in v
  line : (start room : ℕ) → scan_line_by s r start room ≡ line_read v start room
  frame : (room : ℕ) → frame_by s r room ≡ frame_read v room
  shape_line : (start room shapeRoom : ℕ) → shape_line_by s r start room shapeRoom ≡ shape_line_read v start room shapeRoom
  shape_frame : (room shapeRoom : ℕ) → shape_frame_by s r room shapeRoom ≡ shape_frame_read v room shapeRoom
  colour_line : (default : List ℕ) (start room : ℕ) → colour_line_by s r default start room ≡ colour_line_read v default start room
  colour_frame : (default : List ℕ) (room : ℕ) → colour_frame_by s r default room ≡ colour_frame_read v default room
  triples : (default : List ℕ) → palette_triples_by s r default ≡ triples_in v default
  parts : Parts s r
  header : r.answer ≡ 0 → length (data_by s r.bmhd) ≡ 20

row_tells : (s : List ℕ) (c : Content) → ContentLies s c → Tells s (picture_row c) (judged c)
row_tells s c l =
    record {
      answer = answer_told c;
      view = view_told s c l;
      properties = properties_told s c l;
      palette = palette_told s c l;
      extent = extent_told s c l;
      line = line_told_lem s c l;
      frame = frame_told_lem s c l;
      shape_line = shape_line_told_lem s c l;
      shape_frame = shape_frame_told_lem s c l;
      colour_line = colour_line_told s c l;
      colour_frame = colour_frame_told s c l;
      triples = triples_told s c l;
      parts = parts_told s c l;
      header = header_told s c l;
    }

-- of a file whose chunk is c
module _ (s rest : List ℕ) (c : Chunk) (e : read_file s ≡ found c) (l : ContentsLie s (contents_of c)) where
  abbrev cs : List Content
  cs = contents_of c

  one : (i : ℕ) → i < length (picture_rows cs) → Tells s (row_at (table_numbers (picture_rows cs) ++ rest) i) (view_of s i)
  one i h =
      let count = count_rows cs in
      rw e (row_shows s (Tells s) (row_tells s) rest cs l i (omega arith))

  table_tells : ByTable s (table_numbers (picture_rows cs) ++ rest) (length (picture_rows cs))
  table_tells =
      record {
        answers = λ i h. (one i h).answer;
        views = λ i h. (one i h).view;
        properties = λ i h. (one i h).properties;
        palettes = λ i h. (one i h).palette;
        extents = λ i h. (one i h).extent;
        lines = λ i h. (one i h).line;
        frames = λ i h. (one i h).frame;
        shape_lines = λ i h. (one i h).shape_line;
        shape_frames = λ i h. (one i h).shape_frame;
        colour_lines = λ i h. (one i h).colour_line;
        colour_frames = λ i h. (one i h).colour_frame;
        triples = λ i h. (one i h).triples;
        none = λ i h. let count = count_rows cs in rw e (no_more cs i (omega arith));
        parts = λ i h. (one i h).parts;
        headers = λ i h. (one i h).header;
      }

-- For any file that is a chunk tree and any lent table: what the call leaves there shows as many pictures as it answers.
pub tree_by_table :
    (s : List ℕ) (c : Chunk) (R : List ℕ) → ChunkFile s c R → (old : List ℕ) (n : ℕ) → table_answer (table_of s (length old)) ≡ Ok n →
    ByTable s (table_after (table_of s (length old)) old) n
tree_by_table s c R f old n e =
    let is = complete s c R f in
    rw is (go (ltb (length old / 30) (length (contents_of c))) (rw is at e))
  where
    go :
        (b : Bool) → let t = pick b (refused TableTooShort 0) (found (picture_rows (contents_of c))) in table_answer t ≡ Ok n →
        ByTable s (table_after t old) n
    go true i = absurd cc
    go false i =
        let j : length (picture_rows (contents_of c)) ≡ n = cc in
        rw (← j) (table_tells s _ c (complete s c R f) (file_lies s c R f))

-- For any bytes: what is accepted is a chunk tree.
pub by_table :
    (s : List ℕ) → Bytes s → (old : List ℕ) (n : ℕ) → table_answer (table_of s (length old)) ≡ Ok n →
    ByTable s (table_after (table_of s (length old)) old) n
by_table s b old n e = go (read_file s) refl e
  where
    go :
        (f : Found Chunk) → read_file s ≡ f → table_answer (rows_for (length old) f) ≡ Ok n →
        ByTable s (table_after (table_of s (length old)) old) n
    go (found c) f i = let g = sound s b c f in tree_by_table s c g.0 g.1 old n e
    go (refused k p) f i = absurd cc

-- The same by the rows.
pub rows_by_table :
    (s : List ℕ) → Bytes s → (old : List ℕ) (rs : List PictureRow) → table_of s (length old) ≡ found rs →
    ByTable s (table_after (found rs) old) (length rs)
rows_by_table s b old rs e = rw e at (by_table s b old (length rs) (ap table_answer e))

-- And for a file that is refused.
pub refused_both : (s : List ℕ) (k : Reason) (p : ℕ) → read_file s ≡ refused k p → RefusedBoth s k p
refused_both s k p e =
    record {
      tables = λ room. ap (rows_for room) e;
      views = λ i. ap (λ (f : Found Chunk). view_in f i) e;
    }
