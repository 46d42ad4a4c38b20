-- Demand 3, as one claim about a file and a whole list of additions.
use Rattle.std.specs.Prelude.{ℕ, ◌+◌, ◌-◌, ◌≡◌, true, List, [], ◌∷◌, eqb, length, replicate, Some, Ok, Err}
use Rattle.iff_name.specs.Name.{pick, version_name}
use Rattle.iff_chunk.specs.Chunks.{Chunk}
use Rattle.iff_tree.specs.Judge.{Found, found, read_file, check_of, refused}
use Rattle.iff_grammar.specs.Words.{Bytes}
use Rattle.iff_grammar.specs.Grammar.{member}
use Rattle.ilbm_spec.specs.declared.Origin.{Origin}
use Rattle.ilbm_spec.specs.declared.Origin.TheVariants.{Own, Shared, Absent}
use Rattle.ilbm_spec.specs.declared.Picture.{Picture}
use Rattle.ilbm_spec.specs.Contents.{moved_content}
use Rattle.ilbm_spec.specs.Pictures.{Viewed, view_of, picture_of}
use Rattle.ilbm_spec.specs.Palette.{palette_answer, Extent, palette_extent}
use Rattle.ilbm_spec.specs.Rows.{Read, line_of, frame_of, line_answer, frame_answer, bytes_after}
use Rattle.ilbm_spec.specs.Shapes.{Shaped, shape_line_of, shape_frame_of, colours_after, shape_after}
use Rattle.ilbm_spec.specs.Colours.{colour_line_of, colour_frame_of}
use Rattle.ilbm_spec.specs.Triples.{triples_of}
use Rattle.ilbm_spec.specs.Table.{PropertyRow, BodyRow, PictureRow, table_of, table_answer, table_after}
use Rattle.theorem_additions.specs.Additions.{Addition, tree_after, file_after, MayAddAll, moved_by, added_headers, Renaming, renamed}
use Rattle.theorem_additions.specs.Additions.{lowest}
use Rattle.iff_refusal.specs.declared.Reason.TheVariants.{VersionName}
use Rattle.iff_refusal.specs.Numbers.{Answer, refusal, refusing}

-- a picture as before, the places of its chunks moved; a refusal as before, with its place
abbrev pub moved_view : (ℕ → ℕ) → Viewed → Viewed
moved_view f (found c) = found (moved_content f c)
moved_view f (refused k p) = refused k p

-- the properties as before, the places of the PROPs that are told moved
abbrev pub moved_origin : (ℕ → ℕ) → Origin → Origin
moved_origin f Own = Own
moved_origin f (Shared p) = Shared (f p)
moved_origin f Absent = Absent

abbrev pub moved_picture : (ℕ → ℕ) → Picture → Picture
moved_picture f x =
    record {
      header = x.header;
      header_from = moved_origin f x.header_from;
      palette_from = moved_origin f x.palette_from;
      grab = x.grab;
      grab_from = moved_origin f x.grab_from;
      destination = x.destination;
      destination_from = moved_origin f x.destination_from;
      sprite = x.sprite;
      sprite_from = moved_origin f x.sprite_from;
      view_mode = x.view_mode;
      view_mode_from = moved_origin f x.view_mode_from;
    }

abbrev pub moved_answer : (ℕ → ℕ) → Answer Picture → Answer Picture
moved_answer f (Ok x) = Ok (moved_picture f x)
moved_answer f (Err r) = Err r

-- where the data of a chunk lies, as the palette's extent tells it: the chunk, whose header stands 8 before, moved; 0 and 0 as before
abbrev pub moved_extent : (ℕ → ℕ) → Extent → Extent
moved_extent f e = pick (eqb e.from 0) e (record { from = f (e.from - 8) + 8; to = f (e.from - 8) + 8 + (e.to - e.from) })

-- A row of the table of pictures: answer, type, origins and the mark of a BODY as before; moved are the FORM's place, the place of a PROP
-- where the origin is 2, and with each chunk where its data lies.
abbrev pub moved_property_row : (ℕ → ℕ) → PropertyRow → PropertyRow
moved_property_row f q =
    let e : Extent = moved_extent f (record { from = q.from; to = q.to }) in
    record { origin = q.origin; shared = pick (eqb q.origin 2) (f q.shared) q.shared; from = e.from; to = e.to }

abbrev pub moved_body_row : (ℕ → ℕ) → BodyRow → BodyRow
moved_body_row f b =
    let e : Extent = moved_extent f (record { from = b.from; to = b.to }) in record { there = b.there; from = e.from; to = e.to }

abbrev pub moved_row : (ℕ → ℕ) → PictureRow → PictureRow
moved_row f r =
    record {
      answer = r.answer;
      place = f r.place;
      form_type = r.form_type;
      bmhd = moved_property_row f r.bmhd;
      cmap = moved_property_row f r.cmap;
      grab = moved_property_row f r.grab;
      dest = moved_property_row f r.dest;
      sprt = moved_property_row f r.sprt;
      camg = moved_property_row f r.camg;
      body = moved_body_row f r.body;
    }

-- each row of a table moved, as many as before; a refusal as before, with its place
abbrev pub moved_rows : (ℕ → ℕ) → List PictureRow → List PictureRow
moved_rows f [] = []
moved_rows f (r ∷ rs) = moved_row f r ∷ moved_rows f rs

abbrev pub moved_table : (ℕ → ℕ) → Found (List PictureRow) → Found (List PictureRow)
moved_table f (found rs) = found (moved_rows f rs)
moved_table f (refused k p) = refused k p

-- What a call tells of this, and what it leaves in the lent row, frame or table, or in the two of a call that gives the shape.
abbrev pub line_told : Read (List ℕ) → List ℕ → Answer ℕ × List ℕ
line_told x row = (line_answer x, bytes_after x row)

abbrev pub frame_told : Read (List ℕ) → List ℕ → Answer ℕ × List ℕ
frame_told x frame = (frame_answer x, bytes_after x frame)

abbrev pub shape_line_told : Read Shaped → List ℕ → List ℕ → Answer ℕ × List ℕ × List ℕ
shape_line_told x row shape = (line_answer x, colours_after x row, shape_after x shape)

abbrev pub shape_frame_told : Read Shaped → List ℕ → List ℕ → Answer ℕ × List ℕ × List ℕ
shape_frame_told x frame shape = (frame_answer x, colours_after x frame, shape_after x shape)

abbrev pub table_told : Found (List PictureRow) → List ℕ → Answer ℕ × List ℕ
table_told x table = (table_answer x, table_after x table)

-- The calls.
abbrev pub line_call : List ℕ → ℕ → ℕ → List ℕ → Answer ℕ × List ℕ
line_call s i start row = line_told (line_of s i start (length row)) row

abbrev pub frame_call : List ℕ → ℕ → List ℕ → Answer ℕ × List ℕ
frame_call s i frame = frame_told (frame_of s i (length frame)) frame

abbrev pub shape_line_call : List ℕ → ℕ → ℕ → List ℕ → List ℕ → Answer ℕ × List ℕ × List ℕ
shape_line_call s i start row shape = shape_line_told (shape_line_of s i start (length row) (length shape)) row shape

abbrev pub shape_frame_call : List ℕ → ℕ → List ℕ → List ℕ → Answer ℕ × List ℕ × List ℕ
shape_frame_call s i frame shape = shape_frame_told (shape_frame_of s i (length frame) (length shape)) frame shape

-- in colours, with the caller's default palette
abbrev pub colour_line_call : List ℕ → ℕ → List ℕ → ℕ → List ℕ → Answer ℕ × List ℕ
colour_line_call s i default start row = line_told (colour_line_of s i default start (length row)) row

abbrev pub colour_frame_call : List ℕ → ℕ → List ℕ → List ℕ → Answer ℕ × List ℕ
colour_frame_call s i default frame = frame_told (colour_frame_of s i default (length frame)) frame

abbrev pub table_call : List ℕ → List ℕ → Answer ℕ × List ℕ
table_call s table = table_told (table_of s (length table)) table

-- Every call on every picture answers as before. What any call is made from, `view_of`, is the same but for the places of its chunks; and
-- so are properties with origins, the palette and where it lies, a scan line from any place and the frame, into any lent row or frame,
-- with their shapes into any two, and in colours with any default palette; the palette's triples; refusals with their places. The table of
-- pictures has as many rows, or is refused, as before, for any room; every place that it tells moves by the bytes put before it, and
-- nothing else.
pub record SameAnswers (f g : List ℕ) (move : ℕ → ℕ) : Type 0 where
  pub views : (i : ℕ) → view_of g i ≡ moved_view move (view_of f i)
  pub pictures : (i : ℕ) → picture_of g i ≡ moved_answer move (picture_of f i)
  pub palettes : (i : ℕ) (default : List ℕ) → palette_answer g i default ≡ palette_answer f i default
  pub extents : (i : ℕ) → palette_extent g i ≡ moved_extent move (palette_extent f i)
  pub lines : (i start : ℕ) (row : List ℕ) → line_call g i start row ≡ line_call f i start row
  pub frames : (i : ℕ) (frame : List ℕ) → frame_call g i frame ≡ frame_call f i frame
  pub shape_lines : (i start : ℕ) (row shape : List ℕ) → shape_line_call g i start row shape ≡ shape_line_call f i start row shape
  pub shape_frames : (i : ℕ) (frame shape : List ℕ) → shape_frame_call g i frame shape ≡ shape_frame_call f i frame shape
  pub colour_lines :
      (i : ℕ) (default : List ℕ) (start : ℕ) (row : List ℕ) → colour_line_call g i default start row ≡ colour_line_call f i default start row
  pub colour_frames : (i : ℕ) (default frame : List ℕ) → colour_frame_call g i default frame ≡ colour_frame_call f i default frame
  pub triples : (i : ℕ) (default : List ℕ) → triples_of g i default ≡ triples_of f i default
  pub tables : (room : ℕ) → table_of g room ≡ moved_table move (table_of f room)
  pub table_answers : (room : ℕ) → table_answer (table_of g room) ≡ table_answer (table_of f room)

-- Every call gives refusal 3 at p, and leaves what was lent; the triples are all 0.
pub record AllRefused (g : List ℕ) (p : ℕ) : Type 0 where
  pub check : check_of g ≡ refusing VersionName p
  pub views : (i : ℕ) → view_of g i ≡ refused VersionName p
  pub pictures : (i : ℕ) → picture_of g i ≡ refusing VersionName p
  pub palettes : (i : ℕ) (default : List ℕ) → palette_answer g i default ≡ record { refusal = Some (refusal VersionName p); colours = [] }
  pub extents : (i : ℕ) → palette_extent g i ≡ record { from = 0; to = 0 }
  pub lines : (i start : ℕ) (row : List ℕ) → line_call g i start row ≡ (refusing VersionName p, row)
  pub frames : (i : ℕ) (frame : List ℕ) → frame_call g i frame ≡ (refusing VersionName p, frame)
  pub shape_lines : (i start : ℕ) (row shape : List ℕ) → shape_line_call g i start row shape ≡ (refusing VersionName p, row, shape)
  pub shape_frames : (i : ℕ) (frame shape : List ℕ) → shape_frame_call g i frame shape ≡ (refusing VersionName p, frame, shape)
  pub colour_lines :
      (i : ℕ) (default : List ℕ) (start : ℕ) (row : List ℕ) → colour_line_call g i default start row ≡ (refusing VersionName p, row)
  pub colour_frames : (i : ℕ) (default frame : List ℕ) → colour_frame_call g i default frame ≡ (refusing VersionName p, frame)
  pub triples :
      (i : ℕ) (default : List ℕ) →
      triples_of g i default ≡ record { refusal = Some (refusal VersionName p); triples = replicate 64 (0 ∷ 0 ∷ 0 ∷ []) }
  pub tables : (table : List ℕ) → table_call g table ≡ (refusing VersionName p, table)

-- the renamings put version names over added headers
abbrev pub OverAdded : List Renaming → List ℕ → Type 0
OverAdded [] hs = Unit {0}
OverAdded (r ∷ rs) hs = (version_name r.name ≡ true) × (member r.place hs ≡ true) × OverAdded rs hs

-- What demand 3 says of an accepted file f with the tree c, and a list of additions that may be made in it.
pub record Unchanged (f : List ℕ) (c : Chunk) (adds : List Addition) : Type 0 where
  pub accepted : read_file (file_after adds c f) ≡ found (tree_after adds c)
  pub answers : SameAnswers f (file_after adds c f) (moved_by adds c)
  pub renaming :
      (r : Renaming) (rs : List Renaming) → OverAdded (r ∷ rs) (added_headers adds c) →
      AllRefused (renamed (r ∷ rs) (file_after adds c f)) (lowest r.place rs)

abbrev pub Demand3 : Type 0
Demand3 = (f : List ℕ) → Bytes f → (c : Chunk) → read_file f ≡ found c → (adds : List Addition) → MayAddAll adds c f → Unchanged f c adds
