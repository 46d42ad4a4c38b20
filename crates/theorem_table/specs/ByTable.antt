-- What a caller does with the table of a file's pictures: it reads a row, and with it the parts of the file that the row tells.
use Rattle.std.specs.Prelude.{ℕ, ◌+◌, ◌-◌, ◌*◌, ◌<◌, ◌≤◌, ◌≡◌, List, [], ◌∷◌, eqb, length, get_or, replicate, Ok, Some, None}
use Rattle.std.proofs.Math.Seq.{slice}
use Rattle.iff_name.specs.Name.{pick}
use Rattle.iff_chunk.specs.Chunks.{word}
use Rattle.iff_tree.specs.Judge.{found, refused}
use Rattle.ilbm_spec.specs.declared.Origin.{Origin}
use Rattle.ilbm_spec.specs.declared.Origin.TheVariants.{Own, Shared, Absent}
use Rattle.ilbm_spec.specs.declared.BitmapHeader.{BitmapHeader}
use Rattle.ilbm_spec.specs.declared.Picture.{Picture}
use Rattle.ilbm_spec.specs.Contents.{Located, located, Property, own, shared, absent, Content}
use Rattle.ilbm_spec.specs.Pictures.{u16, header_in, hot_spot_in, destination_in, Viewed, view_of, picture_of}
use Rattle.ilbm_spec.specs.Palette.{Palette, palette_answer, Extent, palette_extent}
use Rattle.ilbm_spec.specs.Rows.{Read, line_in_body, frame_in_body, line_of, frame_of}
use Rattle.ilbm_spec.specs.Shapes.{Shaped, shape_line_in_body, shape_frame_in_body, shape_line_of, shape_frame_of}
use Rattle.ilbm_spec.specs.Colours.{colour_line_in_body, colour_frame_in_body, colour_line_of, colour_frame_of}
use Rattle.ilbm_spec.specs.Triples.{triples_by, Triples, triples_of}
use Rattle.ilbm_spec.specs.Table.{PropertyRow, BodyRow, PictureRow, table_of}
use Rattle.iff_refusal.specs.declared.Reason.TheVariants.{NoPicture, NoBody}
use Rattle.iff_refusal.specs.declared.Reason.{Reason}
use Rattle.iff_refusal.specs.Numbers.{Answer, refusal, refusing, refusal_in, number_in, reason_of}

-- A property's four numbers, from the k-th of a row on.
abbrev pub property_in : (ℕ → ℕ) → ℕ → PropertyRow
property_in number k = record { origin = number k; shared = number (k + 1); from = number (k + 2); to = number (k + 3) }

-- The row of these 30 numbers.
abbrev pub row_in : (ℕ → ℕ) → PictureRow
row_in number =
    record {
      answer = number 0;
      place = number 1;
      form_type = number 2;
      bmhd = property_in number 3;
      cmap = property_in number 7;
      grab = property_in number 11;
      dest = property_in number 15;
      sprt = property_in number 19;
      camg = property_in number 23;
      body = record { there = number 27; from = number 28; to = number 29 };
    }

-- Row i of a table: its numbers from 30 i on.
abbrev pub row_at : List ℕ → ℕ → PictureRow
row_at table i = row_in (λ k. get_or table (30 * i + k) 0)

-- a property's data in the file, which is empty for an absent one, and the BODY's
abbrev pub data_by : List ℕ → PropertyRow → List ℕ
data_by s q = slice q.from q.to s

abbrev pub body_by : List ℕ → PictureRow → List ℕ
body_by s r = slice r.body.from r.body.to s

-- The header.
abbrev pub header_by : List ℕ → PictureRow → BitmapHeader
header_by s r = header_in (data_by s r.bmhd)

-- The number that CAMG holds, 0 where none counts.
abbrev pub mode_by : List ℕ → PictureRow → ℕ
mode_by s r = word (data_by s r.camg) 0

-- The colours of the palette: the CMAP's part of the file, or the caller's default where its origin is 0.
abbrev pub colours_by : List ℕ → PictureRow → List ℕ → List ℕ
colours_by s r default = pick (eqb r.cmap.origin 0) default (data_by s r.cmap)

-- what is told by a row, or its refusal
abbrev pub unless_refused : {A : Type 0} → PictureRow → A → (Reason → ℕ → A) → A
unless_refused r shown refused_by = pick (eqb r.answer 0) shown (refused_by (reason_of r.answer) 0)

-- the origin that a property's first two numbers tell
abbrev pub origin_by : PropertyRow → Origin
origin_by q = pick (eqb q.origin 1) Own (pick (eqb q.origin 2) (Shared q.shared) Absent)

-- The properties with their origins.
abbrev pub picture_by : List ℕ → PictureRow → Picture
picture_by s r =
    record {
      header = header_by s r;
      header_from = origin_by r.bmhd;
      palette_from = origin_by r.cmap;
      grab = hot_spot_in (data_by s r.grab);
      grab_from = origin_by r.grab;
      destination = destination_in (data_by s r.dest);
      destination_from = origin_by r.dest;
      sprite = u16 (data_by s r.sprt) 0;
      sprite_from = origin_by r.sprt;
      view_mode = mode_by s r;
      view_mode_from = origin_by r.camg;
    }

abbrev pub properties_by : List ℕ → PictureRow → Answer Picture
properties_by s r = unless_refused r (Ok (picture_by s r)) refusing

-- The palette, where it lies, and its triples.
abbrev pub palette_by : List ℕ → PictureRow → List ℕ → Palette
palette_by s r default =
    unless_refused r (record { refusal = None; colours = colours_by s r default })
    (λ k p. record { refusal = Some (refusal k p); colours = [] })

abbrev pub extent_by : PictureRow → Extent
extent_by r = record { from = r.cmap.from; to = r.cmap.to }

abbrev pub palette_triples_by : List ℕ → PictureRow → List ℕ → Triples
palette_triples_by s r default =
    unless_refused r
    (record { refusal = None; triples = triples_by (mode_by s r) (header_by s r).planes (colours_by s r default) })
    (λ k p. record { refusal = Some (refusal k p); triples = replicate 64 (0 ∷ 0 ∷ 0 ∷ []) })

-- Rows: the row's refusal, 25 with no BODY, and otherwise what is read of the BODY's part of the file by the header's fields.
abbrev pub rows_by : {A : Type 0} → PictureRow → Read A → Read A
rows_by r rows = unless_refused r (pick (eqb r.body.there 0) (refused NoBody 0) rows) refused

abbrev pub scan_line_by : List ℕ → PictureRow → ℕ → ℕ → Read (List ℕ)
scan_line_by s r start room =
    let b : BitmapHeader = header_by s r in
    rows_by r (line_in_body (body_by s r) b.w b.planes b.masking b.compression start room)

abbrev pub frame_by : List ℕ → PictureRow → ℕ → Read (List ℕ)
frame_by s r room =
    let b : BitmapHeader = header_by s r in
    rows_by r (frame_in_body (body_by s r) b.w b.h b.planes b.masking b.compression room)

-- The same with the shape.
abbrev pub shape_line_by : List ℕ → PictureRow → ℕ → ℕ → ℕ → Read Shaped
shape_line_by s r start room shapeRoom =
    let b : BitmapHeader = header_by s r in
    rows_by r
    (shape_line_in_body (body_by s r) b.w b.planes b.masking b.compression b.transparent start room shapeRoom)

abbrev pub shape_frame_by : List ℕ → PictureRow → ℕ → ℕ → Read Shaped
shape_frame_by s r room shapeRoom =
    let b : BitmapHeader = header_by s r in
    rows_by r
    (shape_frame_in_body (body_by s r) b.w b.h b.planes b.masking b.compression b.transparent room shapeRoom)

-- The same in colours.
abbrev pub colour_line_by : List ℕ → PictureRow → List ℕ → ℕ → ℕ → Read (List ℕ)
colour_line_by s r default start room =
    let b : BitmapHeader = header_by s r in
    rows_by r
    (colour_line_in_body (body_by s r) b.w b.planes b.masking b.compression (mode_by s r) (colours_by s r default) start room)

abbrev pub colour_frame_by : List ℕ → PictureRow → List ℕ → ℕ → Read (List ℕ)
colour_frame_by s r default room =
    let b : BitmapHeader = header_by s r in
    rows_by r
    (colour_frame_in_body (body_by s r) b.w b.h b.planes b.masking b.compression (mode_by s r) (colours_by s r default) room)

-- All that the picture's calls look at, found again: each chunk with its place, which is 8 before its data.
abbrev pub chunk_by : List ℕ → ℕ → ℕ → Located
chunk_by s from to = located (from - 8) (slice from to s)

abbrev pub property_by : List ℕ → PropertyRow → Property
property_by s q =
    pick (eqb q.origin 1) (own (chunk_by s q.from q.to))
    (pick (eqb q.origin 2) (shared q.shared (chunk_by s q.from q.to)) absent)

abbrev pub bodies_by : List ℕ → BodyRow → List Located
bodies_by s b = pick (eqb b.there 0) [] (chunk_by s b.from b.to ∷ [])

abbrev pub content_for : List ℕ → PictureRow → Content
content_for s r =
    record {
      place = r.place;
      bmhd = property_by s r.bmhd;
      cmap = property_by s r.cmap;
      grab = property_by s r.grab;
      dest = property_by s r.dest;
      sprt = property_by s r.sprt;
      camg = property_by s r.camg;
      bodies = bodies_by s r.body;
    }

abbrev pub view_by : List ℕ → PictureRow → Viewed
view_by s r = unless_refused r (found (content_for s r)) refused

-- A row's parts lie in the file.
abbrev pub Part : List ℕ → ℕ → ℕ → Type 0
Part s from to = (from ≤ to) × (to ≤ length s)

pub record Parts (s : List ℕ) (r : PictureRow) : Type 0 where
  pub bmhd : Part s r.bmhd.from r.bmhd.to
  pub cmap : Part s r.cmap.from r.cmap.to
  pub grab : Part s r.grab.from r.grab.to
  pub dest : Part s r.dest.from r.dest.to
  pub sprt : Part s r.sprt.from r.sprt.to
  pub camg : Part s r.camg.from r.camg.to
  pub body : Part s r.body.from r.body.to

-- A table that tells so many pictures of the file s gives of each, with the bytes of the file, what the calls by its number tell: all that
-- they look at, and so the properties, the palette, where it lies and its triples; with the calls on a BODY by itself each scan line and
-- the frame, with their shapes too and in colours; each refusal too. There are no more pictures. All parts that it tells lie in the file,
-- and the BMHD of a shown picture has its 20 bytes. The number in a row is that of the picture's refusal, 0 for none.
pub record ByTable (s table : List ℕ) (count : ℕ) : Type 0 where
  pub answers : (i : ℕ) → i < count → (row_at table i).answer ≡ number_in (refusal_in (picture_of s i))
  pub views : (i : ℕ) → i < count → view_by s (row_at table i) ≡ view_of s i
  pub properties : (i : ℕ) → i < count → properties_by s (row_at table i) ≡ picture_of s i
  pub palettes : (i : ℕ) → i < count → (default : List ℕ) → palette_by s (row_at table i) default ≡ palette_answer s i default
  pub extents : (i : ℕ) → i < count → extent_by (row_at table i) ≡ palette_extent s i
  pub lines : (i : ℕ) → i < count → (start room : ℕ) → scan_line_by s (row_at table i) start room ≡ line_of s i start room
  pub frames : (i : ℕ) → i < count → (room : ℕ) → frame_by s (row_at table i) room ≡ frame_of s i room
  pub shape_lines :
      (i : ℕ) → i < count → (start room shapeRoom : ℕ) →
      shape_line_by s (row_at table i) start room shapeRoom ≡ shape_line_of s i start room shapeRoom
  pub shape_frames :
      (i : ℕ) → i < count → (room shapeRoom : ℕ) → shape_frame_by s (row_at table i) room shapeRoom ≡ shape_frame_of s i room shapeRoom
  pub colour_lines :
      (i : ℕ) → i < count → (default : List ℕ) (start room : ℕ) →
      colour_line_by s (row_at table i) default start room ≡ colour_line_of s i default start room
  pub colour_frames :
      (i : ℕ) → i < count → (default : List ℕ) (room : ℕ) → colour_frame_by s (row_at table i) default room ≡ colour_frame_of s i default room
  pub triples : (i : ℕ) → i < count → (default : List ℕ) → palette_triples_by s (row_at table i) default ≡ triples_of s i default
  pub none : (i : ℕ) → count ≤ i → view_of s i ≡ refused NoPicture 0
  pub parts : (i : ℕ) → i < count → Parts s (row_at table i)
  pub headers : (i : ℕ) → i < count → (row_at table i).answer ≡ 0 → length (data_by s (row_at table i).bmhd) ≡ 20

-- A file that is refused gives its refusal to the table and to each picture asked for by number, and so to each call on it.
pub record RefusedBoth (s : List ℕ) (k : Reason) (p : ℕ) : Type 0 where
  pub tables : (room : ℕ) → table_of s room ≡ refused k p
  pub views : (i : ℕ) → view_of s i ≡ refused k p
