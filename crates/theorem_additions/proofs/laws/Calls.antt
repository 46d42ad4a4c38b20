-- No call looks at the place of a chunk but to tell it, so where the contents of all pictures are the same but for their places, every call
-- answers the same but for them.
use Prim.Native.Nat.{ℕ, zero, suc, ◌+◌, ◌-◌, ◌/◌}
use Rattle.std.specs.Prelude.{◌≡◌, Bool, ltb, length, Result, Ok, Err}
use Rattle.std.proofs.Math.Path.{refl, ap, ap₂}
use Rattle.std.proofs.Common.{sym, ◌∙◌, arith, ne_eqb}
use Rattle.std.proofs.Math.Bool.{true, false}
use mathlib.Core.List.{List, [], ◌∷◌}
use Rattle.iff_name.specs.Name.{pick}
use Rattle.iff_chunk.specs.Chunks.{Chunk}
use Rattle.iff_tree.specs.Judge.{Found, found, read_file, refused}
use Rattle.ilbm_spec.specs.Names.{ILBM}
use Rattle.ilbm_spec.specs.Contents.{Located, Property, own, shared, absent, Content, contents_of, moved_located, moved_property}
use Rattle.ilbm_spec.specs.Contents.{moved_bodies, moved_content}
use Rattle.ilbm_spec.specs.Pictures.{data_of, counts, wrong_size, picture_refusal, Viewed, passing, judged, pick_content, view_in, view_of}
use Rattle.ilbm_spec.specs.Pictures.{origin_of, picture_from, picture_answer, palette_of_property}
use Rattle.ilbm_spec.specs.Palette.{answer_in, extent_of, extent_from, extent_in}
use Rattle.ilbm_spec.specs.Rows.{Read, on_body, ask_body, line_of, frame_of}
use Rattle.ilbm_spec.specs.Shapes.{Shaped, shape_line_of, shape_frame_of}
use Rattle.ilbm_spec.specs.Colours.{colour_line_of, colour_frame_of}
use Rattle.ilbm_spec.specs.Triples.{triples_in}
use Rattle.ilbm_spec.specs.Moved.{map_contents}
use Rattle.ilbm_spec.specs.Table.{property_row, body_row, PictureRow, row_with, without_parts, shown_parts, picture_row, picture_rows}
use Rattle.ilbm_spec.specs.Table.{rows_for, table_of, table_answer}
use Rattle.theorem_additions.specs.Statement.{moved_view, moved_origin, moved_answer, moved_extent, moved_property_row, moved_body_row}
use Rattle.theorem_additions.specs.Statement.{moved_row, moved_rows, moved_table, line_told, frame_told, shape_line_told, shape_frame_told}
use Rattle.theorem_additions.specs.Statement.{SameAnswers}
use Rattle.iff_refusal.specs.declared.Reason.TheVariants.{TableTooShort}
use Rattle.iff_refusal.specs.declared.Reason.{Reason}
use Rattle.iff_refusal.specs.Numbers.{number_of, number_unless}

module _ (move : ℕ → ℕ) where
  counts_moved : (q : Property) → counts (moved_property move q) ≡ counts q
  counts_moved (own d) = refl
  counts_moved (shared p d) = refl
  counts_moved absent = refl

  data_moved : (q : Property) → data_of (moved_property move q) ≡ data_of q
  data_moved (own d) = refl
  data_moved (shared p d) = refl
  data_moved absent = refl

  origin_moved : (q : Property) → origin_of (moved_property move q) ≡ moved_origin move (origin_of q)
  origin_moved (own x) = refl
  origin_moved (shared p x) = refl
  origin_moved absent = refl

  count_moved : (xs : List Located) → length (moved_bodies move xs) ≡ length xs
  unfolding moved_bodies
  count_moved [] = refl
  count_moved (x ∷ xs) = ap suc (count_moved xs)

  refusal_moved : (c : Content) → picture_refusal (moved_content move c) ≡ picture_refusal c
  unfolding picture_refusal wrong_size
  refusal_moved c = rw (count_moved c.bodies) (simp (counts_moved, data_moved))

  judged_moved : (c : Content) → judged (moved_content move c) ≡ moved_view move (judged c)
  judged_moved c = rw (refusal_moved c) (go (picture_refusal c))
    where
      go : (r : Result (Unit {0}) Reason) → passing r (found (moved_content move c)) ≡ moved_view move (passing r (found c))
      go (Ok u) = refl
      go (Err k) = refl

  pick_moved : (cs : List Content) (i : ℕ) → pick_content (map_contents move cs) i ≡ moved_view move (pick_content cs i)
  unfolding pick_content
  pick_moved [] i = refl
  pick_moved (c ∷ cs) zero = judged_moved c
  pick_moved (c ∷ cs) (suc i) = pick_moved cs i

  palette_from : (q : Property) (default : List ℕ) → palette_of_property (moved_property move q) default ≡ palette_of_property q default
  palette_from (own d) default = refl
  palette_from (shared p d) default = refl
  palette_from absent default = refl

  palette_moved : (v : Viewed) (default : List ℕ) → answer_in (moved_view move v) default ≡ answer_in v default
  palette_moved (found c) default = rw (palette_from c.cmap default)
  palette_moved (refused k p) default = refl

  picture_moved : (v : Viewed) → picture_answer (moved_view move v) ≡ moved_answer move (picture_answer v)
  unfolding picture_from
  picture_moved (found c) = simp (data_moved, origin_moved)
  picture_moved (refused k p) = refl

  located_moved : (x : Located) → extent_of (moved_located move x) ≡ moved_extent move (extent_of x)
  located_moved x =
      let one : x.place + 8 - 8 ≡ x.place = omega arith in
      let two : x.place + 8 + length x.content - (x.place + 8) ≡ length x.content = omega arith in
      rw (ne_eqb (x.place + 8) 0 (λ e. omega arith), one, two)

  extent_from_lem : (q : Property) → extent_from (moved_property move q) ≡ moved_extent move (extent_from q)
  extent_from_lem (own x) = located_moved x
  extent_from_lem (shared p x) = located_moved x
  extent_from_lem absent = refl

  extent_moved : (v : Viewed) → extent_in (moved_view move v) ≡ moved_extent move (extent_in v)
  extent_moved (found c) = extent_from_lem c.cmap
  extent_moved (refused k p) = refl

  triples_moved : (v : Viewed) (default : List ℕ) → triples_in (moved_view move v) default ≡ triples_in v default
  triples_moved (found c) default = rw (data_moved c.bmhd, data_moved c.camg, palette_from c.cmap default)
  triples_moved (refused k p) default = refl

  on_moved :
      {A : Type 0} (bs : List Located) (rows moved : List ℕ → Read A) → ((body : List ℕ) → moved body ≡ rows body) →
      on_body (moved_bodies move bs) moved ≡ on_body bs rows
  unfolding moved_bodies
  on_moved [] rows moved e = refl
  on_moved (b ∷ bs) rows moved e = e b.content

  -- rows that look at no place
  abbrev Unmoved : {A : Type 0} → (Content → List ℕ → Read A) → Type 0
  Unmoved rows = (c : Content) (body : List ℕ) → rows (moved_content move c) body ≡ rows c body

  rows_moved :
      {A : Type 0} (v : Viewed) (rows : Content → List ℕ → Read A) → Unmoved rows → ask_body (moved_view move v) rows ≡ ask_body v rows
  rows_moved (found c) rows e = on_moved c.bodies (rows c) (rows (moved_content move c)) (e c)
  rows_moved (refused k p) rows e = refl

  -- the row of a picture: each part is where its chunk is
  property_row_lem : (q : Property) → property_row (moved_property move q) ≡ moved_property_row move (property_row q)
  property_row_lem (own x) = λ i. record { origin = 1; shared = 0; from = (located_moved x i).from; to = (located_moved x i).to }
  property_row_lem (shared p x) = λ i. record { origin = 2; shared = move p; from = (located_moved x i).from; to = (located_moved x i).to }
  property_row_lem absent = refl

  body_row_lem : (bs : List Located) → body_row (moved_bodies move bs) ≡ moved_body_row move (body_row bs)
  unfolding moved_bodies
  body_row_lem [] = refl
  body_row_lem (x ∷ xs) = λ i. record { there = 1; from = (located_moved x i).from; to = (located_moved x i).to }

  row_with_lem : (k : ℕ) (c : Content) → row_with k (moved_content move c) ≡ moved_row move (row_with k c)
  row_with_lem k c i =
      record {
        answer = k;
        place = move c.place;
        form_type = ILBM;
        bmhd = property_row_lem c.bmhd i;
        cmap = property_row_lem c.cmap i;
        grab = property_row_lem c.grab i;
        dest = property_row_lem c.dest i;
        sprt = property_row_lem c.sprt i;
        camg = property_row_lem c.camg i;
        body = body_row_lem c.bodies i;
      }

  row_moved : (c : Content) → picture_row (moved_content move c) ≡ moved_row move (picture_row c)
  unfolding picture_row moved_bodies
  row_moved c = rw (refusal_moved c) (go (picture_refusal c))
    where
      go :
          (r : Result (Unit {0}) Reason) → row_with (number_unless r) (shown_parts r (moved_content move c))
          ≡ moved_row move (row_with (number_unless r) (shown_parts r c))
      go (Ok u) = row_with_lem 0 c
      go (Err k) = row_with_lem (number_of k) (without_parts c)

  table_rows : (cs : List Content) → picture_rows (map_contents move cs) ≡ moved_rows move (picture_rows cs)
  unfolding picture_rows
  table_rows [] = refl
  table_rows (c ∷ cs) = ap₂ (λ (r : PictureRow) (rs : List PictureRow). r ∷ rs) (row_moved c) (table_rows cs)

  as_many : (cs : List Content) → length (map_contents move cs) ≡ length cs
  as_many [] = refl
  as_many (c ∷ cs) = ap suc (as_many cs)

  table_moved :
      (room : ℕ) (c c' : Chunk) → contents_of c' ≡ map_contents move (contents_of c) →
      rows_for room (found c') ≡ moved_table move (rows_for room (found c))
  table_moved room c c' e =
      rw (e, as_many (contents_of c), table_rows (contents_of c)) (go (ltb (room / 30) (length (contents_of c))))
    where
      go :
          (b : Bool) → pick b (refused TableTooShort 0) (found (moved_rows move (picture_rows (contents_of c))))
          ≡ moved_table move (pick b (refused TableTooShort 0) (found (picture_rows (contents_of c))))
      go true = refl
      go false = refl

  answer_moved : (t : Found (List PictureRow)) → table_answer (moved_table move t) ≡ table_answer t
  answer_moved (found rs) = ap Ok (go rs)
    where
      go : (rs : List PictureRow) → length (moved_rows move rs) ≡ length rs
      go [] = refl
      go (r ∷ rs) = ap suc (go rs)
  answer_moved (refused k p) = refl

  pub same_answers : (f g : List ℕ) (c c' : Chunk) → read_file f ≡ found c → read_file g ≡ found c'
      → contents_of c' ≡ map_contents move (contents_of c) → SameAnswers f g move
  same_answers f g c c' ef eg e = record {
    views = view;
    pictures = λ i. ap picture_answer (view i) ∙ picture_moved (view_of f i);
    palettes = λ i default. ap (λ (v : Viewed). answer_in v default) (view i) ∙ palette_moved (view_of f i) default;
    extents = λ i. ap extent_in (view i) ∙ extent_moved (view_of f i);
    lines = λ i start row. ap (λ (x : Read (List ℕ)). line_told x row) (line i start (length row));
    frames = λ i frame. ap (λ (x : Read (List ℕ)). frame_told x frame) (whole i (length frame));
    shape_lines = λ i start row shape. ap (λ (x : Read Shaped). shape_line_told x row shape) (shape_line i start (length row) (length shape));
    shape_frames = λ i frame shape. ap (λ (x : Read Shaped). shape_frame_told x frame shape) (shape-whole i (length frame) (length shape));
    colour_lines = λ i default start row. ap (λ (x : Read (List ℕ)). line_told x row) (colour_line i default start (length row));
    colour_frames = λ i default frame. ap (λ (x : Read (List ℕ)). frame_told x frame) (colour-whole i default (length frame));
    triples = λ i default. ap (λ (v : Viewed). triples_in v default) (view i) ∙ triples_moved (view_of f i) default;
    tables = table;
    table_answers = λ room. ap table_answer (table room) ∙ answer_moved (table_of f room);
  }
    where
      view : (i : ℕ) → view_of g i ≡ moved_view move (view_of f i)
      view i =
          ap (λ (r : Found Chunk). view_in r i) eg
          ∙ ap (λ (l : List Content). pick_content l i) e
          ∙ pick_moved (contents_of c) i
          ∙ ap (λ (r : Found Chunk). moved_view move (view_in r i)) (sym ef)

      asked :
          {A : Type 0} (rows : Content → List ℕ → Read A) → Unmoved rows → (i : ℕ) → ask_body (view_of g i) rows ≡ ask_body (view_of f i) rows
      asked rows e i = ap (λ (v : Viewed). ask_body v rows) (view i) ∙ rows_moved (view_of f i) rows e

      line : (i start room : ℕ) → line_of g i start room ≡ line_of f i start room
      line i start room = asked _ (λ c body. rw (data_moved c.bmhd)) i

      whole : (i room : ℕ) → frame_of g i room ≡ frame_of f i room
      whole i room = asked _ (λ c body. rw (data_moved c.bmhd)) i

      shape_line : (i start room shapeRoom : ℕ) → shape_line_of g i start room shapeRoom ≡ shape_line_of f i start room shapeRoom
      shape_line i start room shapeRoom = asked _ (λ c body. rw (data_moved c.bmhd)) i

      shape-whole : (i room shapeRoom : ℕ) → shape_frame_of g i room shapeRoom ≡ shape_frame_of f i room shapeRoom
      shape-whole i room shapeRoom = asked _ (λ c body. rw (data_moved c.bmhd)) i

      colour_line : (i : ℕ) (default : List ℕ) (start room : ℕ) → colour_line_of g i default start room ≡ colour_line_of f i default start room
      colour_line i default start room =
          asked _ (λ c body. rw (data_moved c.bmhd, data_moved c.camg, palette_from c.cmap default)) i

      colour-whole : (i : ℕ) (default : List ℕ) (room : ℕ) → colour_frame_of g i default room ≡ colour_frame_of f i default room
      colour-whole i default room =
          asked _ (λ c body. rw (data_moved c.bmhd, data_moved c.camg, palette_from c.cmap default)) i

      table : (room : ℕ) → table_of g room ≡ moved_table move (table_of f room)
      table room = ap (rows_for room) eg ∙ table_moved room c c' e ∙ ap (λ (r : Found Chunk). moved_table move (rows_for room r)) (sym ef)
