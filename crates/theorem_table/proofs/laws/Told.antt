-- A picture's row and the file give the picture again. Of a refused picture the row has the refusal; of any other the answer 0, its place,
-- and of each property and the BODY where its data lies, which is in the file. There is at most one BODY, whose fields pass for themselves.
use Rattle.std.specs.Prelude.{ℕ, ◌+◌, ◌-◌, ◌≤◌, ◌≡◌, refl, true, false, List, [], ◌∷◌, eqb, length, replicate, Result, Ok, Err, Some, None}
use Rattle.std.proofs.Common.{sym, ap, ◌∙◌, arith, eq-eqb}
use Rattle.iff_name.specs.Name.{pick}
use Rattle.iff_chunk.specs.Chunks.{word}
use Rattle.iff_tree.specs.Judge.{found, refused}
use Rattle.ilbm_spec.specs.declared.BitmapHeader.{BitmapHeader}
use Rattle.ilbm_spec.specs.Contents.{Located, located, Property, own, shared, absent, Content}
use Rattle.ilbm_spec.specs.Pictures.{u16, header_in, hot_spot_in, destination_in, data_of, origin_of, picture_refusal, Viewed, passing, judged, picture_from}
use Rattle.ilbm_spec.specs.Pictures.{picture_answer, palette_of_property}
use Rattle.ilbm_spec.specs.Palette.{Palette, answer_in, extent_in}
use Rattle.ilbm_spec.specs.Rows.{Read, line_in_body, frame_in_body, on_body, ask_body, line_read, frame_read}
use Rattle.ilbm_spec.specs.Shapes.{shape_line_in_body, shape_frame_in_body, shape_line_read, shape_frame_read}
use Rattle.ilbm_spec.specs.Colours.{colour_line_in_body, colour_frame_in_body, colour_line_read, colour_frame_read}
use Rattle.ilbm_spec.specs.Triples.{triples_by, triples_in}
use Rattle.ilbm_spec.specs.Table.{property_row, body_row, PictureRow, row_with, without_parts, shown_parts, picture_row}
use Rattle.ilbm_spec.proofs.laws.Pictures.{header_size, one_body, frame_fields, line_fields}
use Rattle.theorem_table.specs.ByTable.{data_by, body_by, header_by, mode_by, colours_by, unless_refused, origin_by, picture_by}
use Rattle.theorem_table.specs.ByTable.{properties_by, palette_by, extent_by, palette_triples_by, rows_by, scan_line_by, frame_by, shape_line_by}
use Rattle.theorem_table.specs.ByTable.{shape_frame_by, colour_line_by, colour_frame_by, chunk_by, property_by, bodies_by, content_for, view_by}
use Rattle.theorem_table.specs.ByTable.{Part, Parts}
use Rattle.theorem_table.specs.Lies.{Lies, PropertyLies, BodiesLie, ContentLies}
use Rattle.iff_refusal.specs.declared.Reason.TheVariants.{NoBody}
use Rattle.iff_refusal.specs.declared.Reason.{Reason}
use Rattle.iff_refusal.specs.Numbers.{number_of, number_unless, refusal, refusing, refusal_in, number_in}
use Rattle.iff_refusal.specs.laws.Reasons.{found_again, numbered}

-- the row of a picture that is refused, or is not
by_answer :
    {A : Type 0} (c : Content) (shown : PictureRow → A) (refused_by : Reason → ℕ → A) (f : Viewed → A) →
    ((k : Reason) → f (refused k 0) ≡ refused_by k 0) → (picture_refusal c ≡ Ok tt → shown (row_with 0 c) ≡ f (found c)) →
    unless_refused (picture_row c) (shown (picture_row c)) refused_by ≡ f (judged c)
unfolding picture_row
by_answer c shown refused_by f told-refused told = go (picture_refusal c) told
  where
    go :
        (r : Result (Unit {0}) Reason) → (r ≡ Ok tt → shown (row_with 0 c) ≡ f (found c)) →
        let row = row_with (number_unless r) (shown_parts r c) in unless_refused row (shown row) refused_by ≡ f (passing r (found c))
    go (Ok u) i = i refl
    go (Err k) i = rw (numbered k, found_again k, told-refused k)

-- the number in a row is that of the refusal, 0 for none
pub answer_told : (c : Content) → (picture_row c).answer ≡ number_in (refusal_in (picture_answer (judged c)))
unfolding picture_row
answer_told c = go (picture_refusal c)
  where
    go : (r : Result (Unit {0}) Reason) → number_unless r ≡ number_in (refusal_in (picture_answer (passing r (found c))))
    go (Ok u) = refl
    go (Err k) = refl

module _ (s : List ℕ) where
  chunk_told : (x : Located) → Lies s x → chunk_by s (x.place + 8) (x.place + 8 + length x.content) ≡ x
  chunk_told x l =
      let e : x.place + 8 - 8 ≡ x.place = omega arith in
      λ i. located (e i) (l.part i)

  property_told : (q : Property) → PropertyLies s q → property_by s (property_row q) ≡ q
  property_told (own x) l = ap own (chunk_told x l)
  property_told (shared p x) l = ap (shared p) (chunk_told x l)
  property_told absent l = refl

  data_told : (q : Property) → PropertyLies s q → data_by s (property_row q) ≡ data_of q
  data_told (own x) l = l.part
  data_told (shared p x) l = l.part
  data_told absent l = refl

  origin_told : (q : Property) → origin_by (property_row q) ≡ origin_of q
  origin_told (own x) = refl
  origin_told (shared p x) = refl
  origin_told absent = refl

  colours_told :
      (q : Property) → PropertyLies s q → (default : List ℕ) →
      pick (eqb (property_row q).origin 0) default (data_by s (property_row q)) ≡ palette_of_property q default
  colours_told (own x) l default = l.part
  colours_told (shared p x) l default = l.part
  colours_told absent l default = refl

  bodies_told : (bs : List Located) → BodiesLie s bs → length bs ≤ 1 → bodies_by s (body_row bs) ≡ bs
  bodies_told [] l h = refl
  bodies_told (x ∷ []) l h = ap (λ (y : Located). y ∷ []) (chunk_told x l.0)
  bodies_told (x ∷ y ∷ ys) l h = absurd (omega arith)

  -- rows of the BODY, which are refused for the fields by no number
  rows_told :
      {A : Type 0} (bs : List Located) → BodiesLie s bs → (rows in_body : List ℕ → Read A) →
      ((b : Located) (others : List Located) → bs ≡ b ∷ others → in_body b.content ≡ rows b.content) → (r : PictureRow) →
      r.body ≡ body_row bs → pick (eqb r.body.there 0) (refused NoBody 0) (in_body (body_by s r)) ≡ on_body bs rows
  rows_told [] l rows in_body e r i = rw i
  rows_told (x ∷ xs) l rows in_body e r i = rw (i, l.0.part) (e x xs refl)

  part_told : (q : Property) → PropertyLies s q → Part s (property_row q).from (property_row q).to
  part_told (own x) l = (omega arith, l.inside)
  part_told (shared p x) l = (omega arith, l.inside)
  part_told absent l = (omega arith, omega arith)

  body_told : (bs : List Located) → BodiesLie s bs → Part s (body_row bs).from (body_row bs).to
  body_told [] l = (omega arith, omega arith)
  body_told (x ∷ xs) l = (omega arith, l.0.inside)

  parts_with : (k : ℕ) (c : Content) → ContentLies s c → Parts s (row_with k c)
  parts_with k c l =
      record {
        bmhd = part_told c.bmhd l.bmhd;
        cmap = part_told c.cmap l.cmap;
        grab = part_told c.grab l.grab;
        dest = part_told c.dest l.dest;
        sprt = part_told c.sprt l.sprt;
        camg = part_told c.camg l.camg;
        body = body_told c.bodies l.bodies;
      }

  nothing_told : (c : Content) → ContentLies s (without_parts c)
  nothing_told c = record { bmhd = tt; cmap = tt; grab = tt; dest = tt; sprt = tt; camg = tt; bodies = tt }

  module _ (c : Content) (l : ContentLies s c) where
    pub parts_told : Parts s (picture_row c)
    unfolding picture_row
    parts_told = parts_with (number_unless (picture_refusal c)) _ (go (picture_refusal c))
      where
        go : (r : Result (Unit {0}) Reason) → ContentLies s (shown_parts r c)
        go (Ok u) = l
        go (Err k) = nothing_told c

    pub header_told : (picture_row c).answer ≡ 0 → length (data_by s (picture_row c).bmhd) ≡ 20
    unfolding picture_row
    header_told = go (picture_refusal c) (header_size c)
      where
        go :
            (r : Result (Unit {0}) Reason) → (r ≡ Ok tt → length (data_of c.bmhd) ≡ 20) →
            let row = row_with (number_unless r) (shown_parts r c) in row.answer ≡ 0 → length (data_by s row.bmhd) ≡ 20
        go (Ok u) h e = rw (data_told c.bmhd l.bmhd) (h refl)
        go (Err k) h e = absurd (let z : true ≡ false = sym (eq-eqb (number_of k) 0 e) ∙ numbered k in cc)

    pub view_told : view_by s (picture_row c) ≡ judged c
    view_told = by_answer c (λ r. found (content_for s r)) refused (λ v. v) (λ k. refl) (λ e j. found (record {
      place = c.place;
      bmhd = property_told c.bmhd l.bmhd j;
      cmap = property_told c.cmap l.cmap j;
      grab = property_told c.grab l.grab j;
      dest = property_told c.dest l.dest j;
      sprt = property_told c.sprt l.sprt j;
      camg = property_told c.camg l.camg j;
      bodies = bodies_told c.bodies l.bodies (one_body c e) j;
    }))

    pub properties_told : properties_by s (picture_row c) ≡ picture_answer (judged c)
    unfolding picture_from
    properties_told = by_answer c (λ r. Ok (picture_by s r)) refusing picture_answer (λ k. refl) (λ e j. Ok (record {
      header = header_in (data_told c.bmhd l.bmhd j);
      header_from = origin_told c.bmhd j;
      palette_from = origin_told c.cmap j;
      grab = hot_spot_in (data_told c.grab l.grab j);
      grab_from = origin_told c.grab j;
      destination = destination_in (data_told c.dest l.dest j);
      destination_from = origin_told c.dest j;
      sprite = u16 (data_told c.sprt l.sprt j) 0;
      sprite_from = origin_told c.sprt j;
      view_mode = word (data_told c.camg l.camg j) 0;
      view_mode_from = origin_told c.camg j;
    }))

    pub palette_told : (default : List ℕ) → palette_by s (picture_row c) default ≡ answer_in (judged c) default
    palette_told default =
        by_answer {A = Palette} c (λ r. record { refusal = None; colours = colours_by s r default })
        (λ k p. record { refusal = Some (refusal k p); colours = [] }) (λ v. answer_in v default) (λ k. refl)
        (λ e j. record { refusal = None; colours = colours_told c.cmap l.cmap default j })

    pub extent_told : extent_by (picture_row c) ≡ extent_in (judged c)
    unfolding picture_row
    extent_told = go (picture_refusal c)
      where
        go : (r : Result (Unit {0}) Reason) → extent_by (row_with (number_unless r) (shown_parts r c)) ≡ extent_in (passing r (found c))
        go (Ok u) = refl
        go (Err k) = refl

    header : data_by s (property_row c.bmhd) ≡ data_of c.bmhd
    header = data_told c.bmhd l.bmhd

    mode : data_by s (property_row c.camg) ≡ data_of c.camg
    mode = data_told c.camg l.camg

    pub triples_told : (default : List ℕ) → palette_triples_by s (picture_row c) default ≡ triples_in (judged c) default
    triples_told default =
        by_answer c
        (λ r. record { refusal = None; triples = triples_by (mode_by s r) (header_by s r).planes (colours_by s r default) })
        (λ k p. record { refusal = Some (refusal k p); triples = replicate 64 (0 ∷ 0 ∷ 0 ∷ []) }) (λ v. triples_in v default) (λ k. refl)
        (λ e. rw (header, mode, colours_told c.cmap l.cmap default))

    -- rows by what the row tells and the BODY, where the fields of a picture that has one pass
    asked-told :
        {A : Type 0} (rows : Content → List ℕ → Read A) (in_body : PictureRow → List ℕ → Read A) →
        (picture_refusal c ≡ Ok tt → (x : Located) (xs : List Located) → c.bodies ≡ x ∷ xs →
        in_body (row_with 0 c) x.content ≡ rows c x.content) →
        let r = picture_row c in rows_by r (in_body r (body_by s r)) ≡ ask_body (judged c) rows
    asked-told rows in_body pass =
        by_answer c (λ r. pick (eqb r.body.there 0) (refused NoBody 0) (in_body r (body_by s r))) refused (λ v. ask_body v rows)
        (λ k. refl) (λ e. rows_told c.bodies l.bodies (rows c) (in_body (row_with 0 c)) (pass e) (row_with 0 c) refl)

    pub line_told_lem : (start room : ℕ) → scan_line_by s (picture_row c) start room ≡ line_read (judged c) start room
    line_told_lem start room =
        asked-told _
        (λ r body. let b : BitmapHeader = header_by s r in line_in_body body b.w b.planes b.masking b.compression start room)
        (λ e x xs i. rw (header, line_fields c e x xs i))

    pub frame_told_lem : (room : ℕ) → frame_by s (picture_row c) room ≡ frame_read (judged c) room
    frame_told_lem room =
        asked-told _
        (λ r body. let b : BitmapHeader = header_by s r in frame_in_body body b.w b.h b.planes b.masking b.compression room)
        (λ e x xs i. rw (header, frame_fields c e x xs i))

    pub shape_line_told_lem :
        (start room shapeRoom : ℕ) →
        shape_line_by s (picture_row c) start room shapeRoom ≡ shape_line_read (judged c) start room shapeRoom
    shape_line_told_lem start room shapeRoom =
        asked-told _
        (λ r body.
        let b : BitmapHeader = header_by s r in
        shape_line_in_body body b.w b.planes b.masking b.compression b.transparent start room shapeRoom)
        (λ e x xs i. rw (header, line_fields c e x xs i))

    pub shape_frame_told_lem :
        (room shapeRoom : ℕ) → shape_frame_by s (picture_row c) room shapeRoom ≡ shape_frame_read (judged c) room shapeRoom
    shape_frame_told_lem room shapeRoom =
        asked-told _
        (λ r body.
        let b : BitmapHeader = header_by s r in
        shape_frame_in_body body b.w b.h b.planes b.masking b.compression b.transparent room shapeRoom)
        (λ e x xs i. rw (header, frame_fields c e x xs i))

    pub colour_line_told :
        (default : List ℕ) (start room : ℕ) →
        colour_line_by s (picture_row c) default start room ≡ colour_line_read (judged c) default start room
    colour_line_told default start room =
        asked-told _
        (λ r body.
        let b : BitmapHeader = header_by s r in
        colour_line_in_body body b.w b.planes b.masking b.compression (mode_by s r) (colours_by s r default) start room)
        (λ e x xs i. rw (header, mode, colours_told c.cmap l.cmap default, line_fields c e x xs i))

    pub colour_frame_told :
        (default : List ℕ) (room : ℕ) → colour_frame_by s (picture_row c) default room ≡ colour_frame_read (judged c) default room
    colour_frame_told default room =
        asked-told _
        (λ r body.
        let b : BitmapHeader = header_by s r in
        colour_frame_in_body body b.w b.h b.planes b.masking b.compression (mode_by s r) (colours_by s r default) room)
        (λ e x xs i. rw (header, mode, colours_told c.cmap l.cmap default, frame_fields c e x xs i))
