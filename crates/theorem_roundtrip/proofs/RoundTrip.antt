-- 01: "Reading back, with an empty default palette, gives the same fields but pad1, the same palette and frame." 02, Ask 4: "what it
-- writes reads back", the shape too. Ask 5: in colours, and the palette as triples. For every header, palette, frame, shape and buffer
-- that the writer does not refuse, of the file that it leaves in the buffer.
use Rattle.std.specs.Prelude.{ℕ, zero, suc, ◌-◌, ◌*◌, ◌≡◌, false, List, [], length, take, drop, Ok, Result}
use Rattle.std.proofs.Math.Path.{refl}
use Rattle.std.proofs.Common.{ap, ◌∙◌, append-nil, take_at, eq-eqb, mul_comm, zero-add, arith}
use Rattle.iff_chunk.specs.Chunks.{word}
use Rattle.iff_tree.specs.Judge.{found, refused}
use Rattle.ilbm_spec.specs.declared.BitmapHeader.{BitmapHeader}
use Rattle.ilbm_spec.specs.Pictures.{Viewed, view_of, pick_content, picture_answer}
use Rattle.ilbm_spec.specs.Palette.{answer_in}
use Rattle.ilbm_spec.specs.Rows.{row_length, rows_in_line, Pixels, lines_with, frame_read, frame_of}
use Rattle.ilbm_spec.specs.Shapes.{shape_frame_read}
use Rattle.ilbm_spec.specs.Colours.{holds, is_half_bright, number_colour, entry_at, each_colour, mode_of_view, colour_frame_of}
use Rattle.ilbm_spec.specs.Triples.{triples_in, triples_of}
use Rattle.ilbm_spec.specs.ColoursOfNumbers.{read_as, plain_colour}
use Rattle.ilbm_spec.proofs.laws.Colours.{colours_of_numbers}
use Rattle.write_body.specs.Body.{shape_width, body_lines, body_bytes}
use Rattle.write_form.specs.File.{picture_file}
use Rattle.write_picture.specs.Write.{write_of, out_after}
use Rattle.theorem_roundtrip.specs.Expected.{shape_for, colours_for, triples_for}
use Rattle.theorem_roundtrip.specs.Header.{InRange, without_pad}
use Rattle.theorem_roundtrip.proofs.laws.Header.{header_back}
use Rattle.theorem_roundtrip.proofs.laws.Lines.{Makes, Drawn, lines_back}
use Rattle.theorem_roundtrip.proofs.laws.Seen.{content_for, one_content, picture_answered, palette_answered, no_refusal}
use Rattle.theorem_roundtrip.proofs.laws.Shapes.{colours_made, shape_made}
use Rattle.theorem_roundtrip.proofs.laws.Tree.{chunk_file, file_read, file_answered}
use Rattle.theorem_roundtrip.proofs.laws.Writable.{Writable, written_writable}
use Rattle.theorem_roundtrip.specs.RoundTrip.{ReadsBack}
use Rattle.iff_refusal.specs.declared.Reason.TheVariants.{NoPicture}
use Rattle.iff_refusal.specs.declared.Reason.{Reason}

same_lines :
    (b : BitmapHeader) (frame shape : List ℕ) (lines : ℕ) →
    body_lines (without_pad b) frame shape lines ≡ body_lines b frame shape lines
unfolding body_lines
same_lines b frame shape zero = refl
same_lines b frame shape (suc lines) = rw (same_lines b (drop b.w frame) (drop (shape_width b) shape) lines)

module _
    (b : BitmapHeader) (palette frame shape : List ℕ) (room n : ℕ) (range : InRange b)
    (may : Writable b palette frame shape room n) where
  abbrev file : List ℕ
  file = picture_file b palette frame shape

  abbrev body : List ℕ
  body = body_bytes b frame shape

  view_back : view_of file 0 ≡ found (content_for b palette frame shape)
  unfolding pick_content
  view_back =
      let right = no_refusal b palette frame shape room n range may in
      rw (file_read b palette frame shape may.short, one_content b palette frame shape, right)

  no_more : (i : ℕ) → view_of file (suc i) ≡ refused NoPicture 0
  unfolding pick_content
  no_more i = rw (file_read b palette frame shape may.short, one_content b palette frame shape)

  drawn : Drawn (without_pad b) b.h frame shape
  drawn =
      record {
        whole = may.whole ∙ mul_comm b.w b.h;
        colours = may.colours;
        shape_whole = may.shape_whole ∙ mul_comm (shape_width b) b.h;
        bits = may.bits;
      }

  -- of colours and shape alike
  lines_read :
      (pixels : Pixels) (made : List ℕ → List ℕ → List ℕ) → Makes (without_pad b) pixels made →
      lines_with pixels b.compression (row_length b.w) (rows_in_line b.planes b.masking) body b.h 0
      ≡ found (made frame shape, (length body))
  lines_read pixels made makes =
      rw (
        append-nil (body_lines (without_pad b) frame shape b.h),
        same_lines b frame shape b.h,
        zero-add (length (body_lines b frame shape b.h)),
      ) at (lines_back (without_pad b) pixels made makes b.h frame shape [] [] drawn)

  none_left : length body - length body ≡ 0
  none_left = omega arith

  frame_read_lem : frame_read (found (content_for b palette frame shape)) (b.w * b.h) ≡ found (frame, 0)
  frame_read_lem =
      let colours = lines_read _ _ (colours_made (without_pad b)) in
      rw (header_back b range, eq-eqb (b.w * b.h) (b.w * b.h) refl, colours, none_left)

  shape_read : shape_frame_read (found (content_for b palette frame shape)) (b.w * b.h) (b.w * b.h) ≡ shape_for b frame shape
  shape_read =
      let colours = lines_read _ _ (colours_made (without_pad b)) in
      let bits = lines_read _ _ (shape_made (without_pad b)) in
      rw (header_back b range, eq-eqb (b.w * b.h) (b.w * b.h) refl, colours, bits, none_left)

  -- no bit of CAMG's number is set
  not_held : holds (mode_of_view (content_for b palette frame shape)) ≡ false
  unfolding holds word
  not_held = refl

  through_palette : plain_colour (content_for b palette frame shape) [] ≡ entry_at palette
  unfolding is_half_bright number_colour word
  through_palette = rw (palette_answered b palette frame shape)

  frame_back_lem : frame_of file 0 (b.w * b.h) ≡ found (frame, 0)
  frame_back_lem = ap (λ (v : Viewed). frame_read v (b.w * b.h)) view_back ∙ frame_read_lem

  colours_back_lem : colour_frame_of file 0 [] (3 * (b.w * b.h)) ≡ colours_for palette frame
  colours_back_lem =
      let each = plain_colour (content_for b palette frame shape) [] in
      colours_of_numbers.plain_frame file 0 (content_for b palette frame shape) view_back not_held [] (b.w * b.h) ∙
      ap (read_as (each_colour each)) frame_back_lem ∙ rw through_palette

  triples_back_lem : triples_of file 0 [] ≡ triples_for palette
  triples_back_lem = ap (λ (v : Viewed). triples_in v []) view_back ∙ rw through_palette

  file_back : ReadsBack file b palette frame shape
  file_back =
      record {
        grammar = chunk_file b palette frame shape may.short;
        accepted = file_answered b palette frame shape may.short;
        tree = file_read b palette frame shape may.short;
        pictures = rw (one_content b palette frame shape);
        others = λ i. no_more i;
        picture = ap picture_answer view_back ∙ ap Ok (picture_answered b palette frame shape range);
        palette_back = ap (λ (v : Viewed). answer_in v []) view_back ∙ rw (palette_answered b palette frame shape);
        frame_back = frame_back_lem;
        shape_back = ap (λ (v : Viewed). shape_frame_read v (b.w * b.h) (b.w * b.h)) view_back ∙ shape_read;
        colours_back = colours_back_lem;
        triples_back = triples_back_lem;
      }

-- What the writer leaves in the buffer, as many bytes as it told, reads as the picture that it was given.
pub round_trip :
    (b : BitmapHeader) (palette frame shape out : List ℕ) (n : ℕ) → InRange b → write_of b palette frame shape (length out) ≡ Ok n →
    ReadsBack (take n (out_after (write_of b palette frame shape (length out)) (picture_file b palette frame shape) out)) b palette frame shape
round_trip b palette frame shape out n range e =
    let may = written_writable b palette frame shape (length out) n e in
    let file : List ℕ = picture_file b palette frame shape in
    let s : take n (out_after (write_of b palette frame shape (length out)) file out) ≡ file =
    ap (λ (a : Result ℕ Reason). take n (out_after a file out)) e ∙ take_at file (drop n out) n may.size in
    rw s (file_back b palette frame shape (length out) n range may)
