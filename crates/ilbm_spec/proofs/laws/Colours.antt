-- The colours of a picture are those of its colour numbers, by what holds of the rows of its BODY: they are asked after the same refusals,
-- 46 put between, so the one is read where the other is.
use Rattle.std.specs.Prelude.{ℕ, ◌*◌, ◌≡◌, refl, false, List, [], ◌∷◌, Result, Ok, Err}
use Rattle.std.proofs.Common.{ap, ◌∙◌}
use Rattle.iff_tree.specs.Judge.{found, refused}
use Rattle.ilbm_spec.specs.declared.BitmapHeader.{BitmapHeader}
use Rattle.ilbm_spec.specs.Contents.{Located, Content}
use Rattle.ilbm_spec.specs.Pictures.{Viewed, view_of, palette_of_property, empty_fields, fields_refusal, passing}
use Rattle.ilbm_spec.specs.Rows.{Read, body_line, body_frame, on_body, ask_body, line_read, frame_read}
use Rattle.ilbm_spec.specs.Colours.{black, holds, Step, pixel_colour, carried, each_colour, mode_shown}
use Rattle.ilbm_spec.specs.Colours.{body_colour_line, body_colour_frame, mode_of_view, colour_line_read}
use Rattle.ilbm_spec.specs.Colours.{colour_frame_read}
use Rattle.ilbm_spec.specs.ColoursOfNumbers.{read_as, carried_lines, header_of, step_of, plain_colour, ColoursOfNumbers}
use Rattle.ilbm_spec.proofs.laws.Coloured.{plain_step, ByLines, lines_apart, lines_joined, line_coloured}
use Rattle.ilbm_spec.proofs.laws.Coloured.{frame_coloured}
use Rattle.iff_refusal.specs.declared.Reason.{Reason}

on_body_lem :
    {A : Type 0} (bs : List Located) (f x : List ℕ → Read A) (g : Read A → Read A) → ((body : List ℕ) → f body ≡ g (x body)) →
    on_body bs f ≡ on_body bs (λ body. g (on_body bs x))
on_body_lem [] f x g e = refl
on_body_lem (b ∷ bs) f x g e = e b.content

passing_lem :
    {A : Type 0} (k : Result (Unit {0}) Reason) (f x : Read A) (g : Read A → Read A) → f ≡ g x → passing k f ≡ passing k (g (passing k x))
passing_lem (Ok u) f x g e = e
passing_lem (Err k) f x g e = refl

on_plain :
    (bs : List Located) (f x : List ℕ → Read (List ℕ)) (made : List ℕ → List ℕ) → ((body : List ℕ) → f body ≡ read_as made (x body)) →
    on_body bs f ≡ read_as made (on_body bs x)
on_plain [] f x made e = refl
on_plain (b ∷ bs) f x made e = e b.content

-- of a picture that is not refused
module _ (c : Content) (default : List ℕ) where
  abbrev b : BitmapHeader
  b = header_of c

  abbrev palette : List ℕ
  palette = palette_of_property c.cmap default

  line_read_lem :
      (start room : ℕ) (body : List ℕ) →
      body_colour_line body b.w b.planes b.masking b.compression (mode_of_view c) palette start (3 * room)
      ≡ read_as (carried (step_of c default) black) (body_line body b.w b.planes b.masking b.compression start room)
  line_read_lem start room body =
      line_coloured body b.w b.planes b.masking b.compression (mode_of_view c) palette start room

  frame_read_lem :
      (made : ℕ → List ℕ → List ℕ) → ByLines b.w (step_of c default) made → (room : ℕ) (body : List ℕ) →
      body_colour_frame body b.w b.h b.planes b.masking b.compression (mode_of_view c) palette (3 * room)
      ≡ read_as (made b.h) (body_frame body b.w b.h b.planes b.masking b.compression room)
  frame_read_lem made by room body =
      frame_coloured body b.w b.planes b.masking b.compression (mode_of_view c) palette made by b.h room

  module _ (e : holds (mode_of_view c) ≡ false) where
    each : step_of c default ≡ (λ left code. plain_colour c default code)
    each = plain_step (mode_of_view c) b.planes palette e

    plain-line-seen :
        (start room : ℕ) →
        colour_line_read (found c) default start (3 * room) ≡ read_as (each_colour (plain_colour c default)) (line_read (found c) start room)
    plain-line-seen start room = on_plain c.bodies _ _ _ (λ body. rw e (line_read_lem start room body ∙ rw each))

    plain-frame-seen :
        (room : ℕ) → colour_frame_read (found c) default (3 * room) ≡ read_as (each_colour (plain_colour c default)) (frame_read (found c) room)
    plain-frame-seen room =
        let made : ℕ → List ℕ → List ℕ = λ lines cs. each_colour (plain_colour c default) cs in
        let by : ByLines b.w (step_of c default) made = rw each (lines_joined b.w (plain_colour c default)) in
        on_plain c.bodies _ _ _ (λ body. rw e (frame_read_lem made by room body))

line_seen :
    (v : Viewed) (default : List ℕ) (start room : ℕ) →
    colour_line_read v default start (3 * room)
    ≡ ask_body v (λ c body.
    mode_shown (mode_of_view c) (header_of c).planes (read_as (carried (step_of c default) black) (line_read v start room)))
line_seen (found c) default start room =
    on_body_lem c.bodies _ _ (λ x. mode_shown (mode_of_view c) (header_of c).planes (read_as (carried (step_of c default) black) x))
    (λ body. ap (mode_shown (mode_of_view c) (header_of c).planes) (line_read_lem c default start room body))
line_seen (refused k p) default start room = refl

frame_seen :
    (v : Viewed) (default : List ℕ) (room : ℕ) →
    colour_frame_read v default (3 * room)
    ≡ ask_body v (λ c body.
    let b : BitmapHeader = header_of c in
    mode_shown (mode_of_view c) b.planes (read_as (carried_lines (step_of c default) b.w b.h) (frame_read v room)))
frame_seen (found c) default room =
    let b : BitmapHeader = header_of c in
    let step : Step = step_of c default in
    on_body_lem c.bodies _ _ (λ x. mode_shown (mode_of_view c) b.planes (read_as (carried_lines step b.w b.h) x))
    (λ body. ap (mode_shown (mode_of_view c) b.planes) (frame_read_lem c default (carried_lines step b.w) (lines_apart b.w step) room body))
frame_seen (refused k p) default room = refl

pub colours_of_numbers : ColoursOfNumbers
colours_of_numbers =
    record {
      line = λ s i default start room. line_seen (view_of s i) default start room;
      frame = λ s i default room. frame_seen (view_of s i) default room;
      body_line_lem = λ body w planes masking compression mode palette start room.
          let step : Step = pixel_colour mode planes palette in
          passing_lem (fields_refusal planes masking compression (empty_fields w 1 planes)) _
          (body_line body w planes masking compression start room) (λ x. mode_shown mode planes (read_as (carried step black) x))
          (ap (mode_shown mode planes) (line_coloured body w planes masking compression mode palette start room));
      body_frame_lem = λ body w h planes masking compression mode palette room.
          let step : Step = pixel_colour mode planes palette in
          passing_lem (fields_refusal planes masking compression (empty_fields w h planes)) _
          (body_frame body w h planes masking compression room) (λ x. mode_shown mode planes (read_as (carried_lines step w h) x))
          (ap (mode_shown mode planes)
          (frame_coloured body w planes masking compression mode palette (carried_lines step w) (lines_apart w step) h room));
      plain_line = λ s i c v e default start room. rw v (plain-line-seen c default e start room);
      plain_frame = λ s i c v e default room. rw v (plain-frame-seen c default e room);
    }
