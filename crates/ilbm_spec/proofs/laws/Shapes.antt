-- Where the colours come with a shape they are those that come without it, with the same next place: both are what the same rows are read
-- to, and what a check of the one asks is asked by the other or refuses it. What is made of the rows changes neither the next place nor a
-- refusal, so the second reading of them, for the shape, ends as the first does.
use Prim.Native.Nat.{ℕ, zero, suc}
use Rattle.std.specs.Prelude.{◌≡◌, Bool, true, false, List, [], ◌∷◌, ◌++◌, Result, Ok, Err}
use Rattle.std.proofs.Math.Path.{refl}
use Rattle.std.proofs.Common.{ap, ◌∙◌, subst}
use Rattle.iff_name.specs.Name.{both, pick}
use Rattle.iff_tree.specs.Judge.{found, refused}
use Rattle.ilbm_spec.specs.declared.BitmapHeader.{BitmapHeader}
use Rattle.ilbm_spec.specs.Contents.{Located}
use Rattle.ilbm_spec.specs.Pictures.{Viewed, header_in, data_of, passing}
use Rattle.ilbm_spec.specs.Rows.{row_length, rows_in_line, Read, then_read, rows_from, Pixels, colour_numbers, line_with, lines_with}
use Rattle.ilbm_spec.specs.Rows.{line_by, lines_by, leftover, right_length, on_body, ask_rows, line_in_body, frame_in_body, line_of, frame_of}
use Rattle.ilbm_spec.specs.Rows.{body_line, body_frame, line_answer}
use Rattle.ilbm_spec.specs.Shapes.{shape_bits, Shaped, together, shaped_line, shaped_lines, body_shape_line, body_shape_frame}
use Rattle.ilbm_spec.specs.ShapeBesideColours.{ShapeBesideColours}
use Rattle.iff_refusal.specs.declared.Reason.{Reason}

-- ---- one reading and another of the same rows

then_alike :
    {A B C D : Type 0} (x : Read A) (y : Read B) (f : A → ℕ → Read C) (g : B → ℕ → Read D) → line_answer x ≡ line_answer y →
    ((a : A) (b : B) (q : ℕ) → line_answer (f a q) ≡ line_answer (g b q)) → line_answer (then_read x f) ≡ line_answer (then_read y g)
then_alike (found (a, q)) (found (b, r)) f g e rest =
    let same : q ≡ r = cc in rest a b q ∙ ap (λ (z : ℕ). line_answer (g b z)) same
then_alike (found (a, q)) (refused k p) f g e rest = absurd cc
then_alike (refused k p) (found (b, r)) f g e rest = absurd cc
then_alike (refused k p) (refused m q) f g e rest = e

module _ (f g : Pixels) (compression n rows : ℕ) (body : List ℕ) where
  pub line_alike : (at : ℕ) → line_answer (line_with f compression n rows body at) ≡ line_answer (line_with g compression n rows body at)
  line_alike at =
      let x = rows_from compression body n rows at in then_alike x x (λ a q. found (f a, q)) (λ a q. found (g a, q)) refl (λ a b q. refl)

  pub lines_alike :
      (h at : ℕ) → line_answer (lines_with f compression n rows body h at) ≡ line_answer (lines_with g compression n rows body h at)
  unfolding lines_with
  lines_alike zero at = refl
  lines_alike (suc h) at =
      then_alike (line_with f compression n rows body at) (line_with g compression n rows body at) _ _ (line_alike at)
      (λ a b q. then_alike (lines_with f compression n rows body h q) (lines_with g compression n rows body h q)
      (λ rest r. found ((a ++ rest), r)) (λ rest r. found ((b ++ rest), r)) (lines_alike h q) (λ c d r. refl))

together_alike : (x y : Read (List ℕ)) → line_answer y ≡ line_answer x → line_answer (together x y) ≡ line_answer x
together_alike (found (cs, q)) (found (bits, r)) e = refl
together_alike (found (cs, q)) (refused k p) e = absurd cc
together_alike (refused k p) y e = refl

-- colours with their shape are told as colours without it
module _ (compression w planes masking transparent : ℕ) (body : List ℕ) where
  abbrev rows : ℕ
  rows = rows_in_line planes masking

  abbrev seen : Pixels
  seen = shape_bits w planes masking transparent

  pub shape_line_read_lem :
      (at : ℕ) →
      line_answer (shaped_line compression w planes masking transparent body at) ≡ line_answer (line_by compression w planes rows body at)
  shape_line_read_lem at =
      together_alike (line_by compression w planes rows body at) (line_with seen compression (row_length w) rows body at)
      (line_alike seen (colour_numbers w planes) compression (row_length w) rows body at)

  pub shape_read :
      (h at : ℕ) →
      line_answer (shaped_lines compression w planes masking transparent body h at) ≡ line_answer (lines_by compression w planes rows body h at)
  shape_read h at =
      together_alike (lines_by compression w planes rows body h at) (lines_with seen compression (row_length w) rows body h at)
      (lines_alike seen (colour_numbers w planes) compression (row_length w) rows body h at)

-- ---- colours with a shape and without it

-- what is read without the shape, beside what is read with it
abbrev Beside : Read Shaped → Read (List ℕ) → Type 0
Beside (found (x, q)) plain = plain ≡ found (x.colours, q)
Beside (refused k p) plain = Unit {0}

together_beside : (x y : Read (List ℕ)) → Beside (together x y) x
together_beside (found (cs, q)) (found (bits, r)) = refl
together_beside (found (cs, q)) (refused k p) = tt
together_beside (refused k p) y = tt

leftover_beside : (n : ℕ) (x : Read Shaped) (y : Read (List ℕ)) → Beside x y → Beside (leftover n x) (leftover n y)
leftover_beside n (found (a, q)) y i = ap (leftover n) i
leftover_beside n (refused k p) y i = tt

-- a check that both ask, one that is asked for the shape alone, and 28, which looks at one more lent row
module _ (x : Read Shaped) (y : Read (List ℕ)) (i : Beside x y) where
  checked_beside : (b : Bool) (k : Reason) (p : ℕ) → Beside (pick b (refused k p) x) (pick b (refused k p) y)
  checked_beside true k p = tt
  checked_beside false k p = i

  fields_beside : (k : Result (Unit {0}) Reason) → Beside (passing k x) (passing k y)
  fields_beside (Ok u) = i
  fields_beside (Err k) = tt

  asked_beside : (b : Bool) (k : Reason) (p : ℕ) → Beside (pick b (refused k p) x) y
  asked_beside true k p = tt
  asked_beside false k p = i

  lent_beside : (a b : Bool) → Beside (right_length (both a b) x) (right_length a y)
  lent_beside true true = i
  lent_beside true false = tt
  lent_beside false b = tt

of_body : (bs : List Located) (f : List ℕ → Read Shaped) (g : List ℕ → Read (List ℕ)) →
    ((body : List ℕ) → Beside (f body) (g body)) → Beside (on_body bs f) (on_body bs g)
of_body [] f g i = tt
of_body (b ∷ bs) f g i = i b.content

of_picture_lem :
    (v : Viewed) (f : BitmapHeader → List ℕ → Read Shaped) (g : BitmapHeader → List ℕ → Read (List ℕ)) →
    ((b : BitmapHeader) (body : List ℕ) → Beside (f b body) (g b body)) → Beside (ask_rows v f) (ask_rows v g)
of_picture_lem (found c) f g i = of_body c.bodies _ _ (i (header_in (data_of c.bmhd)))
of_picture_lem (refused k p) f g i = tt

line_beside :
    (body : List ℕ) (w planes masking compression transparent start room shapeRoom : ℕ) →
    Beside (body_shape_line body w planes masking compression transparent start room shapeRoom)
    (body_line body w planes masking compression start room)
line_beside body w planes masking compression transparent start room shapeRoom =
    search (checked_beside, lent_beside, asked_beside, together_beside)

frame_beside :
    (body : List ℕ) (w h planes masking compression transparent room shapeRoom : ℕ) →
    Beside (body_shape_frame body w h planes masking compression transparent room shapeRoom)
    (body_frame body w h planes masking compression room)
frame_beside body w h planes masking compression transparent room shapeRoom =
    search (lent_beside, asked_beside, leftover_beside, together_beside)

pub shape_beside_colours : ShapeBesideColours
shape_beside_colours =
    record {
      line = λ s i start room shapeRoom q x e.
          subst (λ (z : Read Shaped). Beside z (line_of s i start room)) e (search (of_picture_lem, line_beside));
      frame = λ s i room shapeRoom q x e.
          subst (λ (z : Read Shaped). Beside z (frame_of s i room)) e (search (of_picture_lem, frame_beside));
      body_line_lem = λ body w planes masking compression transparent start room shapeRoom q x e.
          let y : Read (List ℕ) = line_in_body body w planes masking compression start room in
          subst (λ (z : Read Shaped). Beside z y) e (search (fields_beside, line_beside));
      body_frame_lem = λ body w h planes masking compression transparent room shapeRoom q x e.
          let y : Read (List ℕ) = frame_in_body body w h planes masking compression room in
          subst (λ (z : Read Shaped). Beside z y) e (search (fields_beside, frame_beside));
    }
