-- The colours of a scan line or a frame of a BODY are made of its colour numbers: both are made of the same rows, so what is made of the
-- numbers afterwards changes no next place and no refusal; and a lent row of three times so many bytes has the right length where the other
-- has. Where nothing is held, a colour is its number's, and the lines of a frame need not be told apart.
use Prim.Native.Nat.{ℕ, zero, suc, ◌*◌}
use Rattle.std.specs.Prelude.{◌≡◌, refl, Bool, true, false, not, List, [], ◌∷◌, ◌++◌, eqb, ltb, length, take}
use Rattle.std.proofs.Common.{take_at, drop_at, eqb-true, eq-eqb, ne_eqb, mul_assoc, arith}
use Rattle.std.proofs.lemmas.Bool.{eqb-false}
use Rattle.iff_name.specs.Name.{pick}
use Rattle.iff_tree.specs.Judge.{found, refused}
use Rattle.ilbm_spec.specs.declared.Colour.{Colour}
use Rattle.ilbm_spec.specs.Rows.{row_length, rows_in_line, Read, then_read, rows_from, colour_numbers, line_by, lines_with}
use Rattle.ilbm_spec.specs.Rows.{lines_by, leftover, body_line, body_frame}
use Rattle.ilbm_spec.specs.Colours.{black, holds, is_half_bright, number_colour, modified, Step, pixel_colour, carried, each_colour}
use Rattle.ilbm_spec.specs.Colours.{coloured, body_colour_line, body_colour_frame}
use Rattle.ilbm_spec.proofs.laws.Rows.{colours_count}
use Rattle.ilbm_spec.specs.ColoursOfNumbers.{read_as, carried_lines}
use Rattle.iff_refusal.specs.declared.Reason.TheVariants.{WrongLength, BeyondBody}

-- ---- where nothing is held

pub plain_step :
    (mode planes : ℕ) (palette : List ℕ) → holds mode ≡ false →
    pixel_colour mode planes palette ≡ (λ left code. number_colour (is_half_bright mode planes) palette code)
unfolding pixel_colour
plain_step mode planes palette e j left code =
    pick (e j) (modified planes palette left code) (number_colour (is_half_bright mode planes) palette code)

-- the colour to the left of the first makes no difference
from_any : (f : ℕ → Colour) (left : Colour) (cs : List ℕ) → carried (λ a code. f code) left cs ≡ each_colour f cs
unfolding carried
from_any f left [] = refl
from_any f left (c ∷ cs) = refl

pub each_joins : (f : ℕ → Colour) (cs ds : List ℕ) → each_colour f (cs ++ ds) ≡ each_colour f cs ++ each_colour f ds
unfolding carried
each_joins f [] ds = refl
each_joins f (c ∷ cs) ds = rw (from_any f (f c) (cs ++ ds), from_any f (f c) cs, each_joins f cs ds)

-- ---- lines and frames of a BODY

-- what is made of so many lines of w numbers is made line by line
pub record ByLines (w : ℕ) (step : Step) (made : ℕ → List ℕ → List ℕ) : Type 0 where
  pub none : made 0 [] ≡ []
  pub next : (lines : ℕ) (cs ds : List ℕ) → length cs ≡ w → made (suc lines) (cs ++ ds) ≡ carried step black cs ++ made lines ds

pub lines_apart : (w : ℕ) (step : Step) → ByLines w step (carried_lines step w)
unfolding carried_lines
lines_apart w step = record { none = refl; next = λ lines cs ds e. rw (take_at cs ds w e, drop_at cs ds w e) }

pub lines_joined : (w : ℕ) (f : ℕ → Colour) → ByLines w (λ left code. f code) (λ lines cs. each_colour f cs)
unfolding carried
lines_joined w f = record { none = refl; next = λ lines cs ds e. each_joins f cs ds }

-- a reading of the plane rows, and what is made of it
line_made :
    (w planes : ℕ) (step : Step) (x : Read (List (List ℕ))) →
    then_read x (λ rows q. found (coloured w planes step rows, q))
    ≡ read_as (carried step black) (then_read x (λ rows q. found (colour_numbers w planes rows, q)))
line_made w planes step (found (rows, q)) = refl
line_made w planes step (refused k p) = refl

module _ (w planes : ℕ) (step : Step) (made : ℕ → List ℕ → List ℕ) (by : ByLines w step made) where
  -- one line, and more lines behind it
  then_made :
      (lines : ℕ) (cs : List ℕ) → length cs ≡ w → (y : Read (List ℕ)) →
      then_read (read_as (made lines) y) (λ rest r. found ((carried step black cs ++ rest), r))
      ≡ read_as (made (suc lines)) (then_read y (λ rest r. found ((cs ++ rest), r)))
  then_made lines cs e (found (ds, r)) = rw (by.next lines cs ds e)
  then_made lines cs e (refused k p) = refl

  next_made :
      (lines : ℕ) (x : Read (List (List ℕ))) (colours numbers : ℕ → Read (List ℕ)) →
      ((q : ℕ) → colours q ≡ read_as (made lines) (numbers q)) →
      then_read (then_read x (λ rs q. found (coloured w planes step rs, q)))
      (λ cs q. then_read (colours q) (λ rest r. found ((cs ++ rest), r)))
      ≡ read_as (made (suc lines))
      (then_read (then_read x (λ rs q. found (colour_numbers w planes rs, q)))
      (λ cs q. then_read (numbers q) (λ rest r. found ((cs ++ rest), r))))
  next_made lines (found (rs, q)) colours numbers e =
      rw (e q) (then_made lines (colour_numbers w planes rs) (colours_count 0 w (take planes rs)) (numbers q))
  next_made lines (refused k p) colours numbers e = refl

  lines_made :
      (compression n rows : ℕ) (body : List ℕ) (lines at : ℕ) →
      lines_with (coloured w planes step) compression n rows body lines at
      ≡ read_as (made lines) (lines_with (colour_numbers w planes) compression n rows body lines at)
  unfolding lines_with
  lines_made compression n rows body zero at = rw by.none
  lines_made compression n rows body (suc lines) at =
      next_made lines (rows_from compression body n rows at) (lines_with (coloured w planes step) compression n rows body lines)
      (lines_with (colour_numbers w planes) compression n rows body lines) (λ q. lines_made compression n rows body lines q)

-- three bytes for each pixel
thrice : (room w : ℕ) → eqb (3 * room) (3 * w) ≡ eqb room w
thrice room w = go (eqb room w) refl
  where
    go : (b : Bool) → eqb room w ≡ b → eqb (3 * room) (3 * w) ≡ b
    go true e = let i = eqb-true room w e in eq-eqb (3 * room) (3 * w) (omega arith)
    go false e = ne_eqb (3 * room) (3 * w) (λ i. eqb-false room w e (omega arith))

module _ (body : List ℕ) (w planes masking compression mode : ℕ) (palette : List ℕ) where
  abbrev step : Step
  step = pixel_colour mode planes palette

  pub line_coloured :
      (start room : ℕ) →
      body_colour_line body w planes masking compression mode palette start (3 * room)
      ≡ read_as (carried step black) (body_line body w planes masking compression start room)
  line_coloured start room =
      let rows : ℕ = rows_in_line planes masking in
      rw (thrice room w, line_made w planes step (rows_from compression body (row_length w) rows start))
      (go (ltb (length body) start) (eqb room w) (line_by compression w planes rows body start))
    where
      go :
          (a b : Bool) (x : Read (List ℕ)) →
          pick a (refused BeyondBody 0) (pick (not b) (refused WrongLength 0) (read_as (carried step black) x))
          ≡ read_as (carried step black) (pick a (refused BeyondBody 0) (pick (not b) (refused WrongLength 0) x))
      go true b x = refl
      go false true x = refl
      go false false x = refl

  pub frame_coloured :
      (made : ℕ → List ℕ → List ℕ) → ByLines w step made → (h room : ℕ) →
      body_colour_frame body w h planes masking compression mode palette (3 * room)
      ≡ read_as (made h) (body_frame body w h planes masking compression room)
  frame_coloured made by h room =
      let rows : ℕ = rows_in_line planes masking in
      rw (mul_assoc 3 w h, thrice room (w * h), lines_made w planes step made by compression (row_length w) rows body h 0)
      (go (eqb room (w * h)) (lines_by compression w planes rows body h 0))
    where
      go :
          (b : Bool) (x : Read (List ℕ)) →
          pick (not b) (refused WrongLength 0) (leftover (length body) (read_as (made h) x))
          ≡ read_as (made h) (pick (not b) (refused WrongLength 0) (leftover (length body) x))
      go true (found (cs, q)) = refl
      go true (refused k p) = refl
      go false x = refl
