-- A scan line and a frame of a BODY, for each way through the code: the tests for 29 and 28 come first, in this order, and otherwise what
-- the lines tell is told, a frame's with the count of what is left in place of the next place.
use Rattle.std.proofs.Common.{ℕ, ◌≡◌, ◌-◌, ◌≤◌, ◌<◌, List, length, refl, sym, ap, ◌∙◌, eqb, arith, lt-ltb, le-ltb, eq-eqb, ne_eqb}
use Rattle.std.specs.Prelude.{Ok, Err}
use Rattle.iff_refusal.specs.declared.Reason.TheVariants.{WrongLength, BeyondBody}
use Rattle.iff_refusal.specs.declared.Refusal.{Refusal}
use Rattle.iff_refusal.specs.Numbers.{Answer, refusing}
use Rattle.iff_tree.specs.Judge.{found, refused}
use Rattle.ilbm_spec.specs.Rows.{Read, start_inside, right_length, leftover, line_answer, frame_answer, bytes_after}

-- the answer and the lent bytes afterwards are those of a reading
abbrev pub LineAnswered : Read (List ℕ) → List ℕ → Answer ℕ → List ℕ → Type 0
LineAnswered v old r new = (r ≡ line_answer v) × (new ≡ bytes_after v old)

abbrev pub FrameAnswered : Read (List ℕ) → List ℕ → Answer ℕ → List ℕ → Type 0
FrameAnswered v old r new = (r ≡ frame_answer v) × (new ≡ bytes_after v old)

-- a scan line, whatever is made of its rows: n bytes of it are wanted
module _ (body : List ℕ) (start n : ℕ) (line : Read (List ℕ)) (old : List ℕ) where
  abbrev asked : Read (List ℕ)
  asked = start_inside body start (right_length (eqb (length old) n) line)

  pub line_29 : length body < start → LineAnswered asked old (refusing BeyondBody 0) old
  line_29 l = rw (lt-ltb _ _ l) (refl, refl)

  pub line_28 : start ≤ length body → (length old ≡ n → ⊥) → LineAnswered asked old (refusing WrongLength 0) old
  line_28 l e = rw (le-ltb _ _ l, ne_eqb _ _ e) (refl, refl)

  pub line_read_lem :
      (r : Answer ℕ) (new : List ℕ) → start ≤ length body → length old ≡ n → LineAnswered line old r new → LineAnswered asked old r new
  line_read_lem r new l e t = rw (le-ltb _ _ l, eq-eqb _ _ e) t

-- what is told of lines, with the count of what is left after them
module _ {A : Type 0} (size : ℕ) (v : Read A) (r : Answer ℕ) (e : r ≡ line_answer v) where
  pub left_next : (q m : ℕ) → r ≡ Ok q → m ≡ size - q → Ok m ≡ frame_answer (leftover size v)
  left_next q m j d = go v (sym j ∙ e)
    where
      go : (v : Read A) → Ok q ≡ line_answer v → Ok m ≡ frame_answer (leftover size v)
      go (found (a, p)) u = let z : q ≡ p = cc in ap Ok (d ∙ ap (λ (o : ℕ). size - o) z)
      go (refused k p) u = absurd (let z : ◌≡◌ {A = ℕ} 0 1 = cc in omega arith)

  pub left_refused : (o : Refusal) → r ≡ Err o → Err o ≡ frame_answer (leftover size v)
  left_refused o j = go v (sym j ∙ e)
    where
      go : (v : Read A) → Err o ≡ line_answer v → Err o ≡ frame_answer (leftover size v)
      go (found (a, q)) u = absurd (let z : ◌≡◌ {A = ℕ} 0 1 = cc in omega arith)
      go (refused f q) u = u

left_bytes : (size : ℕ) (v : Read (List ℕ)) (old : List ℕ) → bytes_after v old ≡ bytes_after (leftover size v) old
left_bytes size (found (cs, q)) old = refl
left_bytes size (refused k p) old = refl

-- a frame likewise, of a BODY of so many bytes
module _ (size n : ℕ) (lines : Read (List ℕ)) (old : List ℕ) where
  abbrev frame : Read (List ℕ)
  frame = right_length (eqb (length old) n) (leftover size lines)

  pub frame_28 : (length old ≡ n → ⊥) → FrameAnswered frame old (refusing WrongLength 0) old
  frame_28 e = rw (ne_eqb _ _ e) (refl, refl)

  module _ (e : length old ≡ n) (r : Answer ℕ) (new : List ℕ) (t : LineAnswered lines old r new) where
    is-lines : frame ≡ leftover size lines
    is-lines = rw (eq-eqb _ _ e)

    bytes : new ≡ bytes_after (leftover size lines) old
    bytes = t.1 ∙ left_bytes size lines old

    pub frame_left : (q m : ℕ) → r ≡ Ok q → m ≡ size - q → FrameAnswered frame old (Ok m) new
    frame_left q m j d = rw is-lines (left_next size lines r t.0 q m j d, bytes)

    pub frame_refused : (o : Refusal) → r ≡ Err o → FrameAnswered frame old (Err o) new
    frame_refused o j = rw is-lines (left_refused size lines r t.0 o j, bytes)
