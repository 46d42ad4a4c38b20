-- A row in the course of being coloured. Its front has the bytes of the first x pixels, and from 2w + x on it still has the colour numbers
-- of the others: the front, and then what these numbers make, is the whole line. A pixel more is written at 3x; three bytes, or four with
-- one that the next pixel writes over, do not reach the number that is read next.
use Prim.Native.Nat.{ℕ, suc, ◌+◌, ◌-◌, ◌*◌, ◌<◌, ◌≤◌}
use mathlib.Core.Path.{◌≡◌, sym, ap, ◌∙◌}
use mathlib.Core.Bool.{Bool, true, false}
use mathlib.Core.List.{List, [], ◌∷◌, ◌++◌, append_assoc, append-nil}
use lib.Bits.{bit_and, bit_or}
use lib.ListN.{length, get_or, take, drop, set, length-append, length-take, drop_of_length-le}
use lib.Seq.{paste, sets-eq, take_all, drop-cons, take_at, drop-drop, drop-paste}
use native.Mathlib.Nat.{add-zero, min-eq_left}
use native.Mathlib.Omega.{arith}
use Rattle.ilbm_colour_words.specs.Words.{word_bytes, WordStep, by_palette, by_holding, carried_words}
use Rattle.ilbm_colour_pixels.specs.Steps.{step_by}

-- four stores are one paste
pub pasted_four :
    (row : List ℕ) (x a b c d : ℕ) → x + 4 ≤ length row →
    set (set (set (set row x a) (x + 1) b) (x + 2) c) (x + 3) d ≡ paste row x (a ∷ b ∷ c ∷ d ∷ []) 4
pasted_four row x a b c d l =
    let x1 : x + 1 ≡ suc x = omega arith in
    let x2 : x + 2 ≡ suc (suc x) = omega arith in
    let x3 : x + 3 ≡ suc (suc (suc x)) = omega arith in
    rw (x1, x2, x3) (sets-eq (a ∷ b ∷ c ∷ d ∷ []) row x l)

-- a number by what is kept and what is set, from the two look-ups
pub word_modified :
    (held keep set a b : ℕ) → keep ≡ a → set ≡ b → bit_or (bit_and held keep) set ≡ bit_or (bit_and held a) b
word_modified held keep set a b i j = rw (i, j)

-- the front and what is still to come are the whole line
pub record Front (step : WordStep) (w : ℕ) (line : List ℕ) (x held : ℕ) (row : List ℕ) : Type 0 where
  pub made : take (3 * x) row ++ carried_words step held (drop (2 * w + x) row) ≡ line

module _ (step : WordStep) (w : ℕ) where
  pub front_start : (row : List ℕ) → Front step w (carried_words step 0 (drop (2 * w) row)) 0 0 row
  front_start row = record { made = ap (λ (n : ℕ). carried_words step 0 (drop n row)) (add-zero (2 * w)) }

  module _ (line : List ℕ) (x held : ℕ) (row : List ℕ) (long : length row ≡ 3 * w) (f : Front step w line x held row) where
    pub front_end : w ≤ x → row ≡ line
    unfolding carried_words
    front_end h =
        let t : take (3 * x) row ≡ row = take_all (3 * x) row (rw long (omega (arith, h))) in
        let d : drop (2 * w + x) row ≡ [] = drop_of_length-le row {i = 2 * w + x} (rw long (omega (arith, h))) in
        sym (append-nil row) ∙ rw (t, d) at f.made

    module _
        (v : ℕ) (new over : List ℕ) (is : v ≡ step held (get_or row (2 * w + x) 0)) (less : x < w)
        (room : 3 * x + (3 + length over) ≤ 2 * w + (x + 1))
        (e : new ≡ paste row (3 * x) (word_bytes v ++ over) (3 + length over))
      where
        abbrev n : ℕ
        n = 3 + length over

        inside_row : 3 * x + n ≤ length row
        inside_row = rw long (omega (arith, less, room))

        written : length (word_bytes v ++ over) ≡ n
        written = length-append (word_bytes v) over

        front_long : length (take (3 * x) row ++ word_bytes v) ≡ 3 * (x + 1)
        front_long =
            let t : length (take (3 * x) row) ≡ 3 * x = length-take (3 * x) row ∙ min-eq_left (omega (arith, inside_row)) in
            length-append (take (3 * x) row) (word_bytes v) ∙ rw t (omega arith)

        new_front : take (3 * (x + 1)) new ≡ take (3 * x) row ++ word_bytes v
        new_front =
            let whole : take n (word_bytes v ++ over) ≡ word_bytes v ++ over = take_all n (word_bytes v ++ over) (rw written (omega arith)) in
            let head = take (3 * x) row in
            let tail = drop (3 * x + n) row in
            let p : new ≡ (head ++ word_bytes v) ++ (over ++ tail) =
            e ∙ rw whole (ap (λ (q : List ℕ). q ++ tail) (sym (append_assoc head (word_bytes v) over)))
            ∙ append_assoc (head ++ word_bytes v) over tail in
            ap (take (3 * (x + 1))) p ∙ take_at (head ++ word_bytes v) (over ++ tail) (3 * (x + 1)) front_long

        numbers_left : drop (2 * w + (x + 1)) new ≡ drop (2 * w + (x + 1)) row
        numbers_left =
            let k : 3 * x + n + (2 * w + (x + 1) - (3 * x + n)) ≡ 2 * w + (x + 1) = omega (arith, room) in
            let d : drop (3 * x + n) new ≡ drop (3 * x + n) row =
            ap (drop (3 * x + n)) e
            ∙ drop-paste row (3 * x) (word_bytes v ++ over) n (omega (arith, inside_row)) (rw written (omega arith)) in
            rw (← k, ← drop-drop (2 * w + (x + 1) - (3 * x + n)) (3 * x + n) new, d, drop-drop)

        pub front_next : Front step w line (x + 1) v new
        unfolding carried_words
        front_next =
            let next : suc (2 * w + x) ≡ 2 * w + (x + 1) = omega arith in
            let c : drop (2 * w + x) row ≡ get_or row (2 * w + x) 0 ∷ drop (2 * w + (x + 1)) row =
            drop-cons row (2 * w + x) 0 (rw long (omega (arith, less)))
            ∙ ap (λ (m : ℕ). get_or row (2 * w + x) 0 ∷ drop m row) next in
            let all : take (3 * x) row ++ (word_bytes v ++ carried_words step v (drop (2 * w + (x + 1)) row)) ≡ line =
            rw is (rw c at f.made) in
            record { made = rw (new_front, numbers_left) (append_assoc (take (3 * x) row) (word_bytes v) _ ∙ all) }

-- the way that is taken
module _ (hold : Bool) (keep set codes new : List ℕ) where
  pub way_of_holding :
      hold ≡ true → new ≡ carried_words (by_holding keep set) 0 codes → new ≡ carried_words (step_by hold keep set) 0 codes
  way_of_holding e i = rw e i

  pub way_of_palette : hold ≡ false → new ≡ carried_words (by_palette set) 0 codes → new ≡ carried_words (step_by hold keep set) 0 codes
  way_of_palette e i = rw e i
