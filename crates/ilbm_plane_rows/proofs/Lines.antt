-- A scan line is told of as its rows are, and its colours are gathered from the first of them, one for each plane.
use Prim.Native.Nat.{ℕ, zero, suc, ◌*◌, ◌≤◌}
use mathlib.Core.Path.{◌≡◌, refl, sym, ap, ◌∙◌}
use mathlib.Core.List.{List, ◌∷◌}
use lib.ListN.{take, drop}
use native.Mathlib.Omega.{arith}
use Rattle.ilbm_spec.specs.Rows.{row_length, Read, then_read, IsRead, rows_from, colours_from, Pixels, line_with, line_by, line_answer}
use Rattle.ilbm_spec.specs.Rows.{bytes_after}
use Rattle.ilbm_gather.specs.Buffer.{rows_in}
use Rattle.ilbm_plane_rows.proofs.Judging.{answered_next, answered_refusal}
use Rattle.iff_refusal.specs.declared.Refusal.{Refusal}
use Rattle.iff_refusal.specs.Numbers.{Answer}
use Rattle.iff_tree.specs.Judge.{found, refused}
use Rattle.std.specs.Prelude.{Ok, Err}

pub count_room : (rows m k len : ℕ) → rows ≡ m → m * k ≤ len → rows * k ≤ len
count_room rows m k len e h = rw e h

pub rows_fit : (w rows n len : ℕ) → n ≡ row_length w → rows * row_length w ≤ len → rows * n ≤ len
rows_fit w rows n len e h = rw e h

-- the first rows of a buffer
rows_first : (n m p k : ℕ) (buffer : List ℕ) → p ≤ m → take p (rows_in n m k buffer) ≡ rows_in n p k buffer
unfolding rows_in
rows_first n m zero k buffer h = refl
rows_first n zero (suc p) k buffer h = absurd (omega arith)
rows_first n (suc m) (suc p) k buffer h =
    ap (λ (l : List (List ℕ)). take n (drop (k * n) buffer) ∷ l) (rows_first n m p (suc k) buffer (omega arith))

module _ (compression : ℕ) (body : List ℕ) (w planes rows at n : ℕ) (e : n ≡ row_length w) where
  pub rows_read : IsRead (rows_from compression body (row_length w) rows at) → IsRead (rows_from compression body n rows at)
  rows_read i = rw e i

  pub line_written :
      (buffer row : List ℕ) (q m : ℕ) → m ≡ w → planes ≤ rows → rows_from compression body n rows at ≡ found ((rows_in n rows 0 buffer), q) →
      row ≡ colours_from 0 m (rows_in n planes 0 buffer) → line_by compression w planes rows body at ≡ found (row, q)
  line_written buffer row q m l h f g =
      let a : rows_from compression body (row_length w) rows at ≡ found ((rows_in n rows 0 buffer), q) = rw (← e) f in
      rw (a, rows_first n rows planes 0 buffer h, g, l)

-- what was judged of the rows
module _ (compression : ℕ) (body : List ℕ) (w rows at n : ℕ) (e : n ≡ row_length w) where
  module _ (r : Answer ℕ) (j : r ≡ line_answer (rows_from compression body n rows at)) where
    pub rows_judged : (q : ℕ) → r ≡ Ok q → IsRead (rows_from compression body (row_length w) rows at)
    rows_judged q d = answered_next (rows_from compression body (row_length w) rows at) r (rw e at j) q d

    -- whatever is made of them
    module _ (pixels : Pixels) (m : ℕ) (c : rows ≡ m) where
      pub line_answered : r ≡ line_answer (line_with pixels compression (row_length w) m body at)
      line_answered = rw (← c) (rw e at j ∙ go (rows_from compression body (row_length w) rows at))
        where
          go : (v : Read (List (List ℕ))) → line_answer v ≡ line_answer (then_read v (λ plane_rows q. found ((pixels plane_rows), q)))
          go (found (a, p)) = refl
          go (refused k p) = refl

      module _ (old : List ℕ) where
        pub line_read_lem :
            (new : List ℕ) (q p : ℕ) → r ≡ Ok q → line_with pixels compression (row_length w) rows body at ≡ found (new, p) →
            let v = line_with pixels compression (row_length w) m body at in (Ok q ≡ line_answer v) × (new ≡ bytes_after v old)
        line_read_lem new q p d i =
            let read : line_with pixels compression (row_length w) m body at ≡ found (new, p) = rw c at i in
            (sym d ∙ line_answered, sym (ap (λ v. bytes_after v old) read))

        pub line_refusal :
            (o : Refusal) → r ≡ Err o →
            let v = line_with pixels compression (row_length w) m body at in (Err o ≡ line_answer v) × (old ≡ bytes_after v old)
        line_refusal o d =
            let v : Read (List ℕ) = line_with pixels compression (row_length w) m body at in
            let told : Err o ≡ line_answer v = sym d ∙ line_answered in
            (told, answered_refusal v o old (sym told))

pub ruleset lines = (count_room, rows_fit, rows_read, line_written)
