-- The mask row is the first row of what lies behind those of the planes. Of the pixels before x each shows or not by its colour; one turn
-- of the loop adds the next. The masking tells which of the three shapes it is.
use Prim.Native.Nat.{ℕ, ◌+◌, ◌-◌, ◌*◌, ◌<◌, ◌≤◌}
use mathlib.Core.Path.{◌≡◌, refl, ap, ◌∙◌}
use mathlib.Core.List.{List, [], ◌∷◌, ◌++◌, append-nil}
use lib.Dec.{eqb}
use lib.ListN.{length, get_or, take, drop, set, replicate, length-drop, length-replicate, drop_of_length-le}
use lib.Seq.{paste, take-suc, take-suc-set, take_all}
use native.Mathlib.Nat.{zero-mul, add-mul, one-mul}
use native.Mathlib.Numerals.{add-one}
use native.Mathlib.Omega.{arith}
use borrow.Author.Tests.{eq-eqb, ne_eqb}
use Rattle.iff_name.specs.Name.{pick}
use Rattle.ilbm_spec.specs.Rows.{mask_rows, rows_in_line, colours_from}
use Rattle.ilbm_spec.specs.Shapes.{opaque, shape_by}
use Rattle.ilbm_gather.specs.Buffer.{rows_in}

-- ---- the mask row

module _ (planes n : ℕ) (buffer : List ℕ) (h : (planes + 1) * n ≤ length buffer) where
  mask_end : planes * n + n ≤ length buffer
  mask_end = omega (arith, add-mul planes 1 n, one-mul n)

  pub mask_room : 1 * n ≤ length (take (length buffer - planes * n) (drop (planes * n) buffer))
  mask_room =
      let all = take_all (length buffer - planes * n) (drop (planes * n) buffer) (rw length-drop (omega arith)) in
      rw (all, length-drop) (omega (arith, mask_end, one-mul n))

pub mask_gathered :
    (planes n len : ℕ) (buffer new : List ℕ) →
    new ≡ colours_from 0 len (rows_in n 1 0 (take (length buffer - planes * n) (drop (planes * n) buffer))) →
    new ≡ colours_from 0 len (rows_in n 1 planes buffer)
unfolding rows_in
mask_gathered planes n len buffer new e =
    let all = take_all (length buffer - planes * n) (drop (planes * n) buffer) (rw length-drop (omega arith)) in
    rw (all, zero-mul n) at e

-- ---- the transparent colour

pub transparent_hidden : (c t : ℕ) → c ≡ t → ◌≡◌ {A = ℕ} 0 (pick (eqb c t) 0 1)
transparent_hidden c t e = rw (eq-eqb c t e)

pub other_shows : (c t : ℕ) → (c ≡ t → ⊥) → ◌≡◌ {A = ℕ} 1 (pick (eqb c t) 0 1)
other_shows c t e = rw (ne_eqb c t e)

opaque_last : (t : ℕ) (cs : List ℕ) (c : ℕ) → opaque t (cs ++ (c ∷ [])) ≡ opaque t cs ++ (pick (eqb c t) 0 1 ∷ [])
unfolding opaque
opaque_last t [] c = refl
opaque_last t (x ∷ xs) c = ap (λ (l : List ℕ). pick (eqb x t) 0 1 ∷ l) (opaque_last t xs c)

-- the first x pixels have their shape
pub record Told (t : ℕ) (row : List ℕ) (x : ℕ) (shape : List ℕ) : Type 0 where
  pub is : take x shape ≡ opaque t (take x row)

module _ (t : ℕ) (row : List ℕ) where
  pub told_start : (shape : List ℕ) → Told t row 0 shape
  unfolding opaque
  told_start shape = record { is = refl }

  module _ (x : ℕ) (shape : List ℕ) (told : Told t row x shape) where
    pub told_more :
        (c v m : ℕ) → x < length shape → length shape ≡ m → length row ≡ m → c ≡ get_or row x 0 → v ≡ pick (eqb c t) 0 1 →
        Told t row (x + 1) (set shape x v)
    told_more c v m h l k i e =
        let inside : x < length row = omega arith in
        let last = opaque_last t (take x row) (get_or row x 0) in
        record { is = rw (add-one, take-suc-set shape x v h, take-suc row x 0 inside, last, told.is, e, i) }

-- ---- all of them

pub all_ones : (old new : List ℕ) → new ≡ paste old 0 (replicate (length old) 1) (length old) → new ≡ replicate (length old) 1
all_ones old new e =
    let l : length old ≤ 0 + length old = omega arith in
    let none : drop (0 + length old) old ≡ [] = drop_of_length-le old l in
    let ones : List ℕ = replicate (length old) 1 in
    let all : take (length old) ones ≡ ones = take_all (length old) ones (omega (arith, length-replicate {A = ℕ} (length old) 1)) in
    e ∙ rw (all, none) (append-nil ones)

-- ---- by the masking

module _ (masking transparent : ℕ) (colours new : List ℕ) where
  pub by_mask : masking ≡ 1 → (n planes len : ℕ) (buffer : List ℕ) →
      new ≡ colours_from 0 len (rows_in n 1 planes buffer) →
      new ≡ shape_by masking transparent colours (colours_from 0 len (rows_in n (mask_rows masking) planes buffer))
  unfolding shape_by
  by_mask e n planes len buffer i = rw (eq-eqb masking 1 e) i

  module _ (mask : List ℕ) (e : masking ≡ 1 → ⊥) where
    pub by_colour : masking ≡ 2 → new ≡ opaque transparent colours → new ≡ shape_by masking transparent colours mask
    unfolding shape_by
    by_colour f i = rw (ne_eqb masking 1 e, eq-eqb masking 2 f) i

    pub by_none :
        (masking ≡ 2 → ⊥) → (len : ℕ) → length colours ≡ len → new ≡ replicate len 1 → new ≡ shape_by masking transparent colours mask
    unfolding shape_by
    by_none f len l i = rw (ne_eqb masking 1 e, ne_eqb masking 2 f, l) i

pub mask_counts : (planes masking n len : ℕ) → masking ≡ 1 → rows_in_line planes masking * n ≤ len → (planes + 1) * n ≤ len
mask_counts planes masking n len e h = rw (eq-eqb masking 1 e) at h

pub ruleset shapes = (mask_room, transparent_hidden, other_shows, told_start, told_more, by_mask, by_colour, by_none, mask_counts)
