-- The planes of a line give back its colour numbers: byte and bit of a pixel in a plane row are the pixel's bit of that weight, and the
-- weighted bits of a number under 2^planes add up to it.
use Rattle.std.specs.Prelude.{ℕ, zero, suc, ◌+◌, ◌-◌, ◌*◌, ◌/◌, ◌%◌, ◌^◌, ◌≤◌, ◌<◌, ◌≡◌, refl, List, [], ◌∷◌, length, get_or, take, drop}
use Rattle.std.proofs.Common.{sym, ap, ◌∙◌, drop_of_length-le, drop-cons, add-zero, zero-add, pow-suc, div-one, add-mul, mul_assoc, mul_comm, mul-one, arith}
use Rattle.std.proofs.Math.ListN.{get_or-eq_default}
use Rattle.std.proofs.Math.Nat.{div-div-eq-div-mul, zero-div}
use Rattle.ilbm_spec.specs.Rows.{row_length, bit_at, colour_by, colours_from}
use Rattle.write_plane_row.specs.Planes.{plane_bit, plane_byte, plane_row}

-- ---- one plane row

pub row_length_lem : (weight : ℕ) (line : List ℕ) (j n : ℕ) → length (plane_row weight line j n) ≡ n
unfolding plane_row
row_length_lem weight line j zero = refl
row_length_lem weight line j (suc n) = ap suc (row_length_lem weight line (j + 1) n)

row_byte : (weight : ℕ) (line : List ℕ) (j n i : ℕ) → i < n → get_or (plane_row weight line j n) i 0 ≡ plane_byte weight line (j + i)
unfolding plane_row
row_byte weight line j zero i h = absurd (omega arith)
row_byte weight line j (suc n) zero h = rw (add-zero j)
row_byte weight line j (suc n) (suc i) h =
    let e : j + 1 + i ≡ j + suc i = omega arith in
    row_byte weight line (j + 1) n i (omega arith) ∙ ap (λ (m : ℕ). plane_byte weight line m) e

-- the bits of a byte, the highest first
abbrev of_bits : ℕ → ℕ → ℕ → ℕ → ℕ → ℕ → ℕ → ℕ → ℕ
of_bits a b c d e f g h = a * 128 + b * 64 + c * 32 + d * 16 + e * 8 + f * 4 + g * 2 + h

-- which bit that is: bit 7 - r, for r from 0 to 7
abbrev bit_of : ℕ → ℕ → ℕ → ℕ → ℕ → ℕ → ℕ → ℕ → ℕ → ℕ
bit_of zero a b c d e f g h = a
bit_of (suc zero) a b c d e f g h = b
bit_of (suc (suc zero)) a b c d e f g h = c
bit_of (suc (suc (suc zero))) a b c d e f g h = d
bit_of (suc (suc (suc (suc zero)))) a b c d e f g h = e
bit_of (suc (suc (suc (suc (suc zero))))) a b c d e f g h = f
bit_of (suc (suc (suc (suc (suc (suc zero)))))) a b c d e f g h = g
bit_of (suc (suc (suc (suc (suc (suc (suc r))))))) a b c d e f g h = h

bit_of_lem :
    (r a b c d e f g h : ℕ) → r < 8 → a < 2 → b < 2 → c < 2 → d < 2 → e < 2 → f < 2 → g < 2 → h < 2 →
    of_bits a b c d e f g h / 2 ^ (7 - r) % 2 ≡ bit_of r a b c d e f g h
bit_of_lem zero a b c d e f g h l ha hb hc hd he hf hg hh = omega arith
bit_of_lem (suc zero) a b c d e f g h l ha hb hc hd he hf hg hh = omega arith
bit_of_lem (suc (suc zero)) a b c d e f g h l ha hb hc hd he hf hg hh = omega arith
bit_of_lem (suc (suc (suc zero))) a b c d e f g h l ha hb hc hd he hf hg hh = omega arith
bit_of_lem (suc (suc (suc (suc zero)))) a b c d e f g h l ha hb hc hd he hf hg hh = omega arith
bit_of_lem (suc (suc (suc (suc (suc zero))))) a b c d e f g h l ha hb hc hd he hf hg hh = omega arith
bit_of_lem (suc (suc (suc (suc (suc (suc zero)))))) a b c d e f g h l ha hb hc hd he hf hg hh = omega arith
bit_of_lem (suc (suc (suc (suc (suc (suc (suc zero))))))) a b c d e f g h l ha hb hc hd he hf hg hh = omega arith
bit_of_lem (suc (suc (suc (suc (suc (suc (suc (suc r)))))))) a b c d e f g h l ha hb hc hd he hf hg hh = absurd (omega arith)

pixel_bit :
    (r weight : ℕ) (line : List ℕ) (q : ℕ) → r < 8 →
    bit_of r (plane_bit weight line q) (plane_bit weight line (q + 1)) (plane_bit weight line (q + 2)) (plane_bit weight line (q + 3)) (plane_bit weight line (q + 4))
    (plane_bit weight line (q + 5)) (plane_bit weight line (q + 6)) (plane_bit weight line (q + 7))
    ≡ plane_bit weight line (q + r)
pixel_bit zero weight line q l = rw (add-zero q)
pixel_bit (suc zero) weight line q l = refl
pixel_bit (suc (suc zero)) weight line q l = refl
pixel_bit (suc (suc (suc zero))) weight line q l = refl
pixel_bit (suc (suc (suc (suc zero)))) weight line q l = refl
pixel_bit (suc (suc (suc (suc (suc zero))))) weight line q l = refl
pixel_bit (suc (suc (suc (suc (suc (suc zero)))))) weight line q l = refl
pixel_bit (suc (suc (suc (suc (suc (suc (suc zero))))))) weight line q l = refl
pixel_bit (suc (suc (suc (suc (suc (suc (suc (suc r)))))))) weight line q l = absurd (omega arith)

byte_bit : (weight : ℕ) (line : List ℕ) (j r : ℕ) → r < 8 → plane_byte weight line j / 2 ^ (7 - r) % 2 ≡ plane_bit weight line (8 * j + r)
unfolding plane_byte
byte_bit weight line j r l =
    bit_of_lem r _ _ _ _ _ _ _ _ l (low _) (low _) (low _) (low _) (low _) (low _) (low _) (low _) ∙ pixel_bit r weight line (8 * j) l
  where
    low : (n : ℕ) → n % 2 < 2
    low n = omega arith

-- the bit of a pixel in a plane row of n bytes
pub bit_back : (weight : ℕ) (line : List ℕ) (n x : ℕ) → x / 8 < n → bit_at (plane_row weight line 0 n) x ≡ plane_bit weight line x
bit_back weight line n x h =
    let at : 8 * (x / 8) + x % 8 ≡ x = omega arith in
    let e : get_or (plane_row weight line 0 n) (x / 8) 0 ≡ plane_byte weight line (x / 8) = row_byte weight line 0 n (x / 8) h ∙
    ap (λ (m : ℕ). plane_byte weight line m) (zero-add (x / 8)) in
    rw e (byte_bit weight line (x / 8) (x % 8) (omega arith) ∙ ap (λ (m : ℕ). plane_bit weight line m) at)

-- ---- all planes of a line

-- so many plane rows of n bytes, from the plane of this weight on
unfoldable pub plane_rows : ℕ → List ℕ → ℕ → ℕ → List (List ℕ)
plane_rows n line weight zero = []
plane_rows n line weight (suc rows) = plane_row weight line 0 n ∷ plane_rows n line (weight * 2) rows

pub rows_count : (n : ℕ) (line : List ℕ) (weight rows : ℕ) → length (plane_rows n line weight rows) ≡ rows
unfolding plane_rows
rows_count n line weight zero = refl
rows_count n line weight (suc rows) = ap suc (rows_count n line (weight * 2) rows)

-- a number's lowest bit and the rest
halves : (d weight : ℕ) → d % 2 * weight + d / 2 * (weight * 2) ≡ d * weight
halves d weight =
    let e : d % 2 + d / 2 * 2 ≡ d = omega arith in
    let s : d / 2 * (weight * 2) ≡ d / 2 * 2 * weight = rw (mul_comm weight 2, mul_assoc (d / 2) 2 weight) in
    rw (s, ← add-mul (d % 2) (d / 2 * 2) weight, e)

-- planes from the one of weight v on, read with weights from `weight` on
pub colour_back :
    (n : ℕ) (line : List ℕ) (x : ℕ) → x / 8 < n → (rows v weight : ℕ) → get_or line x 0 / v < 2 ^ rows →
    colour_by weight x (plane_rows n line v rows) ≡ get_or line x 0 / v * weight
unfolding plane_rows colour_by
colour_back n line x h zero v weight l = let z : get_or line x 0 / v ≡ 0 = omega arith in rw z (omega arith)
colour_back n line x h (suc rows) v weight l =
    let c : ℕ = get_or line x 0 in
    let m : c / v < 2 ^ rows * 2 = rw pow-suc at l in
    let s : c / (v * 2) ≡ c / v / 2 = sym (div-div-eq-div-mul c v 2) in
    let u : c / v / 2 < 2 ^ rows = omega arith in
    let r = colour_back n line x h rows (v * 2) (weight * 2) (rw s u) in
    rw (bit_back v line n x h, r, s) (halves (c / v) weight)

-- every colour number is below a bound
unfoldable pub Below : ℕ → List ℕ → Type 0
Below most [] = Unit {0}
Below most (c ∷ cs) = (c < most) × Below most cs

pub below_at : (most : ℕ) (cs : List ℕ) → Below most cs → (x : ℕ) → x < length cs → get_or cs x 0 < most
unfolding Below
below_at most [] b x h = absurd (omega arith)
below_at most (c ∷ cs) b zero h = b.0
below_at most (c ∷ cs) b (suc x) h = below_at most cs b.1 x (omega arith)

pub below_take : (most n : ℕ) (cs : List ℕ) → Below most cs → Below most (take n cs)
unfolding Below
below_take most zero cs b = tt
below_take most (suc n) [] b = tt
below_take most (suc n) (c ∷ cs) b = (b.0, below_take most n cs b.1)

pub below_drop : (most n : ℕ) (cs : List ℕ) → Below most cs → Below most (drop n cs)
unfolding Below
below_drop most zero cs b = b
below_drop most (suc n) [] b = tt
below_drop most (suc n) (c ∷ cs) b = below_drop most n cs b.1

colours_from_lem :
    (planes : ℕ) (line : List ℕ) (n : ℕ) → length line ≤ 8 * n → Below (2 ^ planes) line → (count x : ℕ) → x + count ≡ length line →
    colours_from x count (plane_rows n line 1 planes) ≡ drop x line
unfolding colours_from
colours_from_lem planes line n f b zero x e = let l : length line ≤ x = omega arith in sym (drop_of_length-le line l)
colours_from_lem planes line n f b (suc count) x e =
    let l : get_or line x 0 < 2 ^ planes = below_at (2 ^ planes) line b x (omega arith) in
    let one : get_or line x 0 / 1 ≡ get_or line x 0 = div-one (get_or line x 0) in
    let h : x / 8 < n = omega arith in
    let c : colour_by 1 x (plane_rows n line 1 planes) ≡ get_or line x 0 =
    colour_back n line x h planes 1 1 (rw one l) ∙ rw one (mul-one (get_or line x 0)) in
    rw (c, colours_from_lem planes line n f b count (suc x) (omega arith)) (sym (drop-cons line x 0 (omega arith)))

-- the colour numbers of a line
pub colours_back_lem :
    (w planes : ℕ) (line : List ℕ) → length line ≡ w → Below (2 ^ planes) line →
    colours_from 0 w (plane_rows (row_length w) line 1 planes) ≡ line
colours_back_lem w planes line e b = colours_from_lem planes line (row_length w) (omega arith) b w 0 (omega arith)

-- "row bits from w on are 0"
pub spare_bits : (weight : ℕ) (line : List ℕ) (n x : ℕ) → length line ≤ x → x / 8 < n → bit_at (plane_row weight line 0 n) x ≡ 0
spare_bits weight line n x h l = bit_back weight line n x l ∙ rw (get_or-eq_default line 0 h, zero-div)
