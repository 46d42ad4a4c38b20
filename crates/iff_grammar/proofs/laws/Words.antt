-- Four bytes and the number that they are, and what is left of a file behind them.
use Rattle.std.specs.Prelude.{ℕ, zero, suc, ◌+◌, ◌*◌, ◌-◌, ◌/◌, ◌%◌, ◌≤◌, ◌<◌, ◌≡◌, refl, List, [], ◌∷◌, ◌++◌, length, get_or, take, drop}
use Rattle.std.proofs.Common.{sym, ap, ap₂, ◌∙◌, add-zero, zero-add, suc-add, arith, length-append, length-drop, take-append-drop}
use Rattle.std.proofs.Common.{get_or-drop, drop-drop, drop_at, take_at, take-add}
use Rattle.std.proofs.Math.Seq.{slice, slice-cons, take-nil}
use Rattle.iff_chunk.specs.Chunks.{put_word, word}
use Rattle.iff_grammar.specs.Words.{Bytes}

here : (s : List ℕ) (p : ℕ) → get_or s p 0 ≡ get_or (drop p s) 0 0
here s p = ap (λ (k : ℕ). get_or s k 0) (sym (add-zero p)) ∙ sym (get_or-drop p s 0 0)

-- a word is read from what stands from its place on
word_drop : (s : List ℕ) (p : ℕ) → word s p ≡ word (drop p s) 0
unfolding word
word_drop s p = rw (here s p, ← get_or-drop p s 1 0, ← get_or-drop p s 2 0, ← get_or-drop p s 3 0)

word_put : (n : ℕ) (xs : List ℕ) → n < 4294967296 → word (put_word n xs) 0 ≡ n
unfolding word
word_put n xs h = omega arith

pub word_at : (s : List ℕ) (p n : ℕ) (xs : List ℕ) → n < 4294967296 → drop p s ≡ put_word n xs → word s p ≡ n
word_at s p n xs h e = word_drop s p ∙ ap (λ (l : List ℕ). word l 0) e ∙ word_put n xs h

-- what stands k further on
pub drop_on : (s xs ys : List ℕ) (p k : ℕ) → drop p s ≡ xs → drop k xs ≡ ys → drop (p + k) s ≡ ys
drop_on s xs ys p k e f = sym (drop-drop k p s) ∙ ap (λ (l : List ℕ). drop k l) e ∙ f

pub drop_word : (s : List ℕ) (p q n : ℕ) (xs : List ℕ) → drop p s ≡ put_word n xs → p + 4 ≡ q → drop q s ≡ xs
drop_word s p q n xs e f = ap (λ (k : ℕ). drop k s) (sym f) ∙ drop_on s (put_word n xs) xs p 4 e refl

-- what stands behind bytes that stand at a place
pub drop_past : (s xs ys : List ℕ) (p q : ℕ) → drop p s ≡ xs ++ ys → p + length xs ≡ q → drop q s ≡ ys
drop_past s xs ys p q e f = ap (λ (k : ℕ). drop k s) (sym f) ∙ drop_on s (xs ++ ys) ys p (length xs) e (drop_at xs ys (length xs) refl)

-- bytes that stand at a place fit the file
pub fits : (s xs ys : List ℕ) (p : ℕ) → 0 < length xs → drop p s ≡ xs ++ ys → p + length xs + length ys ≡ length s
fits s xs ys p h e =
    let a : length s - p ≡ length xs + length ys = sym (length-drop p s) ∙ ap length e ∙ length-append xs ys in
    omega arith

-- a part, as so many bytes from a place on
pub slice_take : (s : List ℕ) (p k : ℕ) → slice p (p + k) s ≡ take k (drop p s)
slice_take s zero k = rw (zero-add k)
slice_take [] (suc p) k = rw (suc-add p k, take-nil {A = ℕ} k)
slice_take (x ∷ xs) (suc p) k = rw (suc-add p k) (slice_take xs p k)

pub slice_at : (s xs ys : List ℕ) (p q : ℕ) → drop p s ≡ xs ++ ys → p + length xs ≡ q → slice p q s ≡ xs
slice_at s xs ys p q e f =
    ap (λ (k : ℕ). slice p k s) (sym f) ∙ slice_take s p (length xs) ∙ ap (λ (l : List ℕ). take (length xs) l) e ∙ take_at xs ys (length xs) refl

-- two parts that meet
pub slice_join : (s : List ℕ) (p q r : ℕ) → p ≤ q → q ≤ r → slice p r s ≡ slice p q s ++ slice q r s
slice_join s p q r h k =
    let a : ℕ = q - p in
    let b : ℕ = r - q in
    let ea : p + a ≡ q = omega arith in
    let eb : q + b ≡ r = omega arith in
    let er : p + (a + b) ≡ r = omega arith in
    let one : slice p q s ≡ take a (drop p s) = ap (λ (m : ℕ). slice p m s) (sym ea) ∙ slice_take s p a in
    let two : slice q r s ≡ take b (drop q s) = ap (λ (m : ℕ). slice q m s) (sym eb) ∙ slice_take s q b in
    let all : slice p r s ≡ take (a + b) (drop p s) = ap (λ (m : ℕ). slice p m s) (sym er) ∙ slice_take s p (a + b) in
    let gone : drop a (drop p s) ≡ drop q s = drop-drop a p s ∙ ap (λ (m : ℕ). drop m s) ea in
    all ∙ take-add a b (drop p s) ∙ ap₂ (λ (x y : List ℕ). x ++ y) (sym one) (ap (λ (l : List ℕ). take b l) gone ∙ sym two)

-- what stands from a place on, cut at another
pub drop_slice : (s : List ℕ) (p q : ℕ) → p ≤ q → drop p s ≡ slice p q s ++ drop q s
drop_slice s p q h =
    let a : ℕ = q - p in
    let ea : p + a ≡ q = omega arith in
    let one : slice p q s ≡ take a (drop p s) = ap (λ (m : ℕ). slice p m s) (sym ea) ∙ slice_take s p a in
    let gone : drop a (drop p s) ≡ drop q s = drop-drop a p s ∙ ap (λ (m : ℕ). drop m s) ea in
    sym (take-append-drop a (drop p s)) ∙ ap₂ (λ (x y : List ℕ). x ++ y) (sym one) gone

put_back : (a b c d : ℕ) (xs : List ℕ) → a < 256 → b < 256 → c < 256 → d < 256
    → a ∷ b ∷ c ∷ d ∷ xs ≡ put_word (a * 16777216 + b * 65536 + c * 256 + d) xs
put_back a b c d xs ha hb hc hd =
    let n : ℕ = a * 16777216 + b * 65536 + c * 256 + d in
    let e₀ : n / 16777216 ≡ a = omega arith in
    let e₁ : n / 65536 % 256 ≡ b = omega arith in
    let e₂ : n / 256 % 256 ≡ c = omega arith in
    let e₃ : n % 256 ≡ d = omega arith in
    cc

-- four bytes are the word that is read from them
pub slice_word : (s : List ℕ) (p q : ℕ) → Bytes s → p + 4 ≤ q → q ≤ length s → slice p q s ≡ put_word (word s p) (slice (p + 4) q s)
unfolding word
slice_word s p q b h k =
    let e₀ : slice p q s ≡ get_or s p 0 ∷ slice (p + 1) q s = step p (p + 1) (omega arith) (omega arith) in
    let e₁ : slice (p + 1) q s ≡ get_or s (p + 1) 0 ∷ slice (p + 2) q s = step (p + 1) (p + 2) (omega arith) (omega arith) in
    let e₂ : slice (p + 2) q s ≡ get_or s (p + 2) 0 ∷ slice (p + 3) q s = step (p + 2) (p + 3) (omega arith) (omega arith) in
    let e₃ : slice (p + 3) q s ≡ get_or s (p + 3) 0 ∷ slice (p + 4) q s = step (p + 3) (p + 4) (omega arith) (omega arith) in
    let all : slice p q s ≡ get_or s p 0 ∷ get_or s (p + 1) 0 ∷ get_or s (p + 2) 0 ∷ get_or s (p + 3) 0 ∷ slice (p + 4) q s = cc in
    all ∙ put_back (get_or s p 0) (get_or s (p + 1) 0) (get_or s (p + 2) 0) (get_or s (p + 3) 0) (slice (p + 4) q s) (b p) (b (p + 1)) (b (p + 2)) (b (p + 3))
  where
    step : (i j : ℕ) → suc i ≡ j → i < q → slice i q s ≡ get_or s i 0 ∷ slice j q s
    step i j e l = slice-cons i q s 0 l k ∙ ap (λ (m : ℕ). get_or s i 0 ∷ slice m q s) e
