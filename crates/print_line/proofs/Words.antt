-- Bytes are put behind a text, and then a last byte. The letters of a word are its bytes before the zeros at its end.
use Prim.Native.Nat.{ℕ, zero, suc, ◌+◌, ◌-◌, ◌*◌, ◌/◌, ◌%◌, ◌^◌, ◌≤◌, ◌<◌}
use mathlib.Core.Bool.{Bool, true, false}
use mathlib.Core.Path.{◌≡◌, refl}
use mathlib.Core.List.{List, [], ◌∷◌, ◌++◌, append_assoc}
use native.Mathlib.Omega.{arith}
use native.Mathlib.Numerals.{add-one}
use native.Mathlib.Nat.{pow-suc, zero-lt-suc}
use lib.Dec.{ltb}
use lib.Arith.{mod-mul}
use lib.Pow.{pow_pos}
use lib.Count.{count_trailing_zeros, under}
use lib.ListN.{length, take, drop, set, length-append, length-drop}
use lib.Seq.{take-suc-set, length-take-le, take_at}
use borrow.Rule.Slice.PartMut.{put_mid, post_of, same_len_mid}
use borrow.Author.Tests.{ltb-true, ltb-false}
use Rattle.std.specs.Int.{byte_at, bytes_high_first}
use Rattle.print_line.specs.Text.{Puts}
use Rattle.print_line.specs.Words.{letters_up_to, letters}

-- bytes are put, and then a last byte
pub bytes_put :
    (out bytes : List ℕ) (at v : ℕ) → at + length bytes + 1 ≤ length out →
    Puts out at (bytes ++ (v ∷ [])) (set (put_mid at (at + length bytes - at) out bytes) (at + length bytes) v) (at + length bytes + 1)
bytes_put out bytes at v h =
    let k : ℕ = at + length bytes in
    let rest : List ℕ = drop at out in
    let after : List ℕ = post_of at (k - at) out in
    let all : List ℕ = put_mid at (k - at) out bytes in
    let mid : length bytes ≡ length (take (k - at) rest) = rw (length-take-le (k - at) rest (rw length-drop (omega arith))) (omega arith) in
    let room : k < length all = rw (same_len_mid at (k - at) out bytes mid) (omega arith) in
    let text : List ℕ = take at out ++ bytes in
    let front : length text ≡ k = rw (length-append, length-take-le at out (omega arith)) in
    let put : take k all ≡ text = rw (← append_assoc (take at out) bytes after) (take_at text after k front) in
    (rw length-append (omega arith), rw (add-one k, take-suc-set all k v room, put) (append_assoc (take at out) bytes (v ∷ [])))

-- how the number of zeros at a number's end tells whether its last j digits are zeros
abbrev pub Zeros : ℕ → ℕ → ℕ → Type 0
Zeros n t j = (n % 2 ^ j ≡ 0 → j ≤ t) × (0 < n % 2 ^ j → t < j)

zeros_more : (n j t d : ℕ) → n % 2 ≡ d → Zeros (n / 2) t j → Zeros n (under d t) (suc j)
zeros_more n j t d e rest = by_cases d e
  where
    halved : n % 2 ^ suc j ≡ (n / 2 % 2 ^ j) * 2 + n % 2
    halved = rw (pow-suc 2 j) (mod-mul n (pow_pos j) (zero-lt-suc 1))

    by_cases : (d : ℕ) → n % 2 ≡ d → Zeros n (under d t) (suc j)
    by_cases zero e = let h = halved in (λ z. omega (arith, rest.0 (omega arith)), λ z. omega (arith, rest.1 (omega arith)))
    by_cases (suc d) e = let h = halved in (λ z. absurd (omega arith), λ z. omega arith)

zeros : (b n j : ℕ) → j ≤ b → Zeros n (count_trailing_zeros b n) j
unfolding count_trailing_zeros
zeros b n zero h = (λ e. omega arith, λ e. absurd (omega arith))
zeros zero n (suc j) h = absurd (omega arith)
zeros (suc b) n (suc j) h = zeros_more n j (count_trailing_zeros b (n / 2)) (n % 2) refl (zeros b (n / 2) j (omega arith))

-- what is left of a word where k + 1 of its bytes are left: its first byte, and what is left behind that
record Left (w k r : ℕ) : Type 0 where
  first : r / 0x100000000000000 ≡ byte_at k w
  others : r % 0x100000000000000 * 256 ≡ w % 2 ^ (8 * k) * 2 ^ (8 * (8 - k))
  none : r ≡ 0 → w % 2 ^ (8 * suc k) ≡ 0
  some : 0 < r → 0 < w % 2 ^ (8 * suc k)

left : (w k r : ℕ) → k < 8 → r ≡ w % 2 ^ (8 * suc k) * 2 ^ (8 * (7 - k)) → Left w k r
left w zero r h e = record { first = omega arith; others = omega arith; none = λ z. omega arith; some = λ z. omega arith }
left w (suc zero) r h e =
    record { first = omega arith; others = omega arith; none = λ z. omega arith; some = λ z. omega arith }
left w (suc (suc zero)) r h e =
    record { first = omega arith; others = omega arith; none = λ z. omega arith; some = λ z. omega arith }
left w (suc (suc (suc zero))) r h e =
    record { first = omega arith; others = omega arith; none = λ z. omega arith; some = λ z. omega arith }
left w (suc (suc (suc (suc zero)))) r h e =
    record { first = omega arith; others = omega arith; none = λ z. omega arith; some = λ z. omega arith }
left w (suc (suc (suc (suc (suc zero))))) r h e =
    record { first = omega arith; others = omega arith; none = λ z. omega arith; some = λ z. omega arith }
left w (suc (suc (suc (suc (suc (suc zero)))))) r h e =
    record { first = omega arith; others = omega arith; none = λ z. omega arith; some = λ z. omega arith }
left w (suc (suc (suc (suc (suc (suc (suc zero))))))) r h e =
    record { first = omega arith; others = omega arith; none = λ z. omega arith; some = λ z. omega arith }
left w (suc (suc (suc (suc (suc (suc (suc (suc k)))))))) r h e = absurd (omega arith)

letters_left :
    (w k r t : ℕ) → Left w k r → Zeros w t (8 * suc k) →
    letters_up_to k (r % 0x100000000000000 * 256) ≡ take (k - t / 8) (bytes_high_first k w) →
    letters_up_to (suc k) r ≡ take (suc k - t / 8) (bytes_high_first (suc k) w)
unfolding letters_up_to
letters_left w k r t l z e = by_cases (ltb 0 r) refl
  where
    by_cases : (b : Bool) → ltb 0 r ≡ b → letters_up_to (suc k) r ≡ take (suc k - t / 8) (bytes_high_first (suc k) w)
    by_cases true g =
        let q : 0 < r = ltb-true 0 r g in
        let m : suc k - t / 8 ≡ suc (k - t / 8) = omega (arith, z.1 (l.some q)) in
        rw (g, m, l.first, e)
    by_cases false g =
        let q : r ≤ 0 = ltb-false 0 r g in
        let m : suc k - t / 8 ≡ 0 = omega (arith, z.0 (l.none (omega arith))) in
        rw (g, m)

letters_of :
    (w k r : ℕ) → k ≤ 8 → r ≡ w % 2 ^ (8 * k) * 2 ^ (8 * (8 - k)) →
    letters_up_to k r ≡ take (k - count_trailing_zeros 64 w / 8) (bytes_high_first k w)
unfolding letters_up_to
letters_of w zero r h e = let z : 0 - count_trailing_zeros 64 w / 8 ≡ 0 = omega arith in rw z
letters_of w (suc k) r h e =
    let t = count_trailing_zeros 64 w in
    let m : 8 - suc k ≡ 7 - k = omega arith in
    let l = left w k r (omega arith) (rw m at e) in
    let others = letters_of w k (r % 0x100000000000000 * 256) (omega arith) l.others in
    letters_left w k r t l (zeros 64 w (8 * suc k) (omega arith)) others

-- the letters of a word are its bytes before the zeros at its end
pub letters_are :
    (w : ℕ) (bytes : List ℕ) → w < 2 ^ 64 → bytes ≡ bytes_high_first 8 w →
    letters w ≡ take (8 - count_trailing_zeros 64 w / 8) bytes
letters_are w bytes h e = rw e (letters_of w 8 w (omega arith) (omega arith))
