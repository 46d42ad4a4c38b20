-- A run that is copied part by part: each part takes a paste of the bytes before it to a paste of those and its own.
use Prim.Native.Nat.{ℕ, suc, zero, ◌+◌, ◌-◌, ◌<◌, ◌≤◌}
use mathlib.Core.Path.{◌≡◌, sym, ap, ◌∙◌}
use mathlib.Core.List.{List}
use lib.ListN.{length, get_or, drop, set, length-drop}
use lib.Seq.{paste, paste-zero, paste-suc, length-paste, get_or-drop, drop-drop}
use native.Mathlib.Nat.{add-zero, add-suc}
use native.Mathlib.Omega.{arith}
use native.Mathlib.Numerals.{add-one}

-- one byte more
pub copy_more :
    (d₀ d : List ℕ) (at k : ℕ) (src : List ℕ) (from count : ℕ) → from + count ≤ length src → at + count ≤ length d₀ → k < count →
    d ≡ paste d₀ at (drop from src) k → set d (at + k) (get_or src (from + k) 0) ≡ paste d₀ at (drop from src) (k + 1)
copy_more d₀ d at k src from count hs hd h e =
    rw (e, ← get_or-drop from src k 0, add-one) (paste-suc d₀ at (drop from src) k 0 (omega arith) (rw length-drop (omega arith)))

-- a paste behind a paste of the same bytes
paste_on :
    (j : ℕ) (d : List ℕ) (at : ℕ) (s : List ℕ) (k : ℕ) → at + (k + j) ≤ length d → k + j ≤ length s →
    paste (paste d at s k) (at + k) (drop k s) j ≡ paste d at s (k + j)
paste_on zero d at s k h l = sym (paste-zero (paste d at s k) (at + k) (drop k s)) ∙ ap (λ (m : ℕ). paste d at s m) (sym (add-zero k))
paste_on (suc j) d at s k h l =
    let long : length (paste d at s k) ≡ length d = length-paste d at s k (omega arith) (omega arith) in
    let here : at + k + j < length (paste d at s k) = rw long (omega arith) in
    let left : j < length (drop k s) = rw length-drop (omega arith) in
    let place : at + k + j ≡ at + (k + j) = omega arith in
    sym (paste-suc (paste d at s k) (at + k) (drop k s) j 0 here left)
    ∙ rw (paste_on j d at s k (omega arith) (omega arith), get_or-drop k s j 0, place)
    (paste-suc d at s (k + j) 0 (omega arith) (omega arith))
    ∙ ap (λ (m : ℕ). paste d at s m) (sym (add-suc k j))

-- eight bytes more
pub eights_more :
    (src : List ℕ) (from count : ℕ) (d₀ d e : List ℕ) (at k : ℕ) → from + count ≤ length src → at + count ≤ length d₀ → k ≤ count →
    8 ≤ count - k → d ≡ paste d₀ at (drop from src) k → e ≡ paste d (at + k) (drop (from + k) src) 8 →
    e ≡ paste d₀ at (drop from src) (k + 8)
eights_more src from count d₀ d e at k hs hd h l p q =
    let z : drop k (drop from src) ≡ drop (from + k) src = drop-drop k from src in
    q ∙ rw (p, ← z) (paste_on 8 d₀ at (drop from src) k (omega arith) (rw length-drop (omega arith)))

-- the rest of the bytes
pub rest_copied :
    (src : List ℕ) (from count : ℕ) (d₀ d e : List ℕ) (at k : ℕ) → from + count ≤ length src → at + count ≤ length d₀ → k ≤ count →
    d ≡ paste d₀ at (drop from src) k → e ≡ paste d (at + k) (drop (from + k) src) (count - k) → e ≡ paste d₀ at (drop from src) count
rest_copied src from count d₀ d e at k hs hd h p q =
    let z : drop k (drop from src) ≡ drop (from + k) src = drop-drop k from src in
    let n : k + (count - k) ≡ count = omega arith in
    let rest = paste_on (count - k) d₀ at (drop from src) k (omega arith) (rw length-drop (omega arith)) in
    q ∙ rw (p, ← z) (rest ∙ ap (λ (m : ℕ). paste d₀ at (drop from src) m) n)
