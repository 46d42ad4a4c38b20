-- One step of unpacking: what each code does to a row, and where the row ends.
-- so a row that is not full is its code carried out, and the rest of the row read from there.
use Rattle.std.specs.Prelude.{ℕ, zero, suc, ◌+◌, ◌-◌, ◌<◌, ◌≤◌, ◌≡◌, refl, List, [], Bool, true, false, length, get_or, take, drop, replicate, ltb, leb, eqb}
use Rattle.std.proofs.Common.{sym, ap, ◌∙◌, length-append, length-drop, length-take-le, lt-ltb, le-ltb, ltb-true, ltb-false, leb-true, eq-eqb, ne_eqb, arith}
use Rattle.std.proofs.lemmas.List.{length-replicate}
use Rattle.iff_name.specs.Name.{pick}
use Rattle.byterun_row.specs.ByteRun.{Row, filled, over, short, fitted, code_for, code_of, prepend, on_code, unpack_by, unpack_row, plain_row, row_of, answer_of, IsFull}
use Rattle.byterun_row.specs.declared.Code.{Code}
use Rattle.byterun_row.specs.declared.Code.TheVariants.{Missing, Skip, Copy, Repeat, Long, Cut}
use Rattle.iff_refusal.specs.Numbers.{Answer}
use Rattle.std.specs.Prelude.{Ok}

-- past the BODY's end there is no code byte
pub code_missing : (body : List ℕ) (i left : ℕ) → length body ≤ i → code_of body i left ≡ Missing
unfolding code_of
code_missing body i left h = simp (le-ltb _ _ h)

-- with enough fuel more changes nothing
by_enough : (f g : ℕ) (body : List ℕ) (i left : ℕ) → length body - i ≤ f → length body - i ≤ g → unpack_by f body i left ≡ unpack_by g body i left
unfolding unpack_by
by_enough zero zero body i left a b = refl
by_enough zero (suc g) body i left a b = rw (code_missing body i left (omega arith))
by_enough (suc f) zero body i left a b = rw (code_missing body i left (omega arith))
by_enough (suc f) (suc g) body i left a b = go (λ j m c d. by_enough f g body j m c d) (ltb 0 left) (code_of body i left)
  where
    go :
        ((j m : ℕ) → length body - j ≤ f → length body - j ≤ g → unpack_by f body j m ≡ unpack_by g body j m) → (t : Bool) (c : Code) →
        pick t (on_code body i left (λ j m. unpack_by f body j m) c) (filled [] i) ≡ pick t (on_code body i left (λ j m. unpack_by g body j m) c) (filled [] i)
    go ih false c = refl
    go ih true Missing = refl
    go ih true Skip = ih (i + 1) left (omega arith) (omega arith)
    go ih true (Copy k) = ap (λ (r : Row). prepend (take k (drop (i + 1) body)) r) (ih (i + 1 + k) (left - k) (omega arith) (omega arith))
    go ih true (Repeat x k) = ap (λ (r : Row). prepend (replicate k x) r) (ih (i + 2) (left - k) (omega arith) (omega arith))
    go ih true Long = refl
    go ih true Cut = refl

-- a row of no bytes is full at once
none_by : (f : ℕ) (body : List ℕ) (i left : ℕ) → left ≡ 0 → unpack_by f body i left ≡ filled [] i
unfolding unpack_by
none_by zero body i left h = rw h
none_by (suc f) body i left h = rw h

pub row_none : (body : List ℕ) (i left : ℕ) → left ≡ 0 → unpack_row body i left ≡ filled [] i
unfolding unpack_row
row_none body i left h = none_by (length body) body i left h

-- any other is its first code carried out
once_by :
    (f : ℕ) (body : List ℕ) (i left : ℕ) → 0 < left →
    unpack_by (suc f) body i left ≡ on_code body i left (λ j m. unpack_by f body j m) (code_of body i left)
unfolding unpack_by
once_by f body i left h = simp (lt-ltb _ _ h)

pub row_step :
    (body : List ℕ) (i left : ℕ) → 0 < left → unpack_row body i left ≡ on_code body i left (λ j m. unpack_row body j m) (code_of body i left)
unfolding unpack_row
row_step body i left h = by_enough (length body) (suc (length body)) body i left (omega arith) (omega arith) ∙ once_by (length body) body i left h

-- the compression picks the row
module _ (body : List ℕ) (compression at n : ℕ) where
  pub row_plain : compression ≡ 0 → row_of compression body at n ≡ plain_row body at n
  row_plain e = simp (eq-eqb _ _ e)

  pub row_packed : (compression ≡ 0 → ⊥) → row_of compression body at n ≡ unpack_row body at n
  row_packed e = simp (ne_eqb _ _ e)

-- a code that is carried out fits what is left of the row, and its bytes lie inside the BODY
abbrev pub Within : List ℕ → ℕ → ℕ → Code → Type 0
Within body i left Missing = length body ≤ i
Within body i left Skip = i < length body
Within body i left (Copy k) = (k ≤ left) × (i + 1 + k ≤ length body)
Within body i left (Repeat b k) = (k ≤ left) × (i + 2 ≤ length body)
Within body i left Long = i < length body
Within body i left Cut = i < length body

fitted_within :
    (body : List ℕ) (i left count tail : ℕ) (run : Code) → i < length body →
    (count ≤ left → tail ≤ length body - (i + 1) → Within body i left run) → Within body i left (fitted body i left count tail run)
fitted_within body i left count tail run h f = go (ltb left count) refl (ltb (length body - (i + 1)) tail) refl
  where
    go : (t : Bool) → ltb left count ≡ t → (u : Bool) → ltb (length body - (i + 1)) tail ≡ u → Within body i left (pick t Long (pick u Cut run))
    go true p u q = h
    go false p true q = h
    go false p false q = f (ltb-false left count p) (ltb-false (length body - (i + 1)) tail q)

pub code_within : (body : List ℕ) (i left : ℕ) → Within body i left (code_of body i left)
unfolding code_of
code_within body i left = go (ltb i (length body)) refl
  where
    inner : i < length body → (c : ℕ) (t u : Bool) → Within body i left (pick t Skip (pick u (fitted body i left (c + 1) (c + 1) (Copy (c + 1))) (fitted body i left (257 - c) 1 (Repeat (get_or body (i + 1) 0) (257 - c)))))
    inner h c true u = h
    inner h c false true = fitted_within body i left (c + 1) (c + 1) (Copy (c + 1)) h (λ p q. (p, omega arith))
    inner h c false false = fitted_within body i left (257 - c) 1 (Repeat (get_or body (i + 1) 0) (257 - c)) h (λ p q. (p, omega arith))

    go : (b : Bool) → ltb i (length body) ≡ b → Within body i left (pick b (code_for body i left (get_or body i 0)) Missing)
    go true p = inner (ltb-true i (length body) p) (get_or body i 0) (eqb (get_or body i 0) 128) (ltb (get_or body i 0) 128)
    go false p = ltb-false i (length body) p

-- A row that is read from inside the BODY stays there: a full row has its n bytes and ends inside, and a fault lies inside.
abbrev pub Inside : List ℕ → ℕ → ℕ → Row → Type 0
Inside body at n (filled bs q) = (length bs ≡ n) × (at ≤ q) × (q ≤ length body)
Inside body at n (over q) = (at ≤ q) × (q < length body)
Inside body at n (short q) = (at ≤ q) × (q ≤ length body)

later_inside : (body : List ℕ) (i j left : ℕ) (r : Row) → i ≤ j → Inside body j left r → Inside body i left r
later_inside body i j left (filled cs q) h w = (w.0, omega arith, w.2)
later_inside body i j left (over q) h w = (omega arith, w.1)
later_inside body i j left (short q) h w = (omega arith, w.1)

before_inside :
    (body bs : List ℕ) (i j left k : ℕ) (r : Row) → i ≤ j → length bs ≡ k → k ≤ left → Inside body j (left - k) r → Inside body i left (prepend bs r)
before_inside body bs i j left k (filled cs q) h e l w = (rw length-append (omega arith), omega arith, w.2)
before_inside body bs i j left k (over q) h e l w = (omega arith, w.1)
before_inside body bs i j left k (short q) h e l w = (omega arith, w.1)

by_inside : (f : ℕ) (body : List ℕ) (i left : ℕ) → i ≤ length body → Inside body i left (unpack_by f body i left)
unfolding unpack_by
by_inside zero body i left h = go (ltb 0 left) refl
  where
    go : (t : Bool) → ltb 0 left ≡ t → Inside body i left (pick t (short (length body)) (filled [] i))
    go true e = (h, omega arith)
    go false e = (omega (arith, ltb-false 0 left e), omega arith, h)
by_inside (suc f) body i left h = go (λ j m l. by_inside f body j m l) (ltb 0 left) refl (code_of body i left) (code_within body i left)
  where
    go :
        ((j m : ℕ) → j ≤ length body → Inside body j m (unpack_by f body j m)) → (t : Bool) → ltb 0 left ≡ t → (c : Code) → Within body i left c →
        Inside body i left (pick t (on_code body i left (λ j m. unpack_by f body j m) c) (filled [] i))
    go ih false e c w = (omega (arith, ltb-false 0 left e), omega arith, h)
    go ih true e Missing w = (h, omega arith)
    go ih true e Skip w = later_inside body i (i + 1) left (unpack_by f body (i + 1) left) (omega arith) (ih (i + 1) left (omega arith))
    go ih true e (Copy k) w =
        let l : length (take k (drop (i + 1) body)) ≡ k = length-take-le k (drop (i + 1) body) (rw length-drop (omega arith)) in
        before_inside body (take k (drop (i + 1) body)) i (i + 1 + k) left k (unpack_by f body (i + 1 + k) (left - k)) (omega arith) l w.0 (ih (i + 1 + k) (left - k) w.1)
    go ih true e (Repeat b k) w =
        before_inside body (replicate k b) i (i + 2) left k (unpack_by f body (i + 2) (left - k)) (omega arith) (length-replicate k b) w.0 (ih (i + 2) (left - k) w.1)
    go ih true e Long w = (omega arith, w)
    go ih true e Cut w = (omega arith, omega arith)

plain_in : (body : List ℕ) (at n : ℕ) → at ≤ length body → Inside body at n (plain_row body at n)
unfolding plain_row
plain_in body at n h = go (leb n (length body - at)) refl
  where
    go : (t : Bool) → leb n (length body - at) ≡ t → Inside body at n (pick t (filled (take n (drop at body)) (at + n)) (short at))
    go true e =
        let l = leb-true n (length body - at) e in
        (length-take-le n (drop at body) (rw length-drop (omega arith)), omega arith, omega arith)
    go false e = (omega arith, h)

unpack_in : (body : List ℕ) (at n : ℕ) → at ≤ length body → Inside body at n (unpack_row body at n)
unfolding unpack_row
unpack_in body at n h = by_inside (length body) body at n h

pub row_inside : (compression : ℕ) (body : List ℕ) (at n : ℕ) → at ≤ length body → Inside body at n (row_of compression body at n)
row_inside compression body at n h = go (eqb compression 0)
  where
    go : (t : Bool) → Inside body at n (pick t (plain_row body at n) (unpack_row body at n))
    go true = plain_in body at n h
    go false = unpack_in body at n h

-- the same for a caller that has the answer of a full row
pub next_inside :
    (compression : ℕ) (body : List ℕ) (at n : ℕ) (r : Answer ℕ) (q : ℕ) → r ≡ answer_of (row_of compression body at n) → r ≡ Ok q → at ≤ length body → (at ≤ q) × (q ≤ length body)
next_inside compression body at n r q is e h = go (row_of compression body at n) (row_inside compression body at n h) (sym is ∙ e)
  where
    go : (w : Row) → Inside body at n w → answer_of w ≡ Ok q → (at ≤ q) × (q ≤ length body)
    go (filled bs p) i d = let z : p ≡ q = cc in (omega arith, omega arith)
    go (over p) i d = let z : ◌≡◌ {A = ℕ} 0 1 = cc in absurd (omega arith)
    go (short p) i d = let z : ◌≡◌ {A = ℕ} 0 1 = cc in absurd (omega arith)

-- a row whose answer is full is full, with some bytes
pub judged_full : (row : Row) (r : Answer ℕ) → r ≡ answer_of row → (q : ℕ) → r ≡ Ok q → IsFull row
judged_full row r is q e = go row (sym is ∙ e)
  where
    go : (w : Row) → answer_of w ≡ Ok q → IsFull w
    go (filled bs p) d = tt
    go (over p) d = let z : ◌≡◌ {A = ℕ} 0 1 = cc in absurd (omega arith)
    go (short p) d = let z : ◌≡◌ {A = ℕ} 0 1 = cc in absurd (omega arith)

pub full_bytes : (row : Row) (q : ℕ) → answer_of row ≡ Ok q → (bs : List ℕ) × (row ≡ filled bs q)
full_bytes (filled bs p) q d = let z : p ≡ q = cc in (bs, ap (λ (k : ℕ). filled bs k) z)
full_bytes (over p) q d = let z : ◌≡◌ {A = ℕ} 0 1 = cc in absurd (omega arith)
full_bytes (short p) q d = let z : ◌≡◌ {A = ℕ} 0 1 = cc in absurd (omega arith)
