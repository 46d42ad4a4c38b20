-- Bytes stay bytes: what a row is unpacked to comes from the BODY, byte by byte.
use Rattle.std.specs.Prelude.{ℕ, zero, suc, ◌+◌, ◌-◌, ◌<◌, List, [], ◌∷◌, ◌++◌, Bool, true, false, length, get_or, take, drop, replicate, ltb, leb, eqb}
use Rattle.std.proofs.Common.{arith}
use Rattle.iff_name.specs.Name.{pick}
use Rattle.byterun_row.specs.ByteRun.{Row, filled, over, short, fitted, code_of, code_for, prepend, on_code, unpack_by, unpack_row, plain_row, row_of}
use Rattle.byterun_row.specs.declared.Code.{Code}
use Rattle.byterun_row.specs.declared.Code.TheVariants.{Missing, Skip, Copy, Repeat, Long, Cut}

-- every number of the list is below 256
unfoldable pub Bytes : List ℕ → Type 0
Bytes [] = Unit
Bytes (x ∷ xs) = (x < 256) × Bytes xs

pub bytes_none : Bytes []
unfolding Bytes
bytes_none = tt

pub bytes_cons : (x : ℕ) (xs : List ℕ) → x < 256 → Bytes xs → Bytes (x ∷ xs)
unfolding Bytes
bytes_cons x xs h b = (h, b)

-- the form that a slice has it in, and back
pub bytes_from : (xs : List ℕ) → ((i : ℕ) → get_or xs i 0 < 256) → Bytes xs
unfolding Bytes
bytes_from [] f = tt
bytes_from (x ∷ xs) f = (f 0, bytes_from xs (λ i. f (suc i)))

pub bytes_at : (xs : List ℕ) → Bytes xs → (i : ℕ) → get_or xs i 0 < 256
unfolding Bytes
bytes_at [] b i = omega arith
bytes_at (x ∷ xs) b zero = b.0
bytes_at (x ∷ xs) b (suc i) = bytes_at xs b.1 i

pub bytes_append : (xs ys : List ℕ) → Bytes xs → Bytes ys → Bytes (xs ++ ys)
unfolding Bytes
bytes_append [] ys a b = b
bytes_append (x ∷ xs) ys a b = (a.0, bytes_append xs ys a.1 b)

pub bytes_take : (n : ℕ) (xs : List ℕ) → Bytes xs → Bytes (take n xs)
unfolding Bytes
bytes_take zero xs b = tt
bytes_take (suc n) [] b = tt
bytes_take (suc n) (x ∷ xs) b = (b.0, bytes_take n xs b.1)

pub bytes_drop : (n : ℕ) (xs : List ℕ) → Bytes xs → Bytes (drop n xs)
unfolding Bytes
bytes_drop zero xs b = b
bytes_drop (suc n) [] b = tt
bytes_drop (suc n) (x ∷ xs) b = bytes_drop n xs b.1

pub bytes_replicate : (n x : ℕ) → x < 256 → Bytes (replicate n x)
unfolding Bytes
bytes_replicate zero x h = tt
bytes_replicate (suc n) x h = (h, bytes_replicate n x h)

-- the bytes of a row that was read whole
abbrev pub RowBytes : Row → Type 0
RowBytes (filled bs q) = Bytes bs
RowBytes (over q) = Unit
RowBytes (short q) = Unit

prepend_bytes : (bs : List ℕ) (r : Row) → Bytes bs → RowBytes r → RowBytes (prepend bs r)
prepend_bytes bs (filled cs q) a b = bytes_append bs cs a b
prepend_bytes bs (over q) a b = tt
prepend_bytes bs (short q) a b = tt

abbrev CodeBytes : Code → Type 0
CodeBytes Missing = Unit
CodeBytes Skip = Unit
CodeBytes (Copy k) = Unit
CodeBytes (Repeat x k) = x < 256
CodeBytes Long = Unit
CodeBytes Cut = Unit

code_bytes : (body : List ℕ) (i left : ℕ) → Bytes body → CodeBytes (code_of body i left)
unfolding code_of
code_bytes body i left b = go (ltb i (length body)) (get_or body i 0)
  where
    x : ℕ
    x = get_or body (i + 1) 0

    fits : (t u : Bool) (c : Code) → CodeBytes c → CodeBytes (pick t Long (pick u Cut c))
    fits true u c h = tt
    fits false true c h = tt
    fits false false c h = h

    kind : (c : ℕ) (t u : Bool) → CodeBytes (pick t Skip (pick u (fitted body i left (c + 1) (c + 1) (Copy (c + 1))) (fitted body i left (257 - c) 1 (Repeat x (257 - c)))))
    kind c true u = tt
    kind c false true = fits (ltb left (c + 1)) (ltb (length body - (i + 1)) (c + 1)) (Copy (c + 1)) tt
    kind c false false = fits (ltb left (257 - c)) (ltb (length body - (i + 1)) 1) (Repeat x (257 - c)) (bytes_at body b (i + 1))

    go : (t : Bool) (c : ℕ) → CodeBytes (pick t (code_for body i left c) Missing)
    go true c = kind c (eqb c 128) (ltb c 128)
    go false c = tt

by_bytes : (f : ℕ) (body : List ℕ) (i left : ℕ) → Bytes body → RowBytes (unpack_by f body i left)
unfolding unpack_by
by_bytes zero body i left b = go (ltb 0 left)
  where
    go : (t : Bool) → RowBytes (pick t (short (length body)) (filled [] i))
    go true = tt
    go false = bytes_none
by_bytes (suc f) body i left b = go (λ j m. by_bytes f body j m b) (ltb 0 left) (code_of body i left) (code_bytes body i left b)
  where
    go :
        ((j m : ℕ) → RowBytes (unpack_by f body j m)) → (t : Bool) (c : Code) → CodeBytes c →
        RowBytes (pick t (on_code body i left (λ j m. unpack_by f body j m) c) (filled [] i))
    go ih false c h = bytes_none
    go ih true Missing h = tt
    go ih true Skip h = ih (i + 1) left
    go ih true (Copy k) h = prepend_bytes (take k (drop (i + 1) body)) (unpack_by f body (i + 1 + k) (left - k)) (bytes_take k (drop (i + 1) body) (bytes_drop (i + 1) body b)) (ih (i + 1 + k) (left - k))
    go ih true (Repeat x k) h = prepend_bytes (replicate k x) (unpack_by f body (i + 2) (left - k)) (bytes_replicate k x h) (ih (i + 2) (left - k))
    go ih true Long h = tt
    go ih true Cut h = tt

unpack_bytes : (body : List ℕ) (at n : ℕ) → Bytes body → RowBytes (unpack_row body at n)
unfolding unpack_row
unpack_bytes body at n b = by_bytes (length body) body at n b

plain_bytes : (body : List ℕ) (at n : ℕ) → Bytes body → RowBytes (plain_row body at n)
unfolding plain_row
plain_bytes body at n b = go (leb n (length body - at))
  where
    go : (t : Bool) → RowBytes (pick t (filled (take n (drop at body)) (at + n)) (short at))
    go true = bytes_take n (drop at body) (bytes_drop at body b)
    go false = tt

-- a row of a BODY of bytes has bytes
pub row_bytes_lem : (compression : ℕ) (body : List ℕ) (at n : ℕ) → Bytes body → RowBytes (row_of compression body at n)
row_bytes_lem compression body at n b = go (eqb compression 0)
  where
    go : (t : Bool) → RowBytes (pick t (plain_row body at n) (unpack_row body at n))
    go true = plain_bytes body at n b
    go false = unpack_bytes body at n b
