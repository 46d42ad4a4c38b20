-- No two types have the same class and the same slot, so a flag that is set before its PROP comes tells a second PROP of that type: the
-- walk refuses where the search for a repeat ended, and searches no further.
use Rattle.std.specs.Prelude.{ℕ, ◌+◌, ◌-◌, ◌*◌, ◌/◌, ◌%◌, ◌<◌, ◌≡◌, refl, Bool, true, false, leb, ltb, eqb}
use Rattle.std.proofs.Common.{sym, ap, ◌∙◌, lt-ltb, le-ltb, leb-true, leb-false, eqb-true, arith}
use Rattle.iff_name.specs.Name.{both, either, pick, type_byte, type_bytes, byte0, byte1, byte2, byte3}
use Rattle.iff_type_flags.specs.Classes.{digit_of, class_of, slot_of}

pub digit_below : (b : ℕ) → digit_of b < 38
unfolding digit_of
digit_below b = go (leb 65 b) (leb b 90) (leb 48 b) (leb b 57) (eqb b 32) refl refl
  where
    go : (u v x y z : Bool) → leb b 90 ≡ v → leb b 57 ≡ y → pick u (pick v (b - 65) 37) (pick x (pick y (b - 22) 37) (pick z 36 37)) < 38
    go true true x y z i j = omega (arith, leb-true b 90 i)
    go true false x y z i j = omega arith
    go false v true true z i j = omega (arith, leb-true b 57 j)
    go false v true false z i j = omega arith
    go false v false y true i j = omega arith
    go false v false y false i j = omega arith

-- the byte of a type that a number below 37 stands for
abbrev byte_of : ℕ → ℕ
byte_of d = pick (ltb d 26) (d + 65) (pick (ltb d 36) (d + 22) 32)

no : false ≡ true → ⊥
no e = let y : ◌≡◌ {A = ℕ} 0 1 = cc in omega arith

byte_back : (b : ℕ) → type_byte b ≡ true → b ≡ byte_of (digit_of b)
unfolding digit_of
byte_back b h = go (leb 65 b) (leb b 90) (leb 48 b) (leb b 57) (eqb b 32) refl refl refl refl refl h
  where
    go :
        (u v x y z : Bool) → leb 65 b ≡ u → leb b 90 ≡ v → leb 48 b ≡ x → leb b 57 ≡ y → eqb b 32 ≡ z →
        either (both u v) (either (both x y) z) ≡ true → b ≡ byte_of (pick u (pick v (b - 65) 37) (pick x (pick y (b - 22) 37) (pick z 36 37)))
    go true true x y z i j k l m h =
        let p = leb-true 65 b i in
        let q = leb-true b 90 j in
        rw (lt-ltb (b - 65) 26 (omega arith)) (omega arith)
    go true false true true z i j k l m h = absurd (omega (arith, leb-false b 90 j, leb-true b 57 l))
    go true false true false true i j k l m h = absurd (omega (arith, leb-true 65 b i, eqb-true b 32 m))
    go true false true false false i j k l m h = absurd (no h)
    go true false false y true i j k l m h = absurd (omega (arith, leb-true 65 b i, eqb-true b 32 m))
    go true false false y false i j k l m h = absurd (no h)
    go false v true true z i j k l m h =
        let p = leb-true 48 b k in
        let q = leb-true b 57 l in
        rw (le-ltb (b - 22) 26 (omega arith), lt-ltb (b - 22) 36 (omega arith)) (omega arith)
    go false v true false true i j k l m h = absurd (omega (arith, leb-true 48 b k, eqb-true b 32 m))
    go false v true false false i j k l m h = absurd (no h)
    go false v false y true i j k l m h = eqb-true b 32 m
    go false v false y false i j k l m h = absurd (no h)

byte_apart : (a b : ℕ) → type_byte a ≡ true → type_byte b ≡ true → digit_of a ≡ digit_of b → a ≡ b
byte_apart a b h l e = byte_back a h ∙ (ap byte_of e ∙ sym (byte_back b l))

left : (a b : Bool) → both a b ≡ true → a ≡ true
left true b e = refl
left false b e = absurd (no e)

right : (a b : Bool) → both a b ≡ true → b ≡ true
right true b e = e
right false b e = absurd (no e)

digits_apart :
    (z a b c z' a' b' c' : ℕ) → z < 38 → a < 38 → b < 38 → c < 38 → z' < 38 → a' < 38 → b' < 38 → c' < 38 → z + a / 19 * 38 ≡ z' + a' / 19 * 38 →
    a % 19 * 1444 + b * 38 + c ≡ a' % 19 * 1444 + b' * 38 + c' → (z ≡ z') × (a ≡ a') × (b ≡ b') × (c ≡ c')
digits_apart z a b c z' a' b' c' g h i j g' h' i' j' d e = (omega arith, omega arith, omega arith, omega arith)

last_byte : (a b : ℕ) → a / 256 ≡ b / 256 → a % 256 ≡ b % 256 → a ≡ b
last_byte a b h l = omega arith

by_256 : (t : ℕ) → t / 256 / 256 ≡ t / 65536
by_256 t = omega arith

by_65536 : (t : ℕ) → t / 65536 / 256 ≡ t / 16777216
by_65536 t = omega arith

bytes_apart : (t u : ℕ) → byte0 t ≡ byte0 u → byte1 t ≡ byte1 u → byte2 t ≡ byte2 u → byte3 t ≡ byte3 u → t ≡ u
bytes_apart t u a b c d =
    let h : t / 65536 ≡ u / 65536 = last_byte (t / 65536) (u / 65536) (by_65536 t ∙ (a ∙ sym (by_65536 u))) b in
    let l : t / 256 ≡ u / 256 = last_byte (t / 256) (u / 256) (by_256 t ∙ (h ∙ sym (by_256 u))) c in
    last_byte t u l d

-- each of four tests that hold together holds
each : (a b c d : Bool) → both (both a b) (both c d) ≡ true → (a ≡ true) × (b ≡ true) × (c ≡ true) × (d ≡ true)
each a b c d e =
    let l : both a b ≡ true = left (both a b) (both c d) e in
    let r : both c d ≡ true = right (both a b) (both c d) e in
    (left a b l, right a b l, left c d r, right c d r)

pub types_apart : (t u : ℕ) → type_bytes t ≡ true → type_bytes u ≡ true → class_of t ≡ class_of u → slot_of t ≡ slot_of u → t ≡ u
unfolding type_bytes class_of slot_of
types_apart t u h l c e =
    let x = each (type_byte (byte0 t)) (type_byte (byte1 t)) (type_byte (byte2 t)) (type_byte (byte3 t)) h in
    let y = each (type_byte (byte0 u)) (type_byte (byte1 u)) (type_byte (byte2 u)) (type_byte (byte3 u)) l in
    let d =
    digits_apart (digit_of (byte0 t)) (digit_of (byte1 t)) (digit_of (byte2 t)) (digit_of (byte3 t)) (digit_of (byte0 u)) (digit_of (byte1 u)) (digit_of (byte2 u)) (digit_of (byte3 u))
    (digit_below (byte0 t)) (digit_below (byte1 t)) (digit_below (byte2 t)) (digit_below (byte3 t))
    (digit_below (byte0 u)) (digit_below (byte1 u)) (digit_below (byte2 u)) (digit_below (byte3 u)) c e in
    bytes_apart t u
    (byte_apart (byte0 t) (byte0 u) x.0 y.0 d.0)
    (byte_apart (byte1 t) (byte1 u) x.1 y.1 d.1)
    (byte_apart (byte2 t) (byte2 u) x.2 y.2 d.2)
    (byte_apart (byte3 t) (byte3 u) x.3 y.3 d.3)
