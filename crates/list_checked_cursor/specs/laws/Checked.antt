-- The tests of a cursor that may stand anywhere hold exactly where a chunk lies, and always where a walk led it.
use Rattle.std.specs.Prelude.{ℕ, ◌+◌, ◌%◌, ◌≤◌, ◌<◌, ◌≡◌, refl, Bool, true, false, List, leb, length}
use Rattle.std.proofs.Common.{sym, ap, ◌∙◌, arith, leb-true, le-leb}
use Rattle.iff_name.specs.Name.{pick}
use Rattle.iff_chunk.specs.Chunks.{word}
use Rattle.list_spec.specs.Records.{count_of}
use Rattle.list_cursor.specs.declared.Cursor.{Cursor}
use Rattle.list_cursor.specs.Cursors.{group_at, Lies, Located}
use Rattle.list_cursor.proofs.laws.Walk.{located_header, located_type, located_end, located_enterable, located_past, located_passable}
use Rattle.list_checked_cursor.specs.Checked.{group_lies, plain_lies, kind_lies, lies_at}

-- a test that holds, before others that hold
both : (a b : ℕ) (x : Bool) → pick (leb a b) x false ≡ true → (a ≤ b) × (x ≡ true)
both a b x e = go (leb a b) refl e
  where
    go : (t : Bool) → leb a b ≡ t → pick t x false ≡ true → (a ≤ b) × (x ≡ true)
    go true h i = (leb-true a b h, i)
    go false h i = let z : ◌≡◌ {A = ℕ} 0 1 = cc in absurd (omega arith)

group_facts : (n p l z : ℕ) → group_lies n p l z ≡ true → (p + 12 ≤ n) × (p + 8 + z ≤ n) × (1 ≤ l) × (l ≤ 16)
group_facts n p l z e =
    let a = both (p + 12) n (pick (leb (p + 8 + z) n) (pick (leb 1 l) (leb l 16) false) false) e in
    let b = both (p + 8 + z) n (pick (leb 1 l) (leb l 16) false) a.1 in
    let c = both 1 l (leb l 16) b.1 in
    (a.0, b.0, c.0, leb-true l 16 c.1)

plain_facts : (n p l z : ℕ) → plain_lies n p l z ≡ true → (p + 8 + z + z % 2 ≤ n) × (l ≤ 17)
plain_facts n p l z e = let a = both (p + 8 + z + z % 2) n (leb l 17) e in (a.0, leb-true l 17 a.1)

module _ (s : List ℕ) (cur : Cursor) where
  -- what is told of the chunk by its kind
  answered_group : kind_lies s cur true ≡ true → (cur.place + 12 ≤ length s) × (cur.place + 8 + word s (cur.place + 4) ≤ length s) × (1 ≤ cur.level) × (cur.level ≤ 16)
  answered_group t = group_facts (length s) cur.place cur.level (word s (cur.place + 4)) t

  answered_plain : kind_lies s cur false ≡ true → (cur.place + 8 + word s (cur.place + 4) + word s (cur.place + 4) % 2 ≤ length s) × (cur.level ≤ 17)
  answered_plain t = plain_facts (length s) cur.place cur.level (word s (cur.place + 4)) t

  known : length s ≤ 16777216 → cur.number ≤ cur.place → cur.place + 8 ≤ length s → kind_lies s cur (group_at s cur) ≡ true → Lies s cur
  known a b c t = record {
    short = a;
    header = c;
    type = λ i. (answered_group (ap (kind_lies s cur) (sym i) ∙ t)).0;
    into = λ i. let f = answered_group (ap (kind_lies s cur) (sym i) ∙ t) in record { type = omega arith; ends = omega arith; low = b; level = f.2; slot = f.3 };
    past = λ i. let f = answered_plain (ap (kind_lies s cur) (sym i) ∙ t) in record { ends = omega arith; low = b; deep = f.1 };
  }

  pub lies_known : lies_at s cur ≡ true → Lies s cur
  lies_known e =
      let t : Bool = kind_lies s cur (group_at s cur) in
      let a = both (length s) 16777216 (pick (leb cur.number cur.place) (pick (leb (cur.place + 8) (length s)) t false) false) e in
      let b = both cur.number cur.place (pick (leb (cur.place + 8) (length s)) t false) a.1 in
      let c = both (cur.place + 8) (length s) t b.1 in
      known a.0 b.0 c.0 c.1

group_from : (n p l z : ℕ) → p + 12 ≤ n → p + 8 + z ≤ n → 1 ≤ l → l ≤ 16 → group_lies n p l z ≡ true
group_from n p l z a b c d = rw (le-leb (p + 12) n a, le-leb (p + 8 + z) n b, le-leb 1 l c, le-leb l 16 d)

plain_from : (n p l z : ℕ) → p + 8 + z + z % 2 ≤ n → l ≤ 17 → plain_lies n p l z ≡ true
plain_from n p l z a b = rw (le-leb (p + 8 + z + z % 2) n a, le-leb l 17 b)

module _ (s : List ℕ) (cur : Cursor) (at : Located s cur) (more : cur.number < count_of s) where
  pub located_lies : lies_at s cur ≡ true
  located_lies =
      rw (le-leb (length s) 16777216 at.short, le-leb cur.number cur.place at.stands.low, le-leb (cur.place + 8) (length s) (located_header s cur at more))
      (by_kind (group_at s cur) refl)
    where
      by_kind : (g : Bool) → group_at s cur ≡ g → kind_lies s cur g ≡ true
      by_kind true i = let h = located_enterable s cur at more i in group_from _ _ _ _ (located_type s cur at more i) (located_end s cur at more i) h.level h.slot
      by_kind false i = plain_from _ _ _ _ (located_past s cur at more i) (located_passable s cur at more i).deep
