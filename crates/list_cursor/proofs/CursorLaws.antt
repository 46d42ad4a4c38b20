-- One law for each way through a cursor's functions, with the facts in the form in which the code's needs have them.
use Prim.Native.Nat.{ℕ, zero, suc, ◌+◌, ◌-◌, ◌*◌, ◌/◌, ◌%◌, ◌≤◌, ◌<◌}
use mathlib.Core.Path.{◌≡◌, sym, ap, ◌∙◌}
use mathlib.Core.Bool.{Bool, true, false}
use mathlib.Core.List.{List}
use native.Mathlib.Omega.{arith}
use lib.ListN.{length, get_or, set}
use borrow.Author.Tests.{eq-eqb, ne_eqb}
use Rattle.iff_name.specs.Name.{kind_of}
use Rattle.iff_name.specs.declared.Kind.{Kind}
use Rattle.iff_name.specs.declared.Name.{Name}
use Rattle.iff_chunk.specs.Chunks.{word}
use Rattle.iff_rules.specs.Rules.{is_group}
use Rattle.list_spec.specs.declared.Record.{Record}
use Rattle.list_spec.specs.Records.{record_of, count_of}
use Rattle.list_cursor.specs.declared.Cursor.{Cursor}
use Rattle.list_cursor.specs.Cursors.{name_at, record_at, open_level, entered, passed, group_at, onward_at, Enterable, Passable, Lies, Located}
use Rattle.list_cursor.proofs.laws.Walk.{located_record, located_header, located_type, located_enterable, located_passable, located_onward, onward_number}
use Rattle.std.specs.Prelude.{Ok}

-- groups that end at a place

pub open_more : (ends : List ℕ) (p l v : ℕ) → 1 < l → get_or ends (l - 2) 0 ≡ p → open_level ends p l ≡ v → open_level ends p (l - 1) ≡ v
unfolding open_level
open_more ends p zero v h e u = absurd (omega arith)
open_more ends p (suc zero) v h e u = absurd (omega arith)
open_more ends p (suc (suc l)) v h e u =
    let i : suc (suc l) - 2 ≡ l = omega arith in
    let j : suc (suc l) - 1 ≡ suc l = omega arith in
    rw j (simp (eq-eqb (get_or ends l 0) p (rw i at e)) at u)

pub open_stop : (ends : List ℕ) (p l v : ℕ) → 1 < l → (get_or ends (l - 2) 0 ≡ p → ⊥) → open_level ends p l ≡ v → l ≡ v
unfolding open_level
open_stop ends p zero v h e u = absurd (omega arith)
open_stop ends p (suc zero) v h e u = absurd (omega arith)
open_stop ends p (suc (suc l)) v h e u =
    let i : suc (suc l) - 2 ≡ l = omega arith in
    simp (ne_eqb (get_or ends l 0) p (rw i at e)) at u

pub open_end : (ends : List ℕ) (p l v : ℕ) → l ≤ 1 → open_level ends p l ≡ v → l ≡ v
unfolding open_level
open_end ends p zero v h u = u
open_end ends p (suc zero) v h u = u
open_end ends p (suc (suc l)) v h u = absurd (omega arith)

-- the record at a cursor

name_is : (m : Name) (n : ℕ) → m.code ≡ n → m ≡ record { code = n }
name_is m n e = ap (λ (k : ℕ). record { code = k }) e

module _ (s : List ℕ) (cur : Cursor) (at : Lies s cur) where
  pub named : cur.place + 4 ≤ length s
  named = omega (arith, at.header)

  pub sized : cur.place + 4 + 4 ≤ length s
  sized = omega (arith, at.header)

  module _
      (n : ℕ) (a : n ≡ word s cur.place) (z : ℕ) (b : z ≡ word s (cur.place + 4)) (k : Kind) (d : k ≡ kind_of n) (g : Bool) (e : g ≡ is_group k)
    where
      here : (x : Bool) → g ≡ x → group_at s cur ≡ x
      here x i = rw (← a, ← d, ← e) i

      answered :
          (m : Name) → m.code ≡ name_at s cur.place →
          record { number = cur.number; level = cur.level; kind = k; name = m; place = cur.place; size = z } ≡ record_at s cur.level cur.number cur.place
      answered m f =
          let name : m ≡ record { code = name_at s cur.place } = name_is m _ f in
          let kind : k ≡ kind_of (word s cur.place) = d ∙ ap kind_of a in
          cc

      pub typed : g ≡ true → cur.place + 8 + 4 ≤ length s
      typed i = omega (arith, at.type (here true i))

      pub group_answered :
          g ≡ true → (m : Name) → m.code ≡ word s (cur.place + 8) →
          record { number = cur.number; level = cur.level; kind = k; name = m; place = cur.place; size = z } ≡ record_at s cur.level cur.number cur.place
      group_answered i m f = answered m (rw (here true i) f)

      pub leaf_answered :
          g ≡ false → (m : Name) → n ≡ m.code →
          record { number = cur.number; level = cur.level; kind = k; name = m; place = cur.place; size = z } ≡ record_at s cur.level cur.number cur.place
      leaf_answered i m f = answered m (rw (here false i) (sym f ∙ a))

      -- where the cursor goes

      pub enters : g ≡ true → Enterable cur z
      enters i = rw b (at.into (here true i))

      pub enter_onward : g ≡ true → (r : Cursor) → r ≡ entered cur z → r ≡ onward_at s cur
      enter_onward i r f = rw (here true i, ← b) f

      pub passes : g ≡ false → Passable cur z
      passes i = rw b (at.past (here false i))

      pub pass_onward : g ≡ false → (r : Cursor) → r ≡ passed cur z → r ≡ onward_at s cur
      pass_onward i r f = rw (here false i, ← b) f

-- a located cursor

module _ (s : List ℕ) (cur : Cursor) (at : Located s cur) (more : cur.number < count_of s) where
  pub file_lies : Lies s cur
  file_lies = record {
    short = at.short;
    header = located_header s cur at more;
    type = located_type s cur at more;
    into = located_enterable s cur at more;
    past = located_passable s cur at more;
  }

  pub file_record : (r : Record) → r ≡ record_at s cur.level cur.number cur.place → Ok r ≡ record_of s cur.number
  file_record r e = ap (λ (x : Record). Ok x) e ∙ sym (located_record s cur at more)

  pub file_onward : (r : Cursor) → r ≡ onward_at s cur → Located s r
  file_onward r e = rw e (located_onward s cur at more)

  pub file_number : (r : Cursor) → r ≡ onward_at s cur → r.number ≡ cur.number + 1
  file_number r e = ap (λ (x : Cursor). x.number) e ∙ onward_number s cur

pub ruleset file_laws = (file_lies, file_record, file_onward, file_number)

-- the parts of the cursor that is gone to

padded : (p z : ℕ) → p + 8 + (z + 1) / 2 * 2 ≡ p + 8 + z + z % 2
padded p z = omega arith

module _ (cur : Cursor) (z l : ℕ) where
  pub enter_answered :
      l ≡ open_level (set cur.ends (cur.level - 1) (cur.place + 8 + z)) (cur.place + 12) (cur.level + 1) →
      record { place = cur.place + 12; number = cur.number + 1; level = l; ends = set cur.ends (cur.level - 1) (cur.place + 8 + z) } ≡ entered cur z
  enter_answered e = cc

  pub pass_answered :
      l ≡ open_level cur.ends (cur.place + 8 + (z + 1) / 2 * 2) cur.level →
      record { place = cur.place + 8 + (z + 1) / 2 * 2; number = cur.number + 1; level = l; ends = cur.ends } ≡ passed cur z
  pass_answered e = rw (e, padded cur.place z)

pub ruleset open_laws = (open_more, open_stop, open_end)

pub ruleset at_laws = (named, sized, typed, group_answered, leaf_answered)

pub ruleset move_laws = (named, sized, enters, enter_onward, passes, pass_onward, enter_answered, pass_answered)
