-- How a place in a file goes on: past a chunk that is no group, into a group, and out of the groups that end where it stands.
-- In each way what is left of the file's bytes and what is left of its records lose the same chunk.
use Prim.Native.Nat.{ℕ, suc, ◌+◌, ◌-◌, ◌≤◌, ◌<◌, max}
use Rattle.std.specs.Prelude.{◌≡◌, refl, true, false, set, drop}
use Rattle.std.proofs.Math.Path.{sym, ap, ap₂, subst}
use Rattle.std.proofs.Common.{◌∙◌, add-one, length-set, get_or-set_same, get_or-set_other, eq-eqb, ne_eqb}
use mathlib.Core.List.{List, [], ◌∷◌, ◌++◌, append_assoc}
use native.Mathlib.Omega.{arith}
use Rattle.std.proofs.Math.ListN.{length, get_or}
use Rattle.iff_name.specs.Name.{kind_of}
use Rattle.iff_chunk.specs.Chunks.{Chunks, none, leaf, group, bytes, count, word, next_at}
use Rattle.iff_rules.specs.Rules.{is_group}
use Rattle.iff_grammar.specs.Grammar.{height}
use Rattle.iff_grammar.proofs.laws.Read.{leaf_fits, leaf_name, leaf_size, leaf_next, leaf_rest, length_leaf, length_group, group_fits, group_name, group_size, group_type_lem, group_members}
use Rattle.list_spec.specs.declared.Record.{Record}
use Rattle.list_spec.specs.Records.{records_from, pick_record}
use Rattle.list_spec.proofs.laws.Counts.{pick_drop, drop_one}
use Rattle.list_cursor.specs.Cursors.{record_at, open_level, row_bytes, pending, Ends, Ready, Stands}
use Rattle.std.specs.Prelude.{Ok}

-- ends of open groups

ends_on :
    (ends : List ℕ) (p q : ℕ) (F G : Chunks) (Fs : List Chunks) → p + length (bytes F) ≡ q + length (bytes G) → Ends ends p F Fs →
    Ends ends q G Fs
ends_on ends p q F G [] e o = tt
ends_on ends p q F G (H ∷ Fs) e o = rw e at o

ends_set : (ends : List ℕ) (k v p : ℕ) (F : Chunks) (Fs : List Chunks) → length Fs ≤ k → Ends ends p F Fs → Ends (set ends k v) p F Fs
ends_set ends k v p F [] h o = tt
ends_set ends k v p F (G ∷ Fs) h o =
    (get_or-set_other ends k (length Fs) v 0 (λ e. omega arith) ∙ o.0, ends_set ends k v (p + length (bytes F)) G Fs (omega arith) o.1)

-- one chunk on

module _ {s R : List ℕ} {all : List Record} {p n l : ℕ} {ends : List ℕ} (short : length s ≤ 16777216) where
  module _ {c : ℕ} {d pd : List ℕ} {F : Chunks} {Fs : List Chunks} (h : Stands s R all p n l ends (leaf c d pd F) Fs) where
    leaf_here : drop p s ≡ bytes (leaf c d pd F) ++ (row_bytes Fs ++ R)
    leaf_here = h.here ∙ append_assoc (bytes (leaf c d pd F)) (row_bytes Fs) R

    leaf_whole : p + 8 + length d + length pd ≤ length s
    leaf_whole = leaf_fits s p c d pd F _ h.rows.0 short leaf_here

    leaf-named : word s p ≡ c
    leaf-named = leaf_name s p c d pd F _ h.rows.0 short leaf_here

    leaf-after : next_at s p ≡ p + 8 + length d + length pd
    leaf-after = leaf_next s p c d pd F _ h.rows.0 short leaf_here

    pub leaf_room : p + 8 ≤ length s
    leaf_room = omega (arith, leaf_whole)

    pub leaf_past : next_at s p ≤ length s
    leaf_past = omega (arith, leaf-after, leaf_whole)

    pub leaf_kind : is_group (kind_of (word s p)) ≡ false
    leaf_kind = ap (λ (k : ℕ). is_group (kind_of k)) leaf-named ∙ h.rows.0.0

    pub leaf_record : pick_record all n ≡ Ok (record_at s l n p)
    unfolding records_from
    leaf_record =
        let size : word s (p + 4) ≡ length d = leaf_size s p c d pd F _ h.rows.0 short leaf_here in
        pick_drop all n _ _ h.left ∙ rw (leaf_kind, leaf-named, size, h.level)

    pub leaf_step : Stands s R all (next_at s p) (n + 1) l ends F Fs
    unfolding records_from count
    leaf_step =
        let next = leaf-after in
        let len = length_leaf c d pd F in
        let to : p + length (bytes (leaf c d pd F)) ≡ next_at s p + length (bytes F) = omega arith in
        let on : n + count (leaf c d pd F) ≡ n + 1 + count F = omega arith in
        let later = ap₂ (λ (k q : ℕ). pending k q Fs) on to in
        let row = ap (λ (q : ℕ). records_from (length Fs + 1) (n + 1) q F) (sym next) in
        record {
          level = h.level;
          rows = (h.rows.0.3, h.rows.1, h.rows.2);
          here = leaf_rest s p c d pd F _ h.rows.0 short leaf_here ∙ sym (append_assoc (bytes F) (row_bytes Fs) R);
          open_ends = ends_on ends p (next_at s p) (leaf c d pd F) F Fs to h.open_ends;
          left = drop_one all n _ _ h.left ∙ ap₂ (λ (x y : List Record). x ++ y) row later;
          low = omega (arith, h.low);
          slots = h.slots;
        }

  module _ {c t : ℕ} {G F : Chunks} {Fs : List Chunks} (h : Stands s R all p n l ends (group c t G F) Fs) where
    group_here : drop p s ≡ bytes (group c t G F) ++ (row_bytes Fs ++ R)
    group_here = h.here ∙ append_assoc (bytes (group c t G F)) (row_bytes Fs) R

    group_whole : p + 12 + length (bytes G) ≤ length s
    group_whole = group_fits s p c t G F _ h.rows.0 short group_here

    group-named : word s p ≡ c
    group-named = group_name s p c t G F _ h.rows.0 short group_here

    group-sized : word s (p + 4) ≡ 4 + length (bytes G)
    group-sized = group_size s p c t G F _ h.rows.0 short group_here

    pub group_room : p + 12 ≤ length s
    group_room = omega (arith, group_whole)

    pub group_end : p + 8 + word s (p + 4) ≤ length s
    group_end = omega (arith, group-sized, group_whole)

    pub group_slot : l ≤ 16
    group_slot = omega (arith, h.level, h.rows.1)

    pub group_kind : is_group (kind_of (word s p)) ≡ true
    group_kind = ap (λ (k : ℕ). is_group (kind_of k)) group-named ∙ h.rows.0.0

    pub group_record : pick_record all n ≡ Ok (record_at s l n p)
    unfolding records_from
    group_record =
        let type : word s (p + 8) ≡ t = group_type_lem s p c t G F _ h.rows.0 short group_here in
        pick_drop all n _ _ h.left ∙ rw (group_kind, group-named, group-sized, type, h.level)

    -- its end is stored where the ends of groups of its level are
    ends-stored :
        (k v : ℕ) → k ≡ length Fs → v ≡ p + 12 + length (bytes G) → Ends (set ends k v) (p + 12) G (F ∷ Fs)
    ends-stored k v at end =
        let len = length_group c t G F in
        let slot = group_slot in
        let deep : k < length ends = omega (arith, h.level, h.slots) in
        let q : ℕ = p + 12 + length (bytes G) in
        let to : p + length (bytes (group c t G F)) ≡ q + length (bytes F) = omega arith in
        let stored : get_or (set ends k v) (length Fs) 0 ≡ v = ap (λ (j : ℕ). get_or (set ends k v) j 0) (sym at) ∙ get_or-set_same ends k v 0 deep in
        (stored ∙ end, ends_set ends k v q F Fs (omega arith) (ends_on ends p q (group c t G F) F Fs to h.open_ends))

    -- its members are listed before what is behind it
    records-in : drop (n + 1) all ≡ pending (n + 1) (p + 12) (G ∷ F ∷ Fs)
    unfolding records_from count
    records-in =
        let len = length_group c t G F in
        let to : p + length (bytes (group c t G F)) ≡ p + 12 + length (bytes G) + length (bytes F) = omega arith in
        let on : n + count (group c t G F) ≡ n + 1 + count G + count F = omega arith in
        let deeper : length Fs + 1 + 1 ≡ suc (length Fs) + 1 = omega arith in
        let inner = ap (λ (k : ℕ). records_from k (n + 1) (p + 12) G) deeper in
        let row : List Record = records_from (length Fs + 1) (n + 1 + count G) (p + 12 + length (bytes G)) F in
        let later = ap (λ (x : List Record). row ++ x) (ap₂ (λ (k q : ℕ). pending k q Fs) on to) in
        drop_one all n _ _ h.left ∙ append_assoc (records_from (length Fs + 1 + 1) (n + 1) (p + 12) G) row _
        ∙ ap₂ (λ (x y : List Record). x ++ y) inner later

    pub group_step : Stands s R all (p + 12) (n + 1) (l + 1) (set ends (l - 1) (p + 8 + word s (p + 4))) G (F ∷ Fs)
    group_step =
        let size = group-sized in
        let deep : length Fs + max (1 + height G) (height F) ≤ 16 = h.rows.1 in
        record {
          level = omega (arith, h.level);
          rows = (h.rows.0.3, omega arith, (h.rows.0.4, omega arith, h.rows.2));
          here = group_members s p c t G F _ h.rows.0 short group_here
              ∙ ap (λ (x : List ℕ). bytes G ++ x) (sym (append_assoc (bytes F) (row_bytes Fs) R))
              ∙ sym (append_assoc (bytes G) (bytes F ++ row_bytes Fs) R);
          open_ends = ends-stored (l - 1) (p + 8 + word s (p + 4)) (omega (arith, h.level)) (omega arith);
          left = records-in;
          low = omega (arith, h.low);
          slots = length-set ends (l - 1) _ ∙ h.slots;
        }

-- out of groups that end here

open_shut : (ends : List ℕ) (p l : ℕ) → get_or ends l 0 ≡ p → open_level ends p (suc l + 1) ≡ open_level ends p (l + 1)
unfolding open_level
open_shut ends p l e = rw (add-one, add-one, eq-eqb (get_or ends l 0) p e)

open_kept : (ends : List ℕ) (p l : ℕ) → (get_or ends l 0 ≡ p → ⊥) → open_level ends p (suc l + 1) ≡ suc l + 1
unfolding open_level
open_kept ends p l e = rw (add-one, ne_eqb (get_or ends l 0) p e)

open_one : (ends : List ℕ) (p : ℕ) → open_level ends p 1 ≡ 1
unfolding open_level
open_one ends p = refl

-- the rows in which a place stands once the groups are closed that end there
pub record Settled (s R : List ℕ) (all : List Record) (p n l : ℕ) (ends : List ℕ) : Type 0 where
  pub row : Chunks
  pub around : List Chunks
  pub stands : Stands s R all p n l ends row around
  pub ready : Ready row around

module _ {s R : List ℕ} {all : List Record} {p n : ℕ} {ends : List ℕ} where
  stay :
      {l : ℕ} {F : Chunks} {Fs : List Chunks} → Stands s R all p n l ends F Fs → Ready F Fs → open_level ends p l ≡ l →
      Settled s R all p n (open_level ends p l) ends
  stay {l} {F} {Fs} h r e = rw e (record { row = F; around = Fs; stands = h; ready = r })

  shut : {l : ℕ} {F : Chunks} {Fs : List Chunks} → Stands s R all p n l ends none (F ∷ Fs) → Stands s R all p n (length Fs + 1) ends F Fs
  unfolding bytes records_from count
  shut {l} {F} {Fs} h =
      let y : n + 0 ≡ n = omega arith in
      let z : p + 0 ≡ p = omega arith in
      record {
        level = refl;
        rows = h.rows.2;
        here = h.here;
        open_ends = subst (λ (q : ℕ). Ends ends q F Fs) z h.open_ends.1;
        left = h.left ∙ ap₂ (λ (k q : ℕ). pending k q (F ∷ Fs)) y z;
        low = h.low;
        slots = h.slots;
      }

  pub settle : (Fs : List Chunks) (F : Chunks) (l : ℕ) → Stands s R all p n l ends F Fs → Settled s R all p n (open_level ends p l) ends
  unfolding bytes
  settle [] none l h = stay h tt (rw h.level (open_one ends p))
  settle [] (leaf c d pd F) l h = stay h tt (rw h.level (open_one ends p))
  settle [] (group c t G F) l h = stay h tt (rw h.level (open_one ends p))
  settle (H ∷ Fs) none l h =
      let e : get_or ends (length Fs) 0 ≡ p = omega (arith, h.open_ends.0) in
      let lower : open_level ends p l ≡ open_level ends p (length Fs + 1) = ap (λ (k : ℕ). open_level ends p k) h.level ∙ open_shut ends p (length Fs) e in
      rw lower (settle Fs H (length Fs + 1) (shut h))
  settle (H ∷ Fs) (leaf c d pd F) l h =
      let len = length_leaf c d pd F in
      let e : get_or ends (length Fs) 0 ≡ p + length (bytes (leaf c d pd F)) = h.open_ends.0 in
      stay h tt (rw h.level (open_kept ends p (length Fs) (λ z. omega arith)))
  settle (H ∷ Fs) (group c t G F) l h =
      let len = length_group c t G F in
      let e : get_or ends (length Fs) 0 ≡ p + length (bytes (group c t G F)) = h.open_ends.0 in
      stay h tt (rw h.level (open_kept ends p (length Fs) (λ z. omega arith)))
