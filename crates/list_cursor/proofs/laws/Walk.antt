-- What a located cursor knows, how it goes on, and where it starts: the laws by which a walk over a file's records is proved.
use Rattle.std.specs.Prelude.{ℕ, ◌+◌, ◌≤◌, ◌<◌, ◌≡◌, refl, Bool, true, false, List, [], ◌∷◌, ◌++◌, drop, replicate}
use Rattle.std.proofs.Common.{sym, ap, ◌∙◌, append-nil, arith, length-drop}
use Rattle.std.proofs.Math.ListN.{length}
use Rattle.iff_name.specs.Name.{pick, kind_of}
use Rattle.iff_chunk.specs.Chunks.{Chunks, none, leaf, group, Chunk, a_leaf, a_group, before, bytes, count, word, next_at}
use Rattle.iff_rules.specs.Rules.{is_group}
use Rattle.iff_tree.specs.Judge.{Found, found, refused, read_file, verdict_of, check_of}
use Rattle.iff_grammar.specs.Grammar.{ChunkFile}
use Rattle.iff_grammar.specs.Words.{Bytes}
use Rattle.iff_grammar.proofs.laws.Names.{members_regular}
use Rattle.iff_grammar.proofs.Accept.{sound}
use Rattle.list_spec.specs.declared.Record.{Record}
use Rattle.list_spec.specs.Records.{records_from, records_of, record_of, count_of}
use Rattle.list_spec.proofs.laws.Counts.{length_records}
use Rattle.list_cursor.specs.declared.Cursor.{Cursor}
use Rattle.list_cursor.specs.Cursors.{first_cursor, record_at, entered, passed, group_at, onward_at, Enterable, Passable, Ready, Stands, Located}
use Rattle.list_cursor.proofs.laws.Steps.{Settled, settle, leaf_room, leaf_past, leaf_kind, leaf_record, leaf_step, group_room, group_end, group_slot, group_kind, group_record, group_step}
use Rattle.iff_tree.specs.declared.Accepted.{Accepted}
use Rattle.std.specs.Prelude.{Ok}

clash : (P : Type 0) (b : Bool) → b ≡ true → b ≡ false → P
clash P b e f = let z : ◌≡◌ {A = ℕ} 0 1 = cc in absurd (omega arith)

none_left : (all : List Record) (n : ℕ) → drop n all ≡ [] → n < length all → ⊥
none_left all n e h = omega (arith, length-drop n all, ap length e)

module _ (s : List ℕ) (cur : Cursor) (at : Located s cur) where
  -- what stands at the cursor
  Here : Chunks → List Chunks → Type 0
  Here F Fs = Stands s at.trailing (records_of at.tree) cur.place cur.number cur.level cur.ends F Fs

  on : (next : Cursor) → Settled s at.trailing (records_of at.tree) next.place next.number next.level next.ends → Located s next
  on next x = record {
    tree = at.tree;
    trailing = at.trailing;
    row = x.row;
    around = x.around;
    accepted = at.accepted;
    short = at.short;
    stands = x.stands;
    ready = x.ready;
  }

  module _ (more : cur.number < count_of s) where
    by-chunk :
        (P : Type 0) → ((c : ℕ) (d pd : List ℕ) (F : Chunks) (Fs : List Chunks) → Here (leaf c d pd F) Fs → P) →
        ((c t : ℕ) (G F : Chunks) (Fs : List Chunks) → Here (group c t G F) Fs → P) → P
    unfolding Here records_from
    by-chunk P f g = go at.row at.around at.stands at.ready
      where
        fewer : cur.number < length (records_of at.tree)
        fewer = let h : cur.number < count (before at.tree none) = rw at.accepted at more in omega (arith, length_records 1 0 0 (before at.tree none))

        go : (F : Chunks) (Fs : List Chunks) → Here F Fs → Ready F Fs → P
        go none [] h r = absurd (none_left (records_of at.tree) cur.number h.left fewer)
        go none (H ∷ Fs) h r = absurd r
        go (leaf c d pd F) Fs h r = f c d pd F Fs h
        go (group c t G F) Fs h r = g c t G F Fs h

    -- The header at the cursor gives the record of its number.
    pub located_record : record_of s cur.number ≡ Ok (record_at s cur.level cur.number cur.place)
    unfolding Here
    located_record = rw at.accepted (by-chunk _ (λ c d pd F Fs h. leaf_record at.short h) (λ c t G F Fs h. group_record at.short h))

    -- it lies in the file
    pub located_header : cur.place + 8 ≤ length s
    unfolding Here
    located_header = by-chunk _ (λ c d pd F Fs h. leaf_room at.short h) (λ c t G F Fs h. omega (arith, group_room at.short h))

    pub located_place : cur.place + 8 ≤ 16777216
    located_place = omega (arith, located_header, at.short)

    module _ (i : is_group (kind_of (word s cur.place)) ≡ false) where
      by_leaf : (P : Type 0) → ((c : ℕ) (d pd : List ℕ) (F : Chunks) (Fs : List Chunks) → Here (leaf c d pd F) Fs → P) → P
      unfolding Here
      by_leaf P f = by-chunk P f (λ c t G F Fs h. clash P _ (group_kind at.short h) i)

      pub located_passable : Passable cur (word s (cur.place + 4))
      unfolding Here
      located_passable =
          by_leaf _ (λ c d pd F Fs h. record {
            ends = omega (arith, leaf_past at.short h, at.short);
            low = h.low;
            deep = omega (arith, h.level, h.rows.1);
          })

      pub located_past : next_at s cur.place ≤ length s
      unfolding Here
      located_past = by_leaf _ (λ c d pd F Fs h. leaf_past at.short h)

      -- A chunk that is no group is passed.
      pub located_pass : Located s (passed cur (word s (cur.place + 4)))
      unfolding Here
      located_pass = by_leaf _ (λ c d pd F Fs h. on (passed cur (word s (cur.place + 4))) (settle Fs F cur.level (leaf_step at.short h)))

    module _ (i : is_group (kind_of (word s cur.place)) ≡ true) where
      by_group : (P : Type 0) → ((c t : ℕ) (G F : Chunks) (Fs : List Chunks) → Here (group c t G F) Fs → P) → P
      unfolding Here
      by_group P g = by-chunk P (λ c d pd F Fs h. clash P _ i (leaf_kind at.short h)) g

      pub located_type : cur.place + 12 ≤ length s
      unfolding Here
      located_type = by_group _ (λ c t G F Fs h. group_room at.short h)

      pub located_end : cur.place + 8 + word s (cur.place + 4) ≤ length s
      unfolding Here
      located_end = by_group _ (λ c t G F Fs h. group_end at.short h)

      pub located_enterable : Enterable cur (word s (cur.place + 4))
      unfolding Here
      located_enterable =
          by_group _ (λ c t G F Fs h. record {
            type = omega (arith, group_room at.short h, at.short);
            ends = omega (arith, group_end at.short h, at.short);
            low = h.low;
            level = omega (arith, h.level);
            slot = group_slot at.short h;
          })

      -- A group is entered.
      pub located_enter : Located s (entered cur (word s (cur.place + 4)))
      unfolding Here
      located_enter =
          by_group _ (λ c t G F Fs h. on (entered cur (word s (cur.place + 4))) (settle (F ∷ Fs) G (cur.level + 1) (group_step at.short h)))

module _ (s : List ℕ) (cur : Cursor) (at : Located s cur) (more : cur.number < count_of s) where
  pub located_onward : Located s (onward_at s cur)
  located_onward = by_kind (group_at s cur) refl
    where
      by_kind : (g : Bool) → group_at s cur ≡ g → Located s (pick g (entered cur (word s (cur.place + 4))) (passed cur (word s (cur.place + 4))))
      by_kind true i = located_enter s cur at more i
      by_kind false i = located_pass s cur at more i

pub onward_number : (s : List ℕ) (cur : Cursor) → (onward_at s cur).number ≡ cur.number + 1
onward_number s cur = by_kind (group_at s cur)
  where
    by_kind : (g : Bool) → (pick g (entered cur (word s (cur.place + 4))) (passed cur (word s (cur.place + 4)))).number ≡ cur.number + 1
    by_kind true = refl
    by_kind false = refl

-- from the start

first_ready : (c : Chunk) → Ready (before c none) []
first_ready (a_leaf n d pd) = tt
first_ready (a_group n t G) = tt

first_stands : (s : List ℕ) (c : Chunk) (R : List ℕ) → ChunkFile s c R → Stands s R (records_of c) 0 0 1 (replicate 16 0) (before c none) []
first_stands s c R f = record {
  level = refl;
  rows = (members_regular _ _ (before c none) f.tree, omega (arith, f.nesting), tt);
  here = f.whole ∙ ap (λ (l : List ℕ). l ++ R) (sym (append-nil (bytes (before c none))));
  open_ends = tt;
  left = sym (append-nil (records_of c));
  low = omega arith;
  slots = refl;
}

located_file : (s : List ℕ) (c : Chunk) (R : List ℕ) → read_file s ≡ found c → ChunkFile s c R → Located s first_cursor
located_file s c R e f = record {
  tree = c;
  trailing = R;
  row = before c none;
  around = [];
  accepted = e;
  short = omega (arith, f.short);
  stands = first_stands s c R f;
  ready = first_ready c;
}

-- In an accepted file the first cursor is located, and the check has counted the records.
pub located_first : (s : List ℕ) → Bytes s → (v : Accepted) → Ok v ≡ check_of s → (Located s first_cursor) × (v.chunks ≡ count_of s)
located_first s b v d = go (read_file s) refl d
  where
    go : (f : Found Chunk) → read_file s ≡ f → Ok v ≡ verdict_of s f → (Located s first_cursor) × (v.chunks ≡ count_of s)
    go (found c) x y = let g = sound s b c x in (located_file s c g.0 x g.1, rw x (cc))
    go (refused k p) x y = let z : ◌≡◌ {A = ℕ} 0 1 = cc in absurd (omega arith)
