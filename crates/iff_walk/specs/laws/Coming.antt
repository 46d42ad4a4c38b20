-- At each place of a sound file the first of the chunks still to come is read there, and at the next place the rest are still to come.
use Rattle.std.specs.Prelude.{ℕ, ◌+◌, ◌-◌, ◌*◌, ◌%◌, ◌≤◌, ◌<◌, ◌≡◌, refl, List, [], ◌++◌, Bool, true, false, length, drop}
use Rattle.std.proofs.Common.{sym, ap, ◌∙◌, subst, append_assoc, arith, length-append}
use Rattle.iff_name.specs.Name.{pick, kind_of}
use Rattle.iff_name.specs.declared.Kind.{Kind}
use Rattle.iff_rules.specs.declared.Position.TheVariants.{Outermost}
use Rattle.iff_chunk.specs.Chunks.{Chunks, none, leaf, group, Chunk, before, bytes, count, word, next_at}
use Rattle.iff_rules.specs.Rules.{is_group}
use Rattle.iff_tree.specs.Judge.{check_of}
use Rattle.iff_grammar.specs.Grammar.{ChunkFile}
use Rattle.iff_grammar.specs.Words.{Bytes}
use Rattle.iff_grammar.proofs.laws.Read.{leaf_name, leaf_size, leaf_data, leaf_next, leaf_rest, group_name, group_size}
use Rattle.iff_grammar.proofs.laws.Read.{group_type_lem, group_members, group_next, group_rest, length_leaf, length_group}
use Rattle.iff_grammar.proofs.laws.Names.{members_regular}
use Rattle.iff_grammar.proofs.laws.Files.{file_next, file_rest, file_complete, same_accepted, verdict_file}
use Rattle.iff_walk.specs.Order.{join, later, following}
use Rattle.iff_walk.specs.laws.Order.{join_bytes, join_length, join_regular, count_bytes}
use Rattle.iff_walk.specs.Coming.{Coming, AtLeaf, AtGroup, Sound}
use Rattle.iff_tree.specs.Judge.{accepting}
use Rattle.iff_tree.specs.declared.Accepted.{Accepted}
use Rattle.std.specs.Prelude.{Ok}

-- the end of the loop
pub coming_none : (s : List ℕ) (p e : ℕ) (P : Chunks) → Coming s p e P → e ≤ p → P ≡ none
coming_none s p e none c h = refl
coming_none s p e (leaf n d pd F) c h = absurd (omega (arith, c.ends, length_leaf n d pd F))
coming_none s p e (group n t G F) c h = absurd (omega (arith, c.ends, length_group n t G F))

-- and p is never beyond it
pub coming_within : (s : List ℕ) (p e : ℕ) (P : Chunks) → Coming s p e P → p ≤ e
coming_within s p e P c = omega (arith, c.ends)

-- a counter of chunks stays below the places
pub coming_count : (s : List ℕ) (p e : ℕ) (P : Chunks) → Coming s p e P → p + 8 * count P ≤ e
coming_count s p e P c = omega (arith, c.ends, count_bytes P)

-- the header at p lies before the end, and in the file
pub coming_header : (s : List ℕ) (p e : ℕ) (P : Chunks) → Coming s p e P → p < e → p + 8 ≤ e
unfolding bytes
coming_header s p e none c h = absurd (omega (arith, c.ends))
coming_header s p e (leaf n d pd F) c h = omega (arith, c.ends, length_leaf n d pd F)
coming_header s p e (group n t G F) c h = omega (arith, c.ends, length_group n t G F)

pub coming_room : (s : List ℕ) (p e : ℕ) (P : Chunks) → Coming s p e P → p < e → p + 8 ≤ length s
coming_room s p e P c h = omega (arith, coming_header s p e P c h, c.room)

leaf_first : (s : List ℕ) (p e n : ℕ) (d pd : List ℕ) (F : Chunks) → Coming s p e (leaf n d pd F) → AtLeaf s p e (leaf n d pd F)
leaf_first s p e n d pd F c =
    let R : List ℕ = drop e s in
    let r = c.regular in
    let next : next_at s p ≡ p + 8 + length d + length pd = leaf_next s p n d pd F R r c.short c.here in
    let long = length_leaf n d pd F in
    let to : next_at s p + length (bytes F) ≡ e = omega (arith, c.ends) in
    record {
      content = d;
      pad = pd;
      rest = F;
      is = ap (λ (k : ℕ). leaf k d pd F) (sym (leaf_name s p n d pd F R r c.short c.here));
      size = leaf_size s p n d pd F R r c.short c.here;
      padded = r.2;
      part = leaf_data s p n d pd F R r c.short c.here;
      ends = omega arith;
      next = record {
        short = c.short;
        regular = r.3;
        here = leaf_rest s p n d pd F R r c.short c.here;
        ends = to;
        room = c.room;
      };
    }

group_first : (s : List ℕ) (p e n t : ℕ) (G F : Chunks) → Coming s p e (group n t G F) → AtGroup s p e (group n t G F)
group_first s p e n t G F c =
    let R : List ℕ = drop e s in
    let r = c.regular in
    let next : next_at s p ≡ p + 12 + length (bytes G) = group_next s p n t G F R r c.short c.here in
    let long = length_group n t G F in
    let to : next_at s p + length (bytes F) ≡ e = omega (arith, c.ends) in
    let body : drop (p + 12) s ≡ bytes G ++ (bytes F ++ R) = group_members s p n t G F R r c.short c.here in
    let rest : drop (next_at s p) s ≡ bytes F ++ R = group_rest s p n t G F R r c.short c.here in
    let both : length (bytes (join G F)) ≡ length (bytes G) + length (bytes F) = join_length G F in
    let name : word s p ≡ n = group_name s p n t G F R r c.short c.here in
    let type : word s (p + 8) ≡ t = group_type_lem s p n t G F R r c.short c.here in
    record {
      members = G;
      rest = F;
      is = cc;
      size = group_size s p n t G F R r c.short c.here;
      ends = omega arith;
      inside = record {
        short = c.short;
        regular = r.3;
        here = body ∙ ap (λ (l : List ℕ). bytes G ++ l) (sym rest);
        ends = omega arith;
        room = omega (arith, c.room);
      };
      behind = record { short = c.short; regular = r.4; here = rest; ends = to; room = c.room };
      next = record {
        short = c.short;
        regular = join_regular G F r.3 r.4;
        here = body ∙ sym (append_assoc (bytes G) (bytes F) R) ∙ ap (λ (l : List ℕ). l ++ R) (sym (join_bytes G F));
        ends = omega arith;
        room = c.room;
      };
    }

clash : {A : Type 0} (b : Bool) → b ≡ true → b ≡ false → A
clash b x y = let z : ◌≡◌ {A = ℕ} 0 1 = cc in absurd (omega arith)

-- the name at p says which it is
pub leaf_here : (s : List ℕ) (p e : ℕ) (P : Chunks) → Coming s p e P → p < e → is_group (kind_of (word s p)) ≡ false → AtLeaf s p e P
unfolding bytes
leaf_here s p e none c h g = absurd (omega (arith, c.ends))
leaf_here s p e (leaf n d pd F) c h g = leaf_first s p e n d pd F c
leaf_here s p e (group n t G F) c h g =
    let name : word s p ≡ n = group_name s p n t G F (drop e s) c.regular c.short c.here in
    clash (is_group (kind_of (word s p))) (ap (λ (k : ℕ). is_group (kind_of k)) name ∙ c.regular.0) g

pub group_here : (s : List ℕ) (p e : ℕ) (P : Chunks) → Coming s p e P → p < e → is_group (kind_of (word s p)) ≡ true → AtGroup s p e P
unfolding bytes
group_here s p e none c h g = absurd (omega (arith, c.ends))
group_here s p e (group n t G F) c h g = group_first s p e n t G F c
group_here s p e (leaf n d pd F) c h g =
    let name : word s p ≡ n = leaf_name s p n d pd F (drop e s) c.regular c.short c.here in
    clash (is_group (kind_of (word s p))) g (ap (λ (k : ℕ). is_group (kind_of k)) name ∙ c.regular.0)

-- the same from what the code has: the name n that it read, its kind k and the answer b to whether that is a group
module _ (s : List ℕ) (p e : ℕ) (P : Chunks) (c : Coming s p e P) (h : p < e) (n : ℕ) (k : Kind) (b : Bool)
    (name : n ≡ word s p) (kind : k ≡ kind_of n) (asked : b ≡ is_group k) where
  pub at_leaf : b ≡ false → AtLeaf s p e P
  at_leaf i = leaf_here s p e P c h (cc)

  pub at_group : b ≡ true → AtGroup s p e P
  at_group i = group_here s p e P c h (cc)

  -- the leaf of the size z that the code read ends inside
  pub leaf_room : (z : ℕ) → b ≡ false → z ≡ word s (p + 4) → p + 8 + z + z % 2 ≤ e
  leaf_room z i size = rw size (at_leaf i).ends

  -- a group has its type inside
  pub group_room : b ≡ true → p + 12 ≤ e
  group_room i = coming_within s (p + 12) e _ (at_group i).next

-- the next state, of a leaf or a group
pub coming_later : (s : List ℕ) (p e : ℕ) (P : Chunks) → Coming s p e P → p < e → Coming s (following s p) e (later P)
unfolding later
coming_later s p e P c h = go (is_group (kind_of (word s p))) refl
  where
    go : (b : Bool) → is_group (kind_of (word s p)) ≡ b → Coming s (pick b (p + 12) (next_at s p)) e (later P)
    go true g = let a = group_here s p e P c h g in rw a.is a.next
    go false g = let a = leaf_here s p e P c h g in rw a.is a.next

-- the next place is further on, and inside
pub coming_further : (s : List ℕ) (p e : ℕ) (P : Chunks) → Coming s p e P → p < e → (p + 8 ≤ following s p) × (following s p ≤ e)
coming_further s p e P c h = (go (is_group (kind_of (word s p))), coming_within s (following s p) e (later P) (coming_later s p e P c h))
  where
    go : (b : Bool) → p + 8 ≤ pick b (p + 12) (next_at s p)
    go true = omega arith
    go false = omega arith

-- the start: the whole file
pub coming_file : (s : List ℕ) (c : Chunk) (R : List ℕ) → ChunkFile s c R → Coming s 0 (next_at s 0) (before c none)
coming_file s c R f =
    let long : length s ≡ length (bytes (before c none)) + length R = ap length f.whole ∙ length-append (bytes (before c none)) R in
    let next : next_at s 0 ≡ length (bytes (before c none)) = file_next s c R f in
    record {
      short = f.short;
      regular = members_regular Outermost [] (before c none) f.tree;
      here = f.whole ∙ ap (λ (l : List ℕ). bytes (before c none) ++ l) (sym (file_rest s c R f));
      ends = omega arith;
      room = omega arith;
    }

-- the chunks still to come are as many as the check counts
pub accepted_count : (s : List ℕ) (a : Accepted) → check_of s ≡ Ok a → (f : Sound s a.end) → a.chunks ≡ count (before f.chunk none)
accepted_count s a v f =
    let told : check_of s ≡ accepting (count (before f.chunk none)) (next_at s 0) (length s - next_at s 0) = rw f.read in
    ap (λ x. x.chunks) (same_accepted _ _ (sym v ∙ told))

pub accepted_sound : (s : List ℕ) → Bytes s → (a : Accepted) → check_of s ≡ Ok a → Sound s a.end
accepted_sound s b a v =
    let h = verdict_file s b a.chunks a.end a.trailing v in
    let f = h.2 in
    record {
      chunk = h.0;
      read = file_complete s h.0 h.1 f;
      start = subst (λ (k : ℕ). Coming s 0 k (before h.0 none)) (file_next s h.0 h.1 f ∙ sym h.4) (coming_file s h.0 h.1 f);
    }
