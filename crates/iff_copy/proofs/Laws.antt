-- One law for each way through the code. While the pads are made zero the buffer is what is clean already, then the chunks still to
-- come as the file has them, then what stood behind the copy; the result has the same with the pads of those chunks zero.
use Prim.Native.Nat.{ℕ, ◌+◌, ◌-◌, ◌%◌, ◌≤◌, ◌<◌}
use mathlib.Core.Path.{◌≡◌, refl, sym, ap, ◌∙◌}
use mathlib.Core.List.{List, [], ◌++◌}
use mathlib.Core.Bool.{Bool, true, false}
use native.Mathlib.Omega.{arith}
use lib.Dec.{eqb}
use lib.ListN.{length, take, drop, set, replicate, length-append, length-replicate, take-append-drop}
use lib.Seq.{take_at, drop_at, length-take-le}
use borrow.Author.Tests.{lt-ltb, le-ltb}
use Rattle.iff_name.specs.Name.{pick, kind_of}
use Rattle.iff_chunk.specs.Chunks.{Chunks, none, before, bytes, word, next_at}
use Rattle.iff_rules.specs.Rules.{is_group}
use Rattle.iff_tree.specs.Judge.{check_of}
use Rattle.iff_grammar.specs.Words.{Bytes}
use Rattle.iff_walk.specs.Order.{join, following}
use Rattle.iff_walk.specs.Coming.{Coming, AtLeaf, AtGroup, Sound}
use Rattle.iff_walk.specs.laws.Coming.{coming_none, coming_room, coming_further, leaf_here, group_here, accepted_sound}
use Rattle.iff_copy.specs.Clean.{zero_pads, clean_bytes, copy_of, copied_into}
use Rattle.iff_copy.specs.Pads.{pad_zeroed}
use Rattle.iff_copy.proofs.Bytes.{zero_length, leaf_head, group_head, leaf_split, group_split, group_split_zero, leaf_zeroed}
use Rattle.iff_refusal.specs.declared.Reason.TheVariants.{NoRoom}
use Rattle.iff_refusal.specs.declared.Refusal.{Refusal}
use Rattle.iff_refusal.specs.Numbers.{Answer, refusal}
use Rattle.iff_tree.specs.declared.Accepted.{Accepted}
use Rattle.std.specs.Prelude.{Ok, Err}

-- all chunks

pub record Cleaning (s : List ℕ) (p e : ℕ) (out v : List ℕ) : Type 0 where
  pub chunks : Chunks
  pub done : List ℕ
  pub behind : List ℕ
  pub coming : Coming s p e chunks
  pub placed : length done ≡ p
  pub buffer : out ≡ done ++ (bytes chunks ++ behind)
  pub goal : v ≡ done ++ (bytes (zero_pads chunks) ++ behind)

module _ (s : List ℕ) (p e : ℕ) (out v : List ℕ) (c : Cleaning s p e out v) (h : p < e) where
  step_group : AtGroup s p e c.chunks → Cleaning s (p + 12) e out v
  step_group a =
      let G : Chunks = a.members in
      let F : Chunks = a.rest in
      let n : ℕ = word s p in
      let t : ℕ = word s (p + 8) in
      let head : List ℕ = group_head n (4 + length (bytes G)) t in
      record {
        chunks = join G F;
        done = c.done ++ head;
        behind = c.behind;
        coming = a.next;
        placed = length-append c.done head ∙ omega (arith, c.placed);
        buffer = c.buffer ∙ rw a.is (group_split n t G F c.done c.behind);
        goal = c.goal ∙ rw a.is (group_split_zero n t G F c.done c.behind);
      }

  step_leaf : AtLeaf s p e c.chunks →
      Cleaning s (next_at s p) e (pick (eqb (word s (p + 4) % 2) 0) out (set out (p + 8 + word s (p + 4)) 0)) v
  unfolding zero_pads
  step_leaf a =
      let d : List ℕ = a.content in
      let F : Chunks = a.rest in
      let n : ℕ = word s p in
      let zeros : List ℕ = replicate (length a.pad) 0 in
      let head : List ℕ = leaf_head n d zeros in
      let l : length zeros ≡ length a.pad = length-replicate (length a.pad) 0 in
      let m : length (d ++ zeros) ≡ length d + length zeros = length-append d zeros in
      record {
        chunks = F;
        done = c.done ++ head;
        behind = c.behind;
        coming = a.next;
        placed = length-append c.done head ∙ omega (arith, c.placed, a.size, a.padded);
        buffer = rw (c.buffer, a.is, a.size) (leaf_zeroed n d a.pad F c.done c.behind (p + 8 + length d) a.padded (omega (arith, c.placed)));
        goal = c.goal ∙ rw a.is (leaf_split n d zeros (zero_pads F) c.done c.behind);
      }

  cleaning_step : Cleaning s (following s p) e (pad_zeroed s p out) v
  cleaning_step = go (is_group (kind_of (word s p))) refl
    where
      go : (b : Bool) → is_group (kind_of (word s p)) ≡ b → Cleaning s (pick b (p + 12) (next_at s p)) e
          (pick b out (pick (eqb (word s (p + 4) % 2) 0) out (set out (p + 8 + word s (p + 4)) 0))) v
      go true g = step_group (group_here s p e c.chunks c.coming h g)
      go false g = step_leaf (leaf_here s p e c.chunks c.coming h g)

  pub cleaning_next : (q : ℕ) (l : List ℕ) → q ≡ following s p → l ≡ pad_zeroed s p out → Cleaning s q e l v
  cleaning_next q l i j = rw (i, j) cleaning_step

  pub cleaning_less : (q : ℕ) → q ≡ following s p → e - q < e - p
  cleaning_less q i = let f = coming_further s p e c.chunks c.coming h in omega arith

  pub cleaning_header : p + 8 ≤ length s
  cleaning_header = coming_room s p e c.chunks c.coming h

  pub cleaning_room : (m : ℕ) → e ≤ m → following s p ≤ m
  cleaning_room m r = omega (arith, coming_further s p e c.chunks c.coming h)

pub cleaning_done : (s : List ℕ) (p e : ℕ) (out v : List ℕ) → Cleaning s p e out v → e ≤ p → out ≡ v
unfolding zero_pads bytes
cleaning_done s p e out v c h =
    let is : c.chunks ≡ none = coming_none s p e c.chunks c.coming h in
    let left : out ≡ c.done ++ c.behind = c.buffer ∙ ap (λ (P : Chunks). c.done ++ (bytes P ++ c.behind)) is in
    let right : v ≡ c.done ++ c.behind = c.goal ∙ ap (λ (P : Chunks). c.done ++ (bytes (zero_pads P) ++ c.behind)) is in
    left ∙ sym right

-- a sound file

module _ (s : List ℕ) (e : ℕ) (f : Sound s e) where
  sound_length : length (clean_bytes f.chunk) ≡ e
  sound_length = zero_length (before f.chunk none) ∙ omega (arith, f.start.ends)

  sound_bytes : take e s ≡ bytes (before f.chunk none)
  sound_bytes = ap (λ (l : List ℕ). take e l) f.start.here ∙ take_at _ _ e (omega (arith, f.start.ends))

  pub sound_room : e ≤ length s
  sound_room = f.start.room

  pub refused_room : (m : ℕ) (r : Refusal) → r ≡ refusal NoRoom 0 → m < e → Err r ≡ copy_of s m
  refused_room m r i h = rw (i, f.read, sound_length, lt-ltb m e h)

  pub refused_same : (out : List ℕ) → length out < e → out ≡ copied_into s out
  refused_same out h = rw (f.read, sound_length, lt-ltb (length out) e h)

  pub written_length : (m : ℕ) → e ≤ m → Ok e ≡ copy_of s m
  written_length m h = rw (f.read, sound_length, le-ltb m e h)

  sound_copy : (out : List ℕ) → e ≤ length out → copied_into s out ≡ clean_bytes f.chunk ++ drop e out
  sound_copy out h = rw (f.read, sound_length, le-ltb (length out) e h)

  pub cleaning_start : (out : List ℕ) → e ≤ length out → take e out ≡ take e s → Cleaning s 0 e out (copied_into s out)
  cleaning_start out h i =
      record {
        chunks = before f.chunk none;
        done = [];
        behind = drop e out;
        coming = f.start;
        placed = refl;
        buffer = sym (take-append-drop e out) ∙ ap (λ (l : List ℕ). l ++ drop e out) (i ∙ sound_bytes);
        goal = sound_copy out h;
      }

  module _ (out l : List ℕ) (h : e ≤ length out) (i : l ≡ take e s ++ drop e out) where
    front : length (take e s) ≡ e
    front = length-take-le e s sound_room

    pub copied_front : take e l ≡ take e s
    copied_front = rw i (take_at (take e s) (drop e out) e front)

    pub copied_long : e ≤ length l
    copied_long = rw i (simp length-append (omega (arith, front)))

    pub copied_same : (x : List ℕ) → x ≡ copied_into s l → x ≡ copied_into s out
    copied_same x j =
        let b : drop e l ≡ drop e out = rw i (drop_at (take e s) (drop e out) e front) in
        j ∙ sound_copy l copied_long ∙ rw b (sym (sound_copy out h))

pub ruleset cleaning_laws = (cleaning_start, cleaning_next, cleaning_less, cleaning_done)

-- the answer of the check

module _ (s : List ℕ) (v : Answer Accepted) (is : v ≡ check_of s) where
  pub accepted_file : Bytes s → (a : Accepted) → v ≡ Ok a → Sound s a.end
  accepted_file b a i = accepted_sound s b a (sym is ∙ i)
