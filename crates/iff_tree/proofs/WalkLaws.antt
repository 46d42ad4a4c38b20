-- Laws of `chunk_at` and `run`: one for each way through the walk.
use Prim.Native.Nat.{ℕ, zero, suc, ◌+◌, ◌-◌, ◌*◌, ◌/◌, ◌%◌, ◌≤◌, ◌<◌}
use mathlib.Core.Path.{◌≡◌, refl, sym, ap, ◌∙◌}
use mathlib.Core.List.{List}
use mathlib.Core.Bool.{false}
use borrow.Author.Tests.{lt-ltb, le-ltb}
use native.Mathlib.Omega.{arith}
use native.Mathlib.Numerals.{sub-one}
use Rattle.iff_name.specs.Name.{kind_of}
use Rattle.iff_name.specs.declared.Kind.{Kind}
use Rattle.iff_name.specs.declared.Kind.TheVariants.{FORM, LIST, CAT, PROP, FILLER, LOCAL}
use Rattle.iff_rules.specs.declared.Position.{Position}
use Rattle.iff_rules.specs.declared.Position.TheVariants.{Outermost, InForm, InProp, InList, InCat}
use Rattle.iff_header.specs.declared.Header.{Header}
use Rattle.iff_header.specs.declared.Header.TheVariants.{Leaf, Group}
use Rattle.iff_chunk.specs.Chunks.{Chunks, none, Chunk, a_leaf, a_group, before, count, word, next_at}
use Rattle.iff_rules.specs.Rules.{is_group, inside, after}
use Rattle.iff_header.specs.Checks.{header_of}
use Rattle.iff_tree.specs.Judge.{Found, found, refused, and_then, run, chunk_at, members_of, group_of, step_of, walked_of}
use Rattle.iff_header.specs.Checks.{LeafFits, GroupFits, Fitting}
use Rattle.iff_tree.specs.Judge.{Ahead}
use Rattle.iff_refusal.specs.declared.Reason.{Reason}
use Rattle.iff_refusal.specs.Numbers.{Answer, refusal}
use Rattle.iff_refusal.specs.declared.Refusal.{Refusal}
use Rattle.std.specs.Prelude.{Ok, Err, Result}

-- two steps that are the same, part by part
pub same_step :
    (x y : Position) (m n q p : ℕ) → ◌≡◌ {A = Answer (Position × ℕ × ℕ)} (Ok (x, m, q)) (Ok (y, n, p)) → (x ≡ y) × (m ≡ n) × (q ≡ p)
same_step x y m n q p i =
    let j : ◌≡◌ {A = Position × ℕ × ℕ} (x, m, q) (y, n, p) = cc in (ap (λ t. t.0) j, ap (λ t. t.1) j, ap (λ t. t.2) j)

-- a chunk that is no group changes no position
after_leaf : (w : Position) (k : Kind) → is_group k ≡ false → after w k ≡ w
after_leaf Outermost k e = refl
after_leaf InForm k e = refl
after_leaf InProp k e = refl
after_leaf InList FORM e = cc
after_leaf InList LIST e = cc
after_leaf InList CAT e = cc
after_leaf InList PROP e = cc
after_leaf InList FILLER e = refl
after_leaf InList LOCAL e = refl
after_leaf InCat k e = refl

count_leaf : (c : ℕ) (d p : List ℕ) → count (before (a_leaf c d p) none) ≡ 1
unfolding count
count_leaf c d p = refl

count_group : (c t : ℕ) (G : Chunks) → count (before (a_group c t G) none) ≡ 1 + count G
unfolding count
count_group c t G = omega arith

count_before : (c : Chunk) (F : Chunks) → count (before c F) ≡ count (before c none) + count F
unfolding count
count_before (a_leaf n d p) F = omega arith
count_before (a_group n t G) F = omega arith

padded : (p z : ℕ) → p + 8 + (z + 1) / 2 * 2 ≡ p + 8 + z + z % 2
padded p z = omega arith

module _ (s : List ℕ) (w : Position) (p e from n : ℕ) (h : Result Header Reason) where
  pub member_bad :
      (lv : ℕ) (k : Reason) (r : Refusal) → h ≡ header_of lv s from w p e → h ≡ Err k → r ≡ refusal k p →
      Err r ≡ step_of s w p n (chunk_at lv s from w p e)
  unfolding chunk_at
  member_bad zero k r d i a = simp (← d, i, a)
  member_bad (suc lv) k r d i a = simp (← d, i, a)

  pub member_leaf :
      (lv z : ℕ) (g : Header) → h ≡ header_of lv s from w p e → h ≡ Ok g → g ≡ Leaf z → Fitting lv s p e h →
      Ok (w, (n + 1), (p + 8 + (z + 1) / 2 * 2)) ≡ step_of s w p n (chunk_at lv s from w p e)
  unfolding chunk_at
  member_leaf zero z g d i j f =
      let a : LeafFits s p e z = rw (i, j) at f in
      simp (← d, i, j) (rw (count_leaf, after_leaf w (kind_of (word s p)) a.plain, padded, ← a.size))
  member_leaf (suc lv) z g d i j f =
      let a : LeafFits s p e z = rw (i, j) at f in
      simp (← d, i, j) (rw (count_leaf, after_leaf w (kind_of (word s p)) a.plain, padded, ← a.size))

  pub member_group :
      (lv : ℕ) (k : Kind) (z : ℕ) (g : Header) (r : Answer (Position × ℕ × ℕ)) →
      h ≡ header_of lv s from w p e → h ≡ Ok g → g ≡ Group k z → Fitting lv s p e h →
      r ≡ step_of s w p n (group_of (lv - 1) s p k z) → r ≡ step_of s w p n (chunk_at lv s from w p e)
  unfolding chunk_at
  member_group zero k z g r d i j f R = let a : GroupFits 0 s p e k z = rw (i, j) at f in absurd (omega (arith, a.level))
  member_group (suc lv) k z g r d i j f R = simp (← d, i, j) (rw sub-one at R)

module _ (lv : ℕ) (s : List ℕ) (w : Position) (p e n : ℕ) (k : Kind) (z : ℕ) (f : GroupFits lv s p e k z) (u : Answer ℕ) where
  enter_answered :
      (F : Found Chunks) (m : ℕ) → Ok m ≡ walked_of (n + 1) F →
      Ok ((after w k), m, (p + 8 + (z + 1) / 2 * 2)) ≡ step_of s w p n (and_then F (λ G. found (a_group (word s p) (word s (p + 8)) G)))
  enter_answered (found G) m j =
      let i : m ≡ n + (1 + count G) = cc (the_sum) in
      rw (i, count_group, padded, ← f.size, f.kind)
    where
      the_sum : n + 1 + count G ≡ n + (1 + count G)
      the_sum = omega arith
  enter_answered (refused a b) m j = absurd cc

  pub enter_whole :
      (x v : Position) (m : ℕ) → x ≡ after w k → v ≡ inside k →
      u ≡ walked_of (n + 1) (members_of (lv - 1) s (p + 12) v (p + 12) (p + 8 + z)) → u ≡ Ok m →
      Ok (x, m, (p + 8 + (z + 1) / 2 * 2)) ≡ step_of s w p n (group_of (lv - 1) s p k z)
  enter_whole x v m a b i j = rw a (enter_answered (members_of (lv - 1) s (p + 12) (inside k) (p + 12) (p + 8 + z)) m (sym j ∙ (rw b at i)))

  enter_stop :
      (F : Found Chunks) (r : Refusal) → Err r ≡ walked_of (n + 1) F →
      Err r ≡ step_of s w p n (and_then F (λ G. found (a_group (word s p) (word s (p + 8)) G)))
  enter_stop (found G) r j = absurd cc
  enter_stop (refused c d) r j = cc

  pub enter_broken :
      (v : Position) (r : Refusal) → v ≡ inside k →
      u ≡ walked_of (n + 1) (members_of (lv - 1) s (p + 12) v (p + 12) (p + 8 + z)) → u ≡ Err r →
      Err r ≡ step_of s w p n (group_of (lv - 1) s p k z)
  enter_broken v r y i j = enter_stop (members_of (lv - 1) s (p + 12) (inside k) (p + 12) (p + 8 + z)) r (sym j ∙ (rw y at i))

-- enough fuel brings the members from p to e, after n chunks, to v
abbrev pub Runs : (Position → ℕ → ℕ → Found Chunk) → List ℕ → Position → ℕ → ℕ → ℕ → Answer ℕ → Type 0
Runs chunk s w p e n v = (fuel : ℕ) × ((e - p ≤ fuel) × (walked_of n (run chunk s fuel w p e) ≡ v))

module _ (chunk : Position → ℕ → ℕ → Found Chunk) (s : List ℕ) (w : Position) (p e n : ℕ) (v : Answer ℕ) (h : p < e)
    (r : Answer (Position × ℕ × ℕ)) (d : r ≡ step_of s w p n (chunk w p e)) where
  more_all :
      (c : Chunk) (F : Found Chunks) (m : ℕ) → m ≡ n + count (before c none) →
      walked_of n (and_then F (λ G. found (before c G))) ≡ v → walked_of m F ≡ v
  more_all c (found F) m i u =
      let j : n + count (before c F) ≡ m + count F = omega (arith, count_before c F) in
      sym (ap Ok j) ∙ u
  more_all c (refused a b) m i u = u

  more_one :
      (fuel : ℕ) (f : Found Chunk) (x : Position) (m q : ℕ) → Ok (x, m, q) ≡ step_of s w p n f →
      walked_of n (and_then f (λ c. and_then (run chunk s fuel (after w (kind_of (word s p))) (next_at s p) e) (λ F. found (before c F))))
      ≡ v →
      walked_of m (run chunk s fuel x q e) ≡ v
  more_one fuel (found c) x m q i u =
      let k = same_step _ _ _ _ _ _ i in
      rw (k.0, k.2) (more_all c (run chunk s fuel (after w (kind_of (word s p))) (next_at s p) e) m k.1 u)
  more_one fuel (refused a b) x m q i u = absurd cc

  pub runs_more : (x : Position) (m q : ℕ) → p < q → r ≡ Ok (x, m, q) → Runs chunk s w p e n v → Runs chunk s x q e m v
  unfolding run
  runs_more x m q a i (zero, (f, u)) = absurd (omega arith)
  runs_more x m q a i (suc k, (f, u)) = (k, (omega arith, more_one k (chunk w p e) x m q (sym i ∙ d) (rw (lt-ltb p e h) at u)))

  stop_one :
      (fuel : ℕ) (f : Found Chunk) (a : Refusal) → Err a ≡ step_of s w p n f →
      walked_of n (and_then f (λ c. and_then (run chunk s fuel (after w (kind_of (word s p))) (next_at s p) e) (λ F. found (before c F))))
      ≡ v →
      Err a ≡ v
  stop_one fuel (found c) a i u = absurd cc
  stop_one fuel (refused k x) a i u = cc

  pub runs_stop : (a : Refusal) → r ≡ Err a → Runs chunk s w p e n v → Err a ≡ v
  unfolding run
  runs_stop a i (zero, (f, u)) = absurd (omega arith)
  runs_stop a i (suc k, (f, u)) = stop_one k (chunk w p e) a (sym i ∙ d) (rw (lt-ltb p e h) at u)

pub runs_end :
    (chunk : Position → ℕ → ℕ → Found Chunk) (s : List ℕ) (w : Position) (p e n : ℕ) (v : Answer ℕ) → e ≤ p → Runs chunk s w p e n v →
    Ok n ≡ v
unfolding run count
runs_end chunk s w p e n v h (zero, (f, u)) = let j : n ≡ n + 0 = omega arith in ap Ok j ∙ u
runs_end chunk s w p e n v h (suc k, (f, u)) = let j : n ≡ n + 0 = omega arith in ap Ok j ∙ (rw (le-ltb p e h) at u)

-- what the facts by cases say, once the case is known
module _ (p e : ℕ) (r : Answer (Position × ℕ × ℕ)) (x : Position) (m q : ℕ) (k : Ahead p e r) (i : r ≡ Ok (x, m, q)) where
  pub ahead_end : q ≤ e
  ahead_end = (rw i at k).1

  pub ahead_count : m ≤ q
  ahead_count = (rw i at k).2

  pub ahead_start : p < q
  ahead_start = (rw i at k).0

  pub ahead_less : p < e → e - q < e - p
  ahead_less h = let j = rw i at k in omega arith

pub ruleset walk_laws = (
  member_bad,
  member_leaf,
  member_group,
  enter_whole,
  enter_broken,
  runs_more,
  runs_stop,
  runs_end,
  ahead_end,
  ahead_count,
  ahead_start,
  ahead_less,
)
