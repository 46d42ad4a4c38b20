-- The pictures among the chunks still to come: each chunk takes itself off, and brings in nothing.
use Prim.Native.Nat.{ℕ, ◌+◌, ◌-◌, ◌≤◌, ◌<◌}
use mathlib.Core.Path.{◌≡◌, refl, sym, ap, ◌∙◌}
use mathlib.Core.Bool.{Bool, true, false}
use mathlib.Core.List.{List, [], ◌∷◌, ◌++◌}
use lib.ListN.{length, length-append}
use mir.Syntax.{w64}
use mir.Val.{Fits}
use borrow.Author.Tests.{ne_eqb}
use native.Mathlib.Omega.{arith}
use Rattle.iff_name.specs.Name.{pick, kind_of}
use Rattle.iff_name.specs.declared.Kind.{Kind}
use Rattle.iff_chunk.specs.Chunks.{bytes, Chunks, none, leaf, group, before, word}
use Rattle.iff_rules.specs.Rules.{is_group}
use Rattle.iff_walk.specs.Order.{join, later, following}
use Rattle.iff_walk.specs.Coming.{Coming, Sound}
use Rattle.iff_walk.specs.laws.Coming.{coming_none, coming_room, coming_later, coming_further, leaf_here, group_here}
use Rattle.iff_name.specs.Codes.{FORM}
use Rattle.ilbm_spec.specs.Names.{is_picture}
use Rattle.ilbm_spec.specs.Contents.{scope_inside, Scope, no_scope, contents_from, contents_of}
use Rattle.ilbm_count.specs.Count.{count_of, form_at, Standing}
use Rattle.std.specs.Prelude.{Ok}

-- the pictures in a row of chunks, at any depth
unfoldable pub forms : Chunks → ℕ
forms none = 0
forms (leaf n d p F) = forms F
forms (group n t G F) = pick (is_picture n t) 1 0 + (forms G + forms F)

one_or_none : {A : Type 0} (b : Bool) (x : A) (rest : List A) → length (pick b (x ∷ []) [] ++ rest) ≡ pick b 1 0 + length rest
one_or_none true x rest = omega arith
one_or_none false x rest = omega arith

contents_forms : (p : ℕ) (scope : Scope) (F : Chunks) → length (contents_from p scope F) ≡ forms F
unfolding contents_from forms
contents_forms p scope none = refl
contents_forms p scope (leaf n d pd F) = contents_forms (p + (8 + length d + length pd)) scope F
contents_forms p scope (group n t G F) =
    one_or_none (is_picture n t) _ _
    ∙ rw (length-append, contents_forms (p + 12) (scope_inside n p G scope) G, contents_forms (p + (12 + length (bytes G))) scope F)

join_forms : (F K : Chunks) → forms (join F K) ≡ forms F + forms K
unfolding forms join
join_forms none K = omega arith
join_forms (leaf n d p F) K = join_forms F K
join_forms (group n t G F) K = omega (arith, join_forms F K)

-- the group name FORM is a group's
form_group : is_group (kind_of FORM) ≡ true
unfolding kind_of
form_group = refl

no_form : (s : List ℕ) (p : ℕ) → is_group (kind_of (word s p)) ≡ false → form_at s p ≡ 0
no_form s p g = rw (ne_eqb (word s p) FORM (λ e. never (sym (rw e at g) ∙ form_group)))
  where
    never : false ≡ true → ⊥
    never e = absurd cc

later_forms : (s : List ℕ) (p e : ℕ) (P : Chunks) → Coming s p e P → p < e → forms P ≡ form_at s p + forms (later P)
unfolding forms later
later_forms s p e P c l = go (is_group (kind_of (word s p))) refl
  where
    go : (b : Bool) → is_group (kind_of (word s p)) ≡ b → forms P ≡ form_at s p + forms (later P)
    go true g = let a = group_here s p e P c l g in rw a.is (omega (arith, join_forms a.members a.rest))
    go false g = let a = leaf_here s p e P c l g in rw (a.is, no_form s p g) (omega arith)

-- the loop: those counted so far and those to come
pub record Counting (s : List ℕ) (e p n v : ℕ) : Type 0 where
  pub coming : Chunks
  pub stand : Coming s p e coming
  pub sum : n + forms coming ≡ v

at_most_one : (s : List ℕ) (p : ℕ) → form_at s p ≤ 1
at_most_one s p = go (is_picture (word s p) (word s (p + 8)))
  where
    go : (b : Bool) → pick b 1 0 ≤ 1
    go true = omega arith
    go false = omega arith

module _ (s : List ℕ) (e p n v k q : ℕ) (w : Counting s e p n v) (l : p < e) (a : k ≡ form_at s p) (b : q ≡ following s p) where
  pub counting_more : Counting s e q (n + k) v
  counting_more =
      record {
        coming = later w.coming;
        stand = rw b (coming_later s p e w.coming w.stand l);
        sum = omega (arith, later_forms s p e w.coming w.stand l, w.sum);
      }

  further : (p + 8 ≤ q) × (q ≤ e)
  further = rw b (coming_further s p e w.coming w.stand l)

  pub counting_less : e - q < e - p
  counting_less = let f = further in omega arith

  pub counting_below : n ≤ p → n + k ≤ q
  counting_below h = let f = further in omega (arith, at_most_one s p)

pub counting_fits : (s : List ℕ) (e p n v k : ℕ) → Counting s e p n v → p < e → k ≡ form_at s p → n ≤ p → Fits w64 (n + k)
counting_fits s e p n v k w l a h = omega (arith, at_most_one s p, w.stand.room, w.stand.short)

pub counting_start : (s : List ℕ) (e : ℕ) (f : Sound s e) → Counting s e 0 0 (length (contents_of f.chunk))
counting_start s e f =
    record { coming = before f.chunk none; stand = f.start; sum = omega (arith, contents_forms 0 no_scope (before f.chunk none)) }

pub counting_end : (s : List ℕ) (e p n : ℕ) (f : Sound s e) → e ≤ p → Counting s e p n (length (contents_of f.chunk)) →
    Ok n ≡ count_of s
unfolding forms
counting_end s e p n f l w =
    let z : n + forms none ≡ length (contents_of f.chunk) = rw (coming_none s p e w.coming w.stand l) at w.sum in
    let i : n ≡ length (contents_of f.chunk) = omega arith in
    rw f.read (ap Ok i)

-- what is read at p lies inside the file
module _ (s : List ℕ) (p e : ℕ) (t : Standing s p e) (l : p < e) where
  pub header_room : p + 4 ≤ length s
  header_room = omega (arith, coming_room s p e t.0 t.1 l)

  pub size_room : p + 4 + 4 ≤ length s
  size_room = omega (arith, coming_room s p e t.0 t.1 l)

  group_inside : is_group (kind_of (word s p)) ≡ true → p + 12 ≤ length s
  group_inside g =
      let a = group_here s p e t.0 t.1 l g in
      omega (arith, a.inside.ends, a.inside.room)

  pub type_room : (n : ℕ) (k : Kind) (b : Bool) → n ≡ word s p → k ≡ kind_of n → b ≡ is_group k → b ≡ true → p + 8 + 4 ≤ length s
  type_room n k b i j y g = omega (arith, group_inside (rw (← i, ← j, ← y) g))

module _ (s : List ℕ) (p n : ℕ) (i : n ≡ word s p) where
  pub form_none : (k : Kind) (b : Bool) → k ≡ kind_of n → b ≡ is_group k → b ≡ false → 0 ≡ form_at s p
  form_none k b j y g = sym (no_form s p (rw (← i, ← j, ← y) g))

-- the same, with the file that is counted
pub record Tally (s : List ℕ) (e p n : ℕ) : Type 0 where
  pub file : Sound s e
  pub counting : Counting s e p n (length (contents_of file.chunk))

module _ (s : List ℕ) (e : ℕ) where
  pub tally_start : Sound s e → Tally s e 0 0
  tally_start f = record { file = f; counting = counting_start s e f }

  module _ (p n : ℕ) (w : Tally s e p n) where
    pub tally_standing : Standing s p e
    tally_standing = (w.counting.coming, w.counting.stand)

    pub tally_end : e ≤ p → Ok n ≡ count_of s
    tally_end l = counting_end s e p n w.file l w.counting

    module _ (k : ℕ) (l : p < e) (a : k ≡ form_at s p) where
      pub tally_fits : n ≤ p → Fits w64 (n + k)
      tally_fits h = counting_fits s e p n _ k w.counting l a h

      module _ (q : ℕ) (b : q ≡ following s p) where
        pub tally_more : Tally s e q (n + k)
        tally_more = record { file = w.file; counting = counting_more s e p n _ k q w.counting l a b }

        pub tally_less : e - q < e - p
        tally_less = counting_less s e p n _ k q w.counting l a b

        pub tally_below : n ≤ p → n + k ≤ q
        tally_below h = counting_below s e p n _ k q w.counting l a b h

pub ruleset tally_laws = (tally_start, tally_standing, tally_end, tally_fits, tally_more, tally_less, tally_below)
