-- Names put over headers: the file keeps its length, the bytes before the lowest of these headers stay, and there a version name
-- stands in the end, since no two headers overlap.
use Rattle.std.specs.Prelude.{ℕ, ◌+◌, ◌/◌, ◌%◌, ◌≤◌, ◌<◌, ◌≡◌, Bool, true, false, leb, eqb, length, get_or, take, drop}
use Rattle.std.proofs.Math.Path.{refl}
use Rattle.std.proofs.Common.{sym, ap, ◌∙◌, subst, arith, length-append, length-drop, length-take-le, take-take, drop_at, get_or-take, leb-true, leb-false, le-leb, eqb-true}
use mathlib.Core.List.{List, [], ◌∷◌, ◌++◌}
use Rattle.std.proofs.lemmas.List.{take-append-le}
use Rattle.std.proofs.lemmas.Bool.{eqb-false}
use Rattle.iff_name.specs.Name.{both, either, pick, well_formed, version_name}
use Rattle.iff_chunk.specs.Chunks.{Chunks, put_word, word}
use Rattle.iff_grammar.specs.Grammar.{member}
use Rattle.iff_grammar.proofs.laws.Words.{word_at}
use Rattle.iff_grammar.proofs.laws.Names.{both_true, well_formed_word}
use Rattle.theorem_additions.specs.Additions.{Renaming, renamed, lowest}
use Rattle.theorem_additions.specs.Statement.{OverAdded}
use Rattle.theorem_additions.proofs.laws.Places.{either_cases, HeaderAt, header_apart}

-- a version name is well formed
pub version_formed : (n : ℕ) → version_name n ≡ true → well_formed n ≡ true
unfolding version_name well_formed
version_formed n h =
    let parts = both_true (either (eqb (n / 256) 0x464F52) (either (eqb (n / 256) 0x4C4953) (eqb (n / 256) 0x434154))) (both (leb 49 (n % 256)) (leb (n % 256) 57)) h in
    let digit = both_true (leb 49 (n % 256)) (leb (n % 256) 57) parts.1 in
    let low = leb-true 49 (n % 256) digit.0 in
    let high = leb-true (n % 256) 57 digit.1 in
    let least : leb 32 (n % 256) ≡ true = le-leb 32 (n % 256) (omega arith) in
    let most : leb (n % 256) 126 ≡ true = le-leb (n % 256) 126 (omega arith) in
    either_cases (eqb (n / 256) 0x464F52) _ parts.0
    (λ e.
    let x = eqb-true (n / 256) 0x464F52 e in
    let x₀ : n / 16777216 ≡ 0x46 = omega arith in
    let x₁ : n / 65536 % 256 ≡ 0x4F = omega arith in
    let x₂ : n / 256 % 256 ≡ 0x52 = omega arith in
    rw (x₀, x₁, x₂, least, most))
    (λ r. either_cases (eqb (n / 256) 0x4C4953) _ r
    (λ e.
    let x = eqb-true (n / 256) 0x4C4953 e in
    let x₀ : n / 16777216 ≡ 0x4C = omega arith in
    let x₁ : n / 65536 % 256 ≡ 0x49 = omega arith in
    let x₂ : n / 256 % 256 ≡ 0x53 = omega arith in
    rw (x₀, x₁, x₂, least, most))
    (λ e.
    let x = eqb-true (n / 256) 0x434154 e in
    let x₀ : n / 16777216 ≡ 0x43 = omega arith in
    let x₁ : n / 65536 % 256 ≡ 0x41 = omega arith in
    let x₂ : n / 256 % 256 ≡ 0x54 = omega arith in
    rw (x₀, x₁, x₂, least, most)))

-- the words before a place up to which two files agree
pub same_word : (s s' : List ℕ) (m j : ℕ) → take m s' ≡ take m s → j + 4 ≤ m → word s' j ≡ word s j
unfolding word
same_word s s' m j e h =
    let one : (i : ℕ) → i < m → get_or s' i 0 ≡ get_or s i 0 =
    λ i l. sym (get_or-take m s' i 0 l) ∙ ap (λ (x : List ℕ). get_or x i 0) e ∙ get_or-take m s i 0 l in
    rw (one j (omega arith), one (j + 1) (omega arith), one (j + 2) (omega arith), one (j + 3) (omega arith))

pub same_front : (s s' : List ℕ) (m j : ℕ) → take m s' ≡ take m s → j ≤ m → take j s' ≡ take j s
same_front s s' m j e h = sym (take-take j m s' h) ∙ ap (λ (x : List ℕ). take j x) e ∙ take-take j m s h

-- a word put over four bytes
abbrev put : ℕ → ℕ → List ℕ → List ℕ
put p n f = take p f ++ put_word n (drop (p + 4) f)

length_put : (p n : ℕ) (f : List ℕ) → p + 4 ≤ length f → length (put p n f) ≡ length f
length_put p n f h =
    let a = length-take-le p f (omega arith) in
    let b = length-drop (p + 4) f in
    length-append (take p f) (put_word n (drop (p + 4) f)) ∙ omega arith

take_put : (p n : ℕ) (f : List ℕ) → p + 4 ≤ length f → take p (put p n f) ≡ take p f
take_put p n f h =
    let a = length-take-le p f (omega arith) in
    take-append-le p (take p f) _ (omega arith) ∙ take-take p p f (omega arith)

word_put : (p n : ℕ) (f : List ℕ) → p + 4 ≤ length f → n < 4294967296 → word (put p n f) p ≡ n
word_put p n f h l = word_at (put p n f) p n (drop (p + 4) f) l (drop_at (take p f) _ p (length-take-le p f (omega arith)))

-- the file f with version names over headers of F, the lowest of which stands at m
pub record Marked (F : Chunks) (f g : List ℕ) (m : ℕ) : Type 0 where
  pub long : length g ≡ length f
  pub front : take m g ≡ take m f
  pub version : version_name (word g m) ≡ true
  pub header : HeaderAt m 12 F

module _ (F : Chunks) (f : List ℕ) (fit : (m : ℕ) → HeaderAt m 12 F → m + 4 ≤ length f) where
  mark_new : (g : List ℕ) (r : Renaming) → version_name r.name ≡ true → HeaderAt r.place 12 F → length g ≡ length f →
      take r.place g ≡ take r.place f
      → Marked F f (put r.place r.name g) r.place
  mark_new g r v h l e =
      let fits = fit r.place h in
      record {
        long = length_put r.place r.name g (omega arith) ∙ l;
        front = take_put r.place r.name g (omega arith) ∙ e;
        version = rw (word_put r.place r.name g (omega arith) (well_formed_word r.name (version_formed r.name v))) v;
        header = h;
      }

  mark_more : (g : List ℕ) (m : ℕ) (r : Renaming) → version_name r.name ≡ true → HeaderAt r.place 12 F → Marked F f g m
      → Marked F f (put r.place r.name g) (pick (leb m r.place) m r.place)
  mark_more g m r v h k = go (leb m r.place) refl
    where
      other : m < r.place → Marked F f (put r.place r.name g) m
      other l =
          let fits = fit r.place h in
          let apart = header_apart F m r.place 12 k.header h l in
          let long = k.long in
          let front = take_put r.place r.name g (omega arith) in
          let near = same_word g (put r.place r.name g) r.place m front (omega arith) in
          record {
            long = length_put r.place r.name g (omega arith) ∙ long;
            front = same_front g (put r.place r.name g) r.place m front (omega arith) ∙ k.front;
            version = rw near k.version;
            header = k.header;
          }

      go : (b : Bool) → leb m r.place ≡ b → Marked F f (put r.place r.name g) (pick b m r.place)
      go true e = at (eqb m r.place) refl
        where
          at : (c : Bool) → eqb m r.place ≡ c → Marked F f (put r.place r.name g) m
          at true x =
              let same = eqb-true m r.place x in
              subst (λ (q : ℕ). Marked F f (put r.place r.name g) q) (sym same)
              (mark_new g r v h k.long (subst (λ (q : ℕ). take q g ≡ take q f) same k.front))
          at false x =
              let not_same = eqb-false m r.place x in
              let less = leb-true m r.place e in
              other (omega arith)
      go false e =
          let less = leb-false m r.place e in
          mark_new g r v h k.long (same_front f g m r.place k.front (omega arith))

  module _ (hs : List ℕ) (all : (m : ℕ) → member m hs ≡ true → HeaderAt m 12 F) where
    mark_rest : (rs : List Renaming) (g : List ℕ) (m : ℕ) → OverAdded rs hs → Marked F f g m → Marked F f (renamed rs g) (lowest m rs)
    unfolding renamed lowest
    mark_rest [] g m o k = k
    mark_rest (r ∷ rs) g m o k = mark_rest rs (put r.place r.name g) _ o.2 (mark_more g m r o.0 (all r.place o.1) k)

    pub mark_all : (r : Renaming) (rs : List Renaming) → OverAdded (r ∷ rs) hs → Marked F f (renamed (r ∷ rs) f) (lowest r.place rs)
    unfolding renamed
    mark_all r rs o = mark_rest rs (put r.place r.name f) r.place o.2 (mark_new f r o.0 (all r.place o.1) refl refl)
