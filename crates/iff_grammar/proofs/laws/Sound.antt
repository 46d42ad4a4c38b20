-- What reading finds may stand there and is what the bytes are: by induction on the levels and, within a group, on the fuel. What is
-- said of a chunk is said with whatever chunks stand after it, so the chunks of a row join without further laws.
use Rattle.std.specs.Prelude.{ℕ, zero, suc, ◌+◌, ◌-◌, ◌%◌, ◌≤◌, ◌≡◌, refl, Bool, true, false, not, List, [], ◌++◌, ltb, length}
use Rattle.std.proofs.Common.{sym, ap, ap₂, ◌∙◌, subst₂, append_assoc, arith, ltb-false}
use Rattle.std.proofs.Math.Seq.{slice, slice_empty, length-slice}
use Rattle.iff_name.specs.Name.{pick, kind_of}
use Rattle.iff_name.specs.declared.Kind.{Kind}
use Rattle.iff_rules.specs.declared.Position.{Position}
use Rattle.iff_header.specs.declared.Header.{Header}
use Rattle.iff_header.specs.declared.Header.TheVariants.{Leaf, Group}
use Rattle.iff_chunk.specs.Chunks.{Chunks, none, Chunk, a_leaf, a_group, before, put_word, bytes, word, next_at}
use Rattle.iff_rules.specs.Rules.{inside, after}
use Rattle.iff_header.specs.Checks.{header_of}
use Rattle.iff_tree.specs.Judge.{Found, found, refused, and_then, run, by_header, chunk_at, members_of}
use Rattle.iff_grammar.specs.Grammar.{seen_after, Members, height}
use Rattle.iff_grammar.specs.Words.{Bytes}
use Rattle.iff_grammar.proofs.laws.Words.{slice_join, slice_word}
use Rattle.iff_grammar.proofs.laws.Read.{even_bytes}
use Rattle.iff_grammar.proofs.laws.Names.{members_regular, after_leaf, seen_leaf}
use Rattle.iff_grammar.proofs.laws.Props.{Seen, seen_start, seen_step}
use Rattle.iff_grammar.proofs.laws.Headers.{Passed, header_sound, new_second}
use Rattle.iff_refusal.specs.declared.Reason.TheVariants.{TooDeep}
use Rattle.iff_refusal.specs.declared.Reason.{Reason}
use Rattle.std.specs.Prelude.{Ok, Err, Result}

-- the chunk found at p fits there, whatever may stand after it
abbrev pub GoodChunk : ℕ → Position → List ℕ → List ℕ → ℕ → ℕ → Found Chunk → Type 0
GoodChunk levels w seen s p e (found c) =
    (next_at s p ≤ e)
    × ((F : Chunks) → Members (after w (kind_of (word s p))) (seen_after (kind_of (word s p)) (word s (p + 8)) seen) F → Members w seen (before c F))
    × ((F : Chunks) → height F ≤ levels → height (before c F) ≤ levels)
    × ((F : Chunks) → bytes (before c F) ≡ slice p (next_at s p) s ++ bytes F)
GoodChunk levels w seen s p e (refused k q) = Unit {0}

-- the chunks found from p to e may stand there and are those bytes
abbrev pub GoodRun : ℕ → Position → List ℕ → List ℕ → ℕ → ℕ → Found Chunks → Type 0
GoodRun levels w seen s p e (found F) = Members w seen F × (height F ≤ levels) × (slice p e s ≡ bytes F)
GoodRun levels w seen s p e (refused k q) = Unit {0}

empty_run : (levels : ℕ) (w : Position) (seen s : List ℕ) (p e : ℕ) → p ≡ e → GoodRun levels w seen s p e (found none)
unfolding bytes
empty_run levels w seen s p e h = (tt, omega arith, ap (λ (k : ℕ). slice p k s) (sym h) ∙ slice_empty p s)

run_sound : (chunk : Position → ℕ → ℕ → Found Chunk) (levels : ℕ) (s : List ℕ) (from : ℕ)
    → ((w : Position) (seen : List ℕ) (p e : ℕ) → e ≤ length s → Seen s from p seen → GoodChunk levels w seen s p e (chunk w p e))
    → (fuel : ℕ) (w : Position) (seen : List ℕ) (p e : ℕ) → p ≤ e → e ≤ length s → e - p ≤ fuel → Seen s from p seen
    → GoodRun levels w seen s p e (run chunk s fuel w p e)
unfolding run
run_sound chunk levels s from good zero w seen p e a b c h = empty_run levels w seen s p e (omega arith)
run_sound chunk levels s from good (suc fuel) w seen p e a b c h =
    let w' : Position = after w (kind_of (word s p)) in
    let seen' : List ℕ = seen_after (kind_of (word s p)) (word s (p + 8)) seen in
    let on = seen_step s from p seen h in
    go (ltb p e) refl (chunk w p e) (good w seen p e b h) (run chunk s fuel w' (next_at s p) e)
    (λ l. run_sound chunk levels s from good fuel w' seen' (next_at s p) e l b (omega arith) on)
  where
    go :
        (l : Bool) → ltb p e ≡ l → (r : Found Chunk) → GoodChunk levels w seen s p e r → (rest : Found Chunks) →
        (next_at s p ≤ e → GoodRun levels (after w (kind_of (word s p))) (seen_after (kind_of (word s p)) (word s (p + 8)) seen) s (next_at s p) e rest) →
        GoodRun levels w seen s p e (pick l (and_then r (λ c. and_then rest (λ F. found (before c F)))) (found none))
    go true t (found c) g (found F) k =
        let f = k g.0 in
        let cut = slice_join s p (next_at s p) e (omega arith) g.0 in
        (g.1 F f.0, g.2 F f.1, cut ∙ ap (λ (l : List ℕ). slice p (next_at s p) s ++ l) f.2 ∙ sym (g.3 F))
    go true t (found c) g (refused j q) k = tt
    go true t (refused j q) g rest k = tt
    go false t r g rest k =
        let l = ltb-false p e t in
        empty_run levels w seen s p e (omega arith)

-- name and size, as bytes
head_bytes :
    (s : List ℕ) (p q : ℕ) → Bytes s → p + 8 ≤ q → q ≤ length s → slice p q s ≡ put_word (word s p) (put_word (word s (p + 4)) (slice (p + 8) q s))
head_bytes s p q b h k =
    let e : p + 4 + 4 ≡ p + 8 = omega arith in
    let size = slice_word s (p + 4) q b (omega arith) k ∙ ap (λ (m : ℕ). put_word (word s (p + 4)) (slice m q s)) e in
    slice_word s p q b (omega arith) k ∙ ap (λ (l : List ℕ). put_word (word s p) l) size

leaf_bytes :
    (s : List ℕ) (p z : ℕ) → Bytes s → word s (p + 4) ≡ z → p + 8 + z + z % 2 ≤ length s →
    slice p (p + 8 + z + z % 2) s ≡ put_word (word s p) (put_word z (slice (p + 8) (p + 8 + z) s ++ slice (p + 8 + z) (p + 8 + z + z % 2) s))
leaf_bytes s p z b e h =
    let q : ℕ = p + 8 + z + z % 2 in
    let cut = slice_join s (p + 8) (p + 8 + z) q (omega arith) (omega arith) in
    head_bytes s p q b (omega arith) h ∙ ap₂ (λ (k : ℕ) (l : List ℕ). put_word (word s p) (put_word k l)) e cut

group_bytes :
    (s : List ℕ) (p q : ℕ) (I : List ℕ) → Bytes s → p + 12 ≤ q → q ≤ length s → slice (p + 12) q s ≡ I →
    slice p q s ≡ put_word (word s p) (put_word (word s (p + 4)) (put_word (word s (p + 8)) I))
group_bytes s p q I b h k i =
    let e : p + 8 + 4 ≡ p + 12 = omega arith in
    let type = slice_word s (p + 8) q b (omega arith) k ∙ ap (λ (m : ℕ). put_word (word s (p + 8)) (slice m q s)) e in
    let body = type ∙ ap (λ (l : List ℕ). put_word (word s (p + 8)) l) i in
    head_bytes s p q b (omega arith) k ∙ ap (λ (l : List ℕ). put_word (word s p) (put_word (word s (p + 4)) l)) body

leaf_sound :
    (levels : ℕ) (w : Position) (seen s : List ℕ) (from p e z : ℕ) → Bytes s → e ≤ length s → Passed levels s from w p e (Ok (Leaf z)) →
    GoodChunk levels w seen s p e (found (a_leaf (word s p) (slice (p + 8) (p + 8 + z) s) (slice (p + 8 + z) (p + 8 + z + z % 2) s)))
unfolding bytes
leaf_sound levels w seen s from p e z b le f =
    let d : List ℕ = slice (p + 8) (p + 8 + z) s in
    let pd : List ℕ = slice (p + 8 + z) (p + 8 + z + z % 2) s in
    let k : Kind = kind_of (word s p) in
    let size : z ≡ word s (p + 4) = f.0 in
    let next : next_at s p ≡ p + 8 + z + z % 2 = rw size in
    let within : next_at s p ≤ e = f.1 in
    let ld : length d ≡ z = length-slice (p + 8) (p + 8 + z) s (omega arith) ∙ omega arith in
    let lp : length pd ≡ z % 2 = length-slice (p + 8 + z) (p + 8 + z + z % 2) s (omega arith) ∙ omega arith in
    let whole = ap (λ (q : ℕ). slice p q s) next ∙ leaf_bytes s p z b (sym size) (omega arith) in
    let pos : after w k ≡ w = after_leaf w k f.3 in
    let same : seen_after k (word s (p + 8)) seen ≡ seen = seen_leaf k (word s (p + 8)) seen f.3 in (
      within,
      λ F m. (f.2, f.3, f.4, lp ∙ ap (λ (i : ℕ). i % 2) (sym ld), subst₂ (λ (v : Position) (l : List ℕ). Members v l F) pos same m),
      λ F h. h,
      λ F. ap₂ (λ (i : ℕ) (l : List ℕ). put_word (word s p) (put_word i l)) ld (sym (append_assoc d pd (bytes F)))
          ∙ ap (λ (l : List ℕ). l ++ bytes F) (sym whole),
    )

group_sound :
    (levels : ℕ) (w : Position) (seen s : List ℕ) (from p e : ℕ) (k : Kind) (z : ℕ) → Bytes s → e ≤ length s → Seen s from p seen →
    Passed (suc levels) s from w p e (Ok (Group k z)) → (r : Found Chunks) → GoodRun levels (inside k) [] s (p + 12) (p + 8 + z) r →
    GoodChunk (suc levels) w seen s p e (and_then r (λ G. found (a_group (word s p) (word s (p + 8)) G)))
unfolding bytes
group_sound levels w seen s from p e k z b le h f (refused j q) g = tt
group_sound levels w seen s from p e k z b le h f (found G) g =
    let size : z ≡ word s (p + 4) = f.0 in
    let within : next_at s p ≤ e = f.1 in
    let four : 4 ≤ word s (p + 4) = f.7 in
    let deep : height G ≤ levels = g.1 in
    let len : length (bytes G) ≡ p + 8 + z - (p + 12) = ap length (sym g.2) ∙ length-slice (p + 12) (p + 8 + z) s (omega arith) in
    let even : length (bytes G) % 2 ≡ 0 = even_bytes G (members_regular (inside k) [] G g.0) in
    let next : next_at s p ≡ p + 8 + z = omega arith in
    let same : 4 + length (bytes G) ≡ word s (p + 4) = omega arith in
    let whole = ap (λ (q : ℕ). slice p q s) next ∙ group_bytes s p (p + 8 + z) (bytes G) b (omega arith) (omega arith) g.2 in
    let new = new_second (kind_of (word s p)) s from p (word s (p + 8)) seen h ∙ ap not f.6 in (
      within,
      λ F m. (f.3, f.4, f.5, new, rw (← f.2) g.0, m),
      λ F i. omega arith,
      λ F. ap (λ (i : ℕ). put_word (word s p) (put_word i (put_word (word s (p + 8)) (bytes G ++ bytes F)))) same
          ∙ ap (λ (l : List ℕ). l ++ bytes F) (sym whole),
    )

pub chunk_sound :
    (levels : ℕ) (s : List ℕ) → Bytes s → (from : ℕ) (w : Position) (seen : List ℕ) (p e : ℕ) → e ≤ length s → Seen s from p seen →
    GoodChunk levels w seen s p e (chunk_at levels s from w p e)
unfolding chunk_at
chunk_sound zero s b from w seen p e le h = go (header_of 0 s from w p e) (header_sound 0 s from w p e)
  where
    go : (x : Result Header Reason) → Passed 0 s from w p e x → GoodChunk 0 w seen s p e (by_header x s p (λ k z. refused TooDeep p))
    go (Err k) f = tt
    go (Ok (Leaf z)) f = leaf_sound 0 w seen s from p e z b le f
    go (Ok (Group k z)) f = tt
chunk_sound (suc levels) s b from w seen p e le h =
    go (λ v l q r i g. chunk_sound levels s b (p + 12) v l q r i g) (header_of (suc levels) s from w p e) (header_sound (suc levels) s from w p e)
  where
    go :
        ((v : Position) (l : List ℕ) (q r : ℕ) → r ≤ length s → Seen s (p + 12) q l → GoodChunk levels v l s q r (chunk_at levels s (p + 12) v q r)) →
        (x : Result Header Reason) → Passed (suc levels) s from w p e x →
        GoodChunk (suc levels) w seen s p e (by_header x s p (λ k z. members_of levels s (p + 12) (inside k) (p + 12) (p + 8 + z)))
    go good (Err k) f = tt
    go good (Ok (Leaf z)) f = leaf_sound (suc levels) w seen s from p e z b le f
    go good (Ok (Group k z)) f =
        let size : z ≡ word s (p + 4) = f.0 in
        let within : next_at s p ≤ e = f.1 in
        let four : 4 ≤ word s (p + 4) = f.7 in
        let q : ℕ = p + 12 in
        let r : ℕ = p + 8 + z in
        let all = run_sound (chunk_at levels s q) levels s q good (r - q) (inside k) [] q r (omega arith) (omega arith) (omega arith) (seen_start s q) in
        group_sound levels w seen s from p e k z b le h f (members_of levels s q (inside k) q r) all
