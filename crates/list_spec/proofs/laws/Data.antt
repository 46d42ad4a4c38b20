-- Where a record says that its chunk's data lies, there it lies: by induction on the chunks, side by side with their records.
use Rattle.std.specs.Prelude.{ℕ, zero, suc, ◌+◌, ◌≤◌, ◌≡◌, refl, Bool, true, false, List, [], ◌∷◌, ◌++◌, length, drop}
use Rattle.std.proofs.Common.{sym, ap, ◌∙◌, subst, arith}
use Rattle.std.proofs.Math.Seq.{slice}
use Rattle.iff_chunk.specs.Chunks.{Chunks, none, leaf, group, Chunk, before, bytes, count}
use Rattle.iff_rules.specs.Rules.{is_group}
use Rattle.iff_tree.specs.Judge.{Found, found, refused, read_file}
use Rattle.iff_grammar.specs.Words.{Bytes}
use Rattle.iff_grammar.specs.Read.{Regular}
use Rattle.iff_grammar.proofs.laws.Read.{leaf_fits, leaf_data, leaf_next, leaf_rest, group_fits, group_members, group_next, group_rest}
use Rattle.iff_grammar.proofs.laws.Names.{members_regular}
use Rattle.iff_grammar.proofs.Accept.{sound}
use Rattle.list_spec.specs.declared.Record.{Record}
use Rattle.list_spec.specs.Records.{records_from, pick_record, record_in, record_of}
use Rattle.list_spec.specs.Contents.{Content, plain, members, contents_from, pick_data, data_in, data_of, extent_at, extent_in, extent_of, part_in, Lies}
use Rattle.list_spec.specs.Tells.{Inside, Tells}
use Rattle.iff_refusal.specs.Numbers.{Answer}
use Rattle.std.specs.Prelude.{Ok, Err}

-- a record is that of a chunk with this content
abbrev Holds : List ℕ → Record → Content → Type 0
Holds s r (plain d) = Inside s r × (is_group r.kind ≡ false) × (slice (r.place + 8) (r.place + 8 + r.size) s ≡ d)
Holds s r members = Inside s r × (is_group r.kind ≡ true)

abbrev HoldAll : List ℕ → List Record → List Content → Type 0
HoldAll s [] [] = Unit {0}
HoldAll s [] (c ∷ cs) = ⊥
HoldAll s (r ∷ rs) [] = ⊥
HoldAll s (r ∷ rs) (c ∷ cs) = Holds s r c × HoldAll s rs cs

hold_append : (s : List ℕ) (rs : List Record) (cs : List Content) (rs' : List Record) (cs' : List Content)
    → HoldAll s rs cs → HoldAll s rs' cs' → HoldAll s (rs ++ rs') (cs ++ cs')
hold_append s [] [] rs' cs' h k = k
hold_append s [] (c ∷ cs) rs' cs' h k = absurd h
hold_append s (r ∷ rs) [] rs' cs' h k = absurd h
hold_append s (r ∷ rs) (c ∷ cs) rs' cs' h k = (h.0, hold_append s rs cs rs' cs' h.1 k)

hold_from : (s : List ℕ) → length s ≤ 16777216 → (F : Chunks) (l n p : ℕ) (R : List ℕ) → Regular F → drop p s ≡ bytes F ++ R
    → HoldAll s (records_from l n p F) (contents_from F)
unfolding records_from contents_from
hold_from s short none l n p R r e = tt
hold_from s short (leaf c d pd F) l n p R r e =
    let fit = leaf_fits s p c d pd F R r short e in
    let rest : drop (p + 8 + length d + length pd) s ≡ bytes F ++ R
    = ap (λ (q : ℕ). drop q s) (sym (leaf_next s p c d pd F R r short e)) ∙ leaf_rest s p c d pd F R r short e in
    (((omega arith, short), r.0, leaf_data s p c d pd F R r short e), hold_from s short F l (n + 1) (p + 8 + length d + length pd) R r.3 rest)
hold_from s short (group c t G F) l n p R r e =
    let fit = group_fits s p c t G F R r short e in
    let rest : drop (p + 12 + length (bytes G)) s ≡ bytes F ++ R
    = ap (λ (q : ℕ). drop q s) (sym (group_next s p c t G F R r short e)) ∙ group_rest s p c t G F R r short e in (
      ((omega arith, short), r.0),
      hold_append s (records_from (l + 1) (n + 1) (p + 12) G) (contents_from G) _ (contents_from F)
          (hold_from s short G (l + 1) (n + 1) (p + 12) (bytes F ++ R) r.3 (group_members s p c t G F R r short e))
          (hold_from s short F l (n + 1 + count G) (p + 12 + length (bytes G)) R r.4 rest),
    )

tells : (s : List ℕ) (rs : List Record) (cs : List Content) → HoldAll s rs cs → (i : ℕ) → Tells s (pick_record rs i) (pick_data cs i)
unfolding pick_record pick_data
tells s [] [] h i = refl
tells s [] (c ∷ cs) h i = absurd h
tells s (r ∷ rs) [] h i = absurd h
tells s (r ∷ rs) (plain d ∷ cs) h zero = (h.0.0, λ x. h.0.2, λ x. let e = h.0.1 in let z : ◌≡◌ {A = ℕ} 0 1 = cc in absurd (omega arith))
tells s (r ∷ rs) (members ∷ cs) h zero = (h.0.0, λ x. let e = h.0.1 in let z : ◌≡◌ {A = ℕ} 0 1 = cc in absurd (omega arith), λ x. refl)
tells s (r ∷ rs) (plain d ∷ cs) h (suc i) = tells s rs cs h.1 i
tells s (r ∷ rs) (members ∷ cs) h (suc i) = tells s rs cs h.1 i

-- Of any number, in any file of bytes.
pub file_tells : (s : List ℕ) → Bytes s → (i : ℕ) → Tells s (record_of s i) (data_of s i)
file_tells s b i = go (read_file s) refl
  where
    go : (f : Found Chunk) → read_file s ≡ f → Tells s (record_in f i) (data_in f i)
    go (found c) e =
        let g = sound s b c e in
        tells s (records_from 1 0 0 (before c none)) (contents_from (before c none))
        (hold_from s g.1.short (before c none) 1 0 0 g.0 (members_regular _ _ (before c none) g.1.tree) g.1.whole) i
    go (refused k p) e = refl

-- The part that the extent names is the chunk's data, and it is the empty part with a refusal.
pub extent_lies : (s : List ℕ) → Bytes s → (i : ℕ) → Lies s (part_in (extent_of s i)).from (part_in (extent_of s i)).to (data_of s i)
extent_lies s c i = go (record_of s i) (file_tells s c i)
  where
    nothing : (d : List ℕ) → d ≡ [] → Lies s 0 0 d
    nothing d e = record { order = omega arith; inside = omega arith; same = sym e }

    at-chunk : (r : Record) (g : Bool) (d : List ℕ) → is_group r.kind ≡ g → Tells s (Ok r) d
        → Lies s (part_in (extent_at g r)).from (part_in (extent_at g r)).to d
    at-chunk r true d x t = nothing d (t.2 x)
    at-chunk r false d x t = record { order = omega arith; inside = t.0.0; same = t.1 x }

    go : (l : Answer Record) → Tells s l (data_of s i) → Lies s (part_in (extent_in l)).from (part_in (extent_in l)).to (data_of s i)
    go (Ok r) t = at-chunk r (is_group r.kind) (data_of s i) refl t
    go (Err r) t = nothing (data_of s i) t

-- the record of a chunk names bytes of the file
pub record_inside : (s : List ℕ) → Bytes s → (i : ℕ) (r : Record) → Ok r ≡ record_of s i → Inside s r
record_inside s b i r e = (subst (λ (l : Answer Record). Tells s l (data_of s i)) (sym e) (file_tells s b i)).0
