-- An addition leaves chunks that may stand in a row such chunks. What follows it keeps its conditions: a leaf changes nothing for it;
-- after a FORM in a LIST no PROP follows; after a PROP none of its type follows.
use Rattle.std.specs.Prelude.{ℕ, ◌≡◌, refl, Bool, true, false, not, List, [], ◌∷◌, eqb}
use Rattle.std.proofs.Common.{ap, arith, eq-eqb, eqb-true}
use Rattle.std.proofs.lemmas.Bool.{not-true}
use Rattle.iff_name.specs.Name.{either, kind_of}
use Rattle.iff_name.specs.declared.Kind.{Kind}
use Rattle.iff_name.specs.declared.Kind.TheVariants.{FORM, LIST, CAT, PROP, FILLER, LOCAL}
use Rattle.iff_rules.specs.declared.Position.{Position}
use Rattle.iff_rules.specs.declared.Position.TheVariants.{Outermost, InForm, InProp, InList, InCat}
use Rattle.iff_chunk.specs.Chunks.{Chunks, none, leaf, group, Chunk, a_leaf, a_group}
use Rattle.iff_rules.specs.Rules.{is_group, allowed, in_cat, in_list, inside, after, group_type}
use Rattle.iff_grammar.specs.Grammar.{member, new_prop, seen_after, Members}
use Rattle.ilbm_spec.proofs.laws.Ignored.{either_false}
use Rattle.theorem_additions.specs.Additions.{Boundary, here, past, into, prop_types, LocalMay, FillerMay, LeafMay, FormMay, PropMay}
use Rattle.theorem_additions.specs.Additions.{GroupMay, May, insert}

pub no : {A : Type 0} → ◌≡◌ {A = ℕ} 0 1 → A
no e = absurd (omega arith)

pub either_right : (a b : Bool) → b ≡ true → either a b ≡ true
either_right true b e = refl
either_right false b e = e

-- what `Members` asks of a group of kind k and of what follows it
abbrev pub GroupRow : Kind → Position → List ℕ → ℕ → Chunks → Chunks → Type 0
GroupRow k w seen t G F =
    (is_group k ≡ true) × (allowed w k ≡ true) × (group_type k t ≡ true) × (new_prop k t seen ≡ true) ×
    Members (inside k) [] G × Members (after w k) (seen_after k t seen) F

local_may : (w : Position) (n : ℕ) → LocalMay w n → allowed w LOCAL ≡ true
local_may Outermost n h = absurd h
local_may InForm n h = refl
local_may InProp n h = refl
local_may InList n h = absurd h
local_may InCat n h = absurd h

filler_may : (w : Position) → FillerMay w → allowed w FILLER ≡ true
filler_may Outermost h = absurd h
filler_may InForm h = refl
filler_may InProp h = refl
filler_may InList h = refl
filler_may InCat h = refl

leaf_may : (k : Kind) (w : Position) (n : ℕ) → LeafMay k w n → (is_group k ≡ false) × (allowed w k ≡ true)
leaf_may FORM w n h = absurd h
leaf_may LIST w n h = absurd h
leaf_may CAT w n h = absurd h
leaf_may PROP w n h = absurd h
leaf_may FILLER w n h = (refl, filler_may w h)
leaf_may LOCAL w n h = (refl, local_may w n h)

leaf_in_cat : (k : Kind) → is_group k ≡ false → in_list k ≡ true → in_cat k ≡ true
leaf_in_cat FORM g a = refl
leaf_in_cat LIST g a = refl
leaf_in_cat CAT g a = refl
leaf_in_cat PROP g a = no cc
leaf_in_cat FILLER g a = refl
leaf_in_cat LOCAL g a = a

-- where no PROP is among them, a LIST's members may as well stand after a FORM
list_then_cat : (F : Chunks) (seen : List ℕ) → prop_types F ≡ [] → Members InList seen F → Members InCat seen F
unfolding prop_types
list_then_cat none seen e m = tt
list_then_cat (leaf n d p F) seen e m = (m.0, m.1, leaf_in_cat (kind_of n) m.1 m.2, m.3, list_then_cat F seen e m.4)
list_then_cat (group n t G F) seen e m = go (kind_of n) e m
  where
    go : (k : Kind) → seen_after k t (prop_types F) ≡ [] → GroupRow k InList seen t G F → GroupRow k InCat seen t G F
    go FORM x r = r
    go LIST x r = r
    go CAT x r = r
    go PROP x r = no cc
    go FILLER x r = no (let z = r.0 in cc)
    go LOCAL x r = no (let z = r.0 in cc)

-- more types may have been seen, if no PROP among the chunks has one of them
more_seen : (F : Chunks) (w : Position) (old new : List ℕ)
    → ((u : ℕ) → member u (prop_types F) ≡ true → member u old ≡ false → member u new ≡ false)
    → Members w old F → Members w new F
unfolding prop_types
more_seen none w old new h m = tt
more_seen (leaf n d p F) w old new h m = (m.0, m.1, m.2, m.3, more_seen F w old new h m.4)
more_seen (group n t G F) w old new h m = go (kind_of n) h m (λ v l r i j. more_seen F v l r i j)
  where
    go : (k : Kind) → ((u : ℕ) → member u (seen_after k t (prop_types F)) ≡ true → member u old ≡ false → member u new ≡ false)
        → GroupRow k w old t G F
        → ((v : Position) (l r : List ℕ) → ((u : ℕ) → member u (prop_types F) ≡ true → member u l ≡ false → member u r ≡ false) →
        Members v l F → Members v r F)
        → GroupRow k w new t G F
    go FORM i r on = (r.0, r.1, r.2, refl, r.4, on (after w FORM) old new i r.5)
    go LIST i r on = (r.0, r.1, r.2, refl, r.4, on (after w LIST) old new i r.5)
    go CAT i r on = (r.0, r.1, r.2, refl, r.4, on (after w CAT) old new i r.5)
    go PROP i r on =
        let first : either (eqb t t) (member t (prop_types F)) ≡ true = rw (eq-eqb t t refl) in (
          r.0,
          r.1,
          r.2,
          ap not (i t first (not-true (member t old) r.3)),
          r.4,
          on (after w PROP) (t ∷ old) (t ∷ new)
              (λ u a b.
              let e = either_false (eqb t u) (member u old) b in
              let f = i u (either_right (eqb t u) (member u (prop_types F)) a) e.1 in
              rw (e.0, f))
              r.5,
        )
    go FILLER i r on = (r.0, r.1, r.2, refl, r.4, on (after w FILLER) old new i r.5)
    go LOCAL i r on = (r.0, r.1, r.2, refl, r.4, on (after w LOCAL) old new i r.5)

form_may : (w : Position) (seen : List ℕ) (F : Chunks) → FormMay w F → Members w seen F → (allowed w FORM ≡ true) ×
    Members (after w FORM) seen F
form_may Outermost seen F h m = absurd h
form_may InForm seen F h m = (refl, m)
form_may InProp seen F h m = absurd h
form_may InList seen F h m = (refl, list_then_cat F seen h m)
form_may InCat seen F h m = (refl, m)

prop_may : (w : Position) (seen : List ℕ) (t : ℕ) (F : Chunks) → PropMay w seen t F → Members w seen F
    → (allowed w PROP ≡ true) × (new_prop PROP t seen ≡ true) × Members (after w PROP) (t ∷ seen) F
prop_may Outermost seen t F h m = absurd h
prop_may InForm seen t F h m = absurd h
prop_may InProp seen t F h m = absurd h
prop_may InList seen t F h m = (refl, ap not h.1, more_seen F InList seen (t ∷ seen) (λ u a b. go u a b (eqb t u) refl) m)
  where
    go : (u : ℕ) → member u (prop_types F) ≡ true → member u seen ≡ false → (b : Bool) → eqb t u ≡ b → either b (member u seen) ≡ false
    go u a b true e =
        let same = eqb-true t u e in
        let other : member t (prop_types F) ≡ true = rw same a in
        let none = h.2 in
        no cc
    go u a b false e = b
prop_may InCat seen t F h m = absurd h

new_group : (k : Kind) (w : Position) (seen : List ℕ) (t : ℕ) (G F : Chunks) → GroupMay k w seen t G F → group_type k t ≡ true
    → Members (inside k) [] G → Members w seen F → GroupRow k w seen t G F
new_group FORM w seen t G F h g i m = let a = form_may w seen F h.0 m in (refl, a.0, g, refl, i, a.1)
new_group LIST w seen t G F h g i m = absurd h
new_group CAT w seen t G F h g i m = absurd h
new_group PROP w seen t G F h g i m = let a = prop_may w seen t F h m in (refl, a.0, g, a.1, i, a.2)
new_group FILLER w seen t G F h g i m = absurd h
new_group LOCAL w seen t G F h g i m = absurd h

pub insert_members : (i : Boundary) (X : Chunk) (F : Chunks) (w : Position) (seen : List ℕ) → May w seen i X F → Members w seen F →
    Members w seen (insert i X F)
unfolding insert
insert_members here (a_leaf n d p) F w seen h m = let l = leaf_may (kind_of n) w n h.1 in (h.0, l.0, l.1, h.2, m)
insert_members here (a_group n t G) F w seen h m = new_group (kind_of n) w seen t G F h.0 h.1 h.2 m
insert_members (past i) X none w seen h m = absurd h
insert_members (past i) X (leaf n d p F) w seen h m = (m.0, m.1, m.2, m.3, insert_members i X F w seen h m.4)
insert_members (past i) X (group n t G F) w seen h m = (m.0, m.1, m.2, m.3, m.4, insert_members i X F _ _ h m.5)
insert_members (into i) X none w seen h m = absurd h
insert_members (into i) X (leaf n d p F) w seen h m = absurd h
insert_members (into i) X (group n t G F) w seen h m = (m.0, m.1, m.2, m.3, insert_members i X G _ [] h m.4, m.5)
