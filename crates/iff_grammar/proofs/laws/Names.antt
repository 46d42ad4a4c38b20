-- Names of chunks: each that may stand in a file has four bytes, the name of a group is one of four, and what follows from
-- that for positions and for the types of PROPs.
use Rattle.std.specs.Prelude.{ℕ, ◌<◌, ◌≡◌, refl, Bool, true, false, not, List, [], leb, eqb}
use Rattle.std.proofs.Common.{sym, subst, arith, leb-true, eqb-true}
use Rattle.std.proofs.lemmas.Bool.{not-true}
use Rattle.iff_name.specs.Codes.{JJJJ}
use Rattle.iff_name.specs.Name.{both, either, pick, printable, each_byte, byte0, byte1, well_formed, version_name, type_name, kind_of}
use Rattle.iff_name.specs.declared.Kind.{Kind}
use Rattle.iff_name.specs.declared.Kind.TheVariants.{FORM, LIST, CAT, PROP, FILLER, LOCAL}
use Rattle.iff_rules.specs.declared.Position.{Position}
use Rattle.iff_rules.specs.declared.Position.TheVariants.{Outermost, InForm, InProp, InList, InCat}
use Rattle.iff_chunk.specs.Chunks.{Chunks, none, leaf, group}
use Rattle.iff_rules.specs.Rules.{is_group, is_section, allowed, inside, after, group_type}
use Rattle.iff_grammar.specs.Grammar.{chunk_name, member, seen_after, Members}
use Rattle.iff_grammar.specs.Read.{Flat, Regular}
use Rattle.iff_name.specs.Codes as Codes

never : {A : Type 0} → false ≡ true → A
never e = absurd (let z : ◌≡◌ {A = ℕ} 0 1 = cc in omega arith)

pub both_true : (a b : Bool) → both a b ≡ true → (a ≡ true) × (b ≡ true)
both_true true b e = (refl, e)
both_true false b e = (e, cc)

pub well_formed_word : (n : ℕ) → well_formed n ≡ true → n < 4294967296
unfolding well_formed
well_formed_word n e =
    let each = (both_true (each_byte printable n) _ e).0 in
    let first = (both_true (both (printable (byte0 n)) (printable (byte1 n))) _ each).0 in
    let low = (both_true (printable (byte0 n)) _ first).0 in
    omega (arith, leb-true (byte0 n) 126 (both_true (leb 32 (byte0 n)) _ low).1)

-- a type of a group has four bytes
pub type_word : (k : Kind) (t : ℕ) → group_type k t ≡ true → t < 4294967296
unfolding type_name
type_word FORM t e = well_formed_word t (both_true (well_formed t) _ (both_true _ _ e).0).0
type_word LIST t e = well_formed_word t e
type_word CAT t e = well_formed_word t e
type_word PROP t e = well_formed_word t (both_true (well_formed t) _ (both_true _ _ e).0).0
type_word FILLER t e = never e
type_word LOCAL t e = never e

-- what the name of a chunk is and is not
pub name_parts : (n : ℕ) → chunk_name n ≡ true → (well_formed n ≡ true) × (version_name n ≡ false) × (eqb n JJJJ ≡ false)
name_parts n e =
    let a = both_true (well_formed n) _ e in
    let b = both_true (not (version_name n)) (not (eqb n JJJJ)) a.1 in
    (a.0, not-true (version_name n) b.0, not-true (eqb n JJJJ) b.1)

pub chunk_name_lem : (n : ℕ) → well_formed n ≡ true → version_name n ≡ false → eqb n JJJJ ≡ false → chunk_name n ≡ true
chunk_name_lem n a b c = rw (a, b, c)

-- what holds of FORM, LIST, "CAT " and PROP holds of the name of each group
pub group_names : (P : ℕ → Type 0) → P Codes.FORM → P Codes.LIST → P Codes.CAT → P Codes.PROP → (n : ℕ) → is_group (kind_of n) ≡ true → P n
unfolding kind_of
group_names P pf pl pc pp n h =
    go (eqb n Codes.FORM) (eqb n Codes.LIST) (eqb n Codes.CAT) (eqb n Codes.PROP) (eqb n Codes.FILLER) refl refl refl refl h
  where
    go : (a b c d e : Bool) → eqb n Codes.FORM ≡ a → eqb n Codes.LIST ≡ b → eqb n Codes.CAT ≡ c → eqb n Codes.PROP ≡ d
        → is_group (pick a FORM (pick b LIST (pick c CAT (pick d PROP (pick e FILLER LOCAL))))) ≡ true → P n
    go true b c d e ea eb ec ed x = subst P (sym (eqb-true n Codes.FORM ea)) pf
    go false true c d e ea eb ec ed x = subst P (sym (eqb-true n Codes.LIST eb)) pl
    go false false true d e ea eb ec ed x = subst P (sym (eqb-true n Codes.CAT ec)) pc
    go false false false true e ea eb ec ed x = subst P (sym (eqb-true n Codes.PROP ed)) pp
    go false false false false true ea eb ec ed x = never x
    go false false false false false ea eb ec ed x = never x

pub group_chunk_name : (n : ℕ) → is_group (kind_of n) ≡ true → chunk_name n ≡ true
unfolding well_formed version_name
group_chunk_name n h = group_names (λ m. chunk_name m ≡ true) refl refl refl refl n h

-- a filler or a local chunk leaves the position and the types of PROPs
pub after_leaf : (w : Position) (k : Kind) → is_group k ≡ false → after w k ≡ w
after_leaf Outermost k e = refl
after_leaf InForm k e = refl
after_leaf InProp k e = refl
after_leaf InList FORM e = cc
after_leaf InList LIST e = cc
after_leaf InList CAT e = cc
after_leaf InList PROP e = refl
after_leaf InList FILLER e = refl
after_leaf InList LOCAL e = refl
after_leaf InCat k e = refl

pub seen_leaf : (k : Kind) (t : ℕ) (seen : List ℕ) → is_group k ≡ false → seen_after k t seen ≡ seen
seen_leaf FORM t seen e = refl
seen_leaf LIST t seen e = refl
seen_leaf CAT t seen e = refl
seen_leaf PROP t seen e = cc
seen_leaf FILLER t seen e = refl
seen_leaf LOCAL t seen e = refl

-- a chunk of any name adds a type to the types of PROPs exactly if it is a PROP
pub seen_member :
    (n t u : ℕ) (seen : List ℕ) →
    member u (seen_after (kind_of n) t seen) ≡ either (both (eqb n Codes.PROP) (eqb t u)) (member u seen)
unfolding kind_of
seen_member n t u seen =
    go (eqb n Codes.FORM) (eqb n Codes.LIST) (eqb n Codes.CAT) (eqb n Codes.PROP) (eqb n Codes.FILLER) refl refl refl refl
  where
    Says : ℕ → Kind → Type 0
    Says m k = member u (seen_after k t seen) ≡ either (both (eqb m Codes.PROP) (eqb t u)) (member u seen)

    go : (a b c d e : Bool) → eqb n Codes.FORM ≡ a → eqb n Codes.LIST ≡ b → eqb n Codes.CAT ≡ c → eqb n Codes.PROP ≡ d
        → Says n (pick a FORM (pick b LIST (pick c CAT (pick d PROP (pick e FILLER LOCAL)))))
    go true b c d e ea eb ec ed = subst (λ (m : ℕ). Says m FORM) (sym (eqb-true n Codes.FORM ea)) refl
    go false true c d e ea eb ec ed = subst (λ (m : ℕ). Says m LIST) (sym (eqb-true n Codes.LIST eb)) refl
    go false false true d e ea eb ec ed = subst (λ (m : ℕ). Says m CAT) (sym (eqb-true n Codes.CAT ec)) refl
    go false false false true e ea eb ec ed = subst (λ (m : ℕ). Says m PROP) (sym (eqb-true n Codes.PROP ed)) refl
    go false false false false true ea eb ec ed = rw ed
    go false false false false false ea eb ec ed = rw ed

pub section_group : (k : Kind) → is_section k ≡ true → is_group k ≡ true
section_group FORM e = refl
section_group LIST e = refl
section_group CAT e = refl
section_group PROP e = refl
section_group FILLER e = e
section_group LOCAL e = e

-- the only other group is a PROP
pub prop_name : (n : ℕ) → is_group (kind_of n) ≡ true → is_section (kind_of n) ≡ false → n ≡ Codes.PROP
unfolding kind_of
prop_name n = group_names (λ (m : ℕ). is_section (kind_of m) ≡ false → m ≡ Codes.PROP)
    (λ e. never (sym e)) (λ e. never (sym e)) (λ e. never (sym e)) (λ e. refl) n

-- nothing in a PROP is a group
prop_flat : (seen : List ℕ) (F : Chunks) → Members InProp seen F → Flat F
unfolding kind_of
prop_flat seen none m = tt
prop_flat seen (leaf n d p F) m = prop_flat seen F m.4
prop_flat seen (group n t G F) m = group_names (λ (x : ℕ). allowed InProp (kind_of x) ≡ true → ⊥) never never never never n m.0 m.1

flat_in_prop : (n : ℕ) (G : Chunks) → Members (inside (kind_of n)) [] G → n ≡ Codes.PROP → Flat G
unfolding kind_of
flat_in_prop n G m e = prop_flat [] G (rw e at m)

-- chunks that may stand in a row read back as they are written
pub members_regular : (w : Position) (seen : List ℕ) (F : Chunks) → Members w seen F → Regular F
members_regular w seen none m = tt
members_regular w seen (leaf n d p F) m = (m.1, well_formed_word n (name_parts n m.0).0, m.3, members_regular w seen F m.4)
members_regular w seen (group n t G F) m = (
  m.0,
  well_formed_word n (name_parts n (group_chunk_name n m.0)).0,
  type_word (kind_of n) t m.2,
  members_regular (inside (kind_of n)) [] G m.4,
  members_regular (after w (kind_of n)) (seen_after (kind_of n) t seen) F m.5,
  flat_in_prop n G m.4,
)
