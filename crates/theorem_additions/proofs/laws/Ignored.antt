-- What may be added is nothing that a picture looks at: a leaf of a foreign name, a group that is no PROP ILBM and with no picture in it.
use Rattle.std.specs.Prelude.{ℕ, ◌≡◌, refl, Bool, true, false, List, [], eqb}
use Rattle.std.proofs.Common.{sym, subst, eqb-true}
use Rattle.iff_name.specs.Name.{pick, kind_of}
use Rattle.iff_name.specs.declared.Kind.{Kind}
use Rattle.iff_name.specs.declared.Kind.TheVariants.{FORM, LIST, CAT, PROP, FILLER, LOCAL}
use Rattle.iff_rules.specs.declared.Position.{Position}
use Rattle.iff_rules.specs.declared.Position.TheVariants.{Outermost, InForm, InProp, InList, InCat}
use Rattle.iff_chunk.specs.Chunks.{Chunks, none, leaf, group, Chunk, a_leaf, a_group}
use Rattle.iff_rules.specs.Rules.{is_group, in_prop, inside}
use Rattle.iff_grammar.specs.Grammar.{Members}
use Rattle.ilbm_spec.specs.Names.{is_picture_type, foreign}
use Rattle.ilbm_spec.specs.Contents.{no_picture}
use Rattle.ilbm_spec.specs.Ignored.{Ignored}
use Rattle.theorem_additions.specs.Additions.{LocalMay, LeafMay, GroupMay, PropMay, Boundary, here, past, into, May}
use Rattle.theorem_additions.proofs.laws.Insert.{no}
use Rattle.iff_name.specs.Codes as Codes

filler_foreign : (n : ℕ) → kind_of n ≡ FILLER → foreign n ≡ true
unfolding kind_of
filler_foreign n h =
    go (eqb n Codes.FORM) (eqb n Codes.LIST) (eqb n Codes.CAT) (eqb n Codes.PROP) (eqb n Codes.FILLER) refl h
  where
    go : (a b c d e : Bool) → eqb n Codes.FILLER ≡ e →
        pick a FORM (pick b LIST (pick c CAT (pick d PROP (pick e FILLER LOCAL)))) ≡ FILLER → foreign n ≡ true
    go true b c d e x k = no cc
    go false true c d e x k = no cc
    go false false true d e x k = no cc
    go false false false true e x k = no cc
    go false false false false true x k = subst (λ (m : ℕ). foreign m ≡ true) (sym (eqb-true n Codes.FILLER x)) refl
    go false false false false false x k = no cc

local_foreign : (w : Position) (n : ℕ) → LocalMay w n → foreign n ≡ true
local_foreign Outermost n h = absurd h
local_foreign InForm n h = h
local_foreign InProp n h = h
local_foreign InList n h = absurd h
local_foreign InCat n h = absurd h

leaf_foreign : (k : Kind) (w : Position) (n : ℕ) → kind_of n ≡ k → LeafMay k w n → foreign n ≡ true
leaf_foreign FORM w n e h = absurd h
leaf_foreign LIST w n e h = absurd h
leaf_foreign CAT w n e h = absurd h
leaf_foreign PROP w n e h = absurd h
leaf_foreign FILLER w n e h = filler_foreign n e
leaf_foreign LOCAL w n e h = local_foreign w n h

-- a PROP has no groups in it
prop_no_picture : (G : Chunks) (seen : List ℕ) → Members InProp seen G → no_picture G ≡ true
unfolding no_picture
prop_no_picture none seen m = refl
prop_no_picture (leaf n d p F) seen m = prop_no_picture F seen m.4
prop_no_picture (group n t G F) seen m = go (kind_of n) m.0 m.1
  where
    go : {A : Type 0} (k : Kind) → is_group k ≡ true → in_prop k ≡ true → A
    go FORM g a = no cc
    go LIST g a = no cc
    go CAT g a = no cc
    go PROP g a = no cc
    go FILLER g a = no cc
    go LOCAL g a = no cc

prop_not_ilbm : (w : Position) (seen : List ℕ) (t : ℕ) (F : Chunks) → PropMay w seen t F → is_picture_type t ≡ false
prop_not_ilbm Outermost seen t F h = absurd h
prop_not_ilbm InForm seen t F h = absurd h
prop_not_ilbm InProp seen t F h = absurd h
prop_not_ilbm InList seen t F h = h.0
prop_not_ilbm InCat seen t F h = absurd h

group_ignored : (k : Kind) (w : Position) (seen : List ℕ) (t : ℕ) (G F : Chunks) → GroupMay k w seen t G F → Members (inside k) [] G
    → (is_picture_type t ≡ false) × (no_picture G ≡ true)
group_ignored FORM w seen t G F h m = (h.1, h.2)
group_ignored LIST w seen t G F h m = absurd h
group_ignored CAT w seen t G F h m = absurd h
group_ignored PROP w seen t G F h m = (prop_not_ilbm w seen t F h, prop_no_picture G [] m)
group_ignored FILLER w seen t G F h m = absurd h
group_ignored LOCAL w seen t G F h m = absurd h

pub may_ignored : (i : Boundary) (X : Chunk) (F : Chunks) (w : Position) (seen : List ℕ) → May w seen i X F → Ignored X
may_ignored here (a_leaf n d p) F w seen h = leaf_foreign (kind_of n) w n refl h.1
may_ignored here (a_group n t G) F w seen h = group_ignored (kind_of n) w seen t G F h.0 h.2
may_ignored (past i) X none w seen h = absurd h
may_ignored (past i) X (leaf n d p F) w seen h = may_ignored i X F w seen h
may_ignored (past i) X (group n t G F) w seen h = may_ignored i X F _ _ h
may_ignored (into i) X none w seen h = absurd h
may_ignored (into i) X (leaf n d p F) w seen h = absurd h
may_ignored (into i) X (group n t G F) w seen h = may_ignored i X G _ [] h

-- the last property of a name, in a FORM and in a PROP, and the BODYs
