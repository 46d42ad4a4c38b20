-- Chunks that no picture looks at. Before other chunks such a one changes nothing for them: the last property, the BODYs, the scope and
-- the pictures are those of the others alone, which stand further on by its length.
use Rattle.std.specs.Prelude.{ℕ, ◌+◌, ◌≡◌, refl, Bool, true, false, List, [], eqb, length}
use Rattle.std.proofs.Common.{ap, arith}
use Rattle.std.proofs.Math.Option.{Option, some}
use Rattle.std.proofs.lemmas.Bool.{not-true}
use Rattle.iff_name.specs.Name.{both, either, pick}
use Rattle.iff_name.specs.Codes.{FORM, PROP}
use Rattle.iff_chunk.specs.Chunks.{Chunks, none, leaf, group, Chunk, a_leaf, a_group, before, bytes}
use Rattle.ilbm_spec.specs.Names.{BMHD, CMAP, GRAB, DEST, SPRT, CAMG, BODY, is_picture_type, is_picture, foreign}
use Rattle.ilbm_spec.specs.Contents.{Located, located, last_named, bodies_from, Scope, list_scope, scope_inside, contents_from, no_picture}
use Rattle.ilbm_spec.specs.Ignored.{Ignored, span, Passes, Known, Seven}

pub either_false : (a b : Bool) → either a b ≡ false → (a ≡ false) × (b ≡ false)
either_false true b e = absurd (let z : ◌≡◌ {A = ℕ} 0 1 = cc in omega arith)
either_false false b e = (refl, e)

foreign_parts : (n : ℕ) → foreign n ≡ true → Seven (λ name. eqb n name ≡ false)
foreign_parts n h =
    let all = either_false _ _ (not-true _ h) in
    let left = either_false (eqb n BMHD) _ all.0 in
    let two = either_false (eqb n CMAP) (eqb n GRAB) left.1 in
    let right = either_false (either (eqb n DEST) (eqb n SPRT)) _ all.1 in
    let four = either_false (eqb n DEST) (eqb n SPRT) right.0 in
    let six = either_false (eqb n CAMG) (eqb n BODY) right.1 in
    (left.0, two.0, two.1, four.0, four.1, six.0, six.1)

pub known : Seven Known
known = (
  λ n h. (foreign_parts n h).0,
  λ n h. (foreign_parts n h).1,
  λ n h. (foreign_parts n h).2,
  λ n h. (foreign_parts n h).3,
  λ n h. (foreign_parts n h).4,
  λ n h. (foreign_parts n h).5,
  λ n h. (foreign_parts n h).6,
)

-- the last chunk of a name
pub named_past :
    (ends : ℕ → Bool) → Passes ends → (name : ℕ) → Known name → (X : Chunk) (F : Chunks) → Ignored X → (p : ℕ) (o : Option Located) →
    last_named ends name p o (before X F) ≡ last_named ends name (p + span X) o F
unfolding last_named
named_past ends e name k (a_leaf n d pad) F g p o = rw (e n g, k n g)
named_past ends e name k (a_group n t G) F g p o = refl

-- the BODYs
pub bodies_past : (X : Chunk) (F : Chunks) → Ignored X → (p : ℕ) → bodies_from p (before X F) ≡ bodies_from (p + span X) F
unfolding bodies_from
bodies_past (a_leaf n d pad) F g p = rw (known.6 n g)
bodies_past (a_group n t G) F g p = refl

not_both : (a b : Bool) → b ≡ false → both a b ≡ false
not_both true b e = e
not_both false b e = refl

-- in a LIST: a PROP of another type, a filler or a FORM leaves the PROP ILBM
pub scope_past :
    (X : Chunk) (F : Chunks) → Ignored X → (p : ℕ) (scope : Scope) → list_scope p (before X F) scope ≡ list_scope (p + span X) F scope
unfolding list_scope
scope_past (a_leaf n d pad) F g p scope = refl
scope_past (a_group n t G) F g p scope = rw (not_both (eqb n PROP) (is_picture_type t) g.0)

-- where there is no FORM ILBM there is no picture
no_contents : (F : Chunks) → no_picture F ≡ true → (p : ℕ) (scope : Scope) → contents_from p scope F ≡ []
unfolding contents_from no_picture
no_contents none h p scope = refl
no_contents (leaf n d pad F) h p scope = no_contents F h _ scope
no_contents (group n t G F) h p scope =
    let one = both_true _ _ h in
    let two = both_true (no_picture G) (no_picture F) one.1 in
    rw (
      not-true (is_picture n t) one.0,
      no_contents G two.0 (p + 12) (scope_inside n p G scope),
      no_contents F two.1 (p + (12 + length (bytes G))) scope,
    )
  where
    both_true : (a b : Bool) → both a b ≡ true → (a ≡ true) × (b ≡ true)
    both_true true b e = (refl, e)
    both_true false b e = absurd (let z : ◌≡◌ {A = ℕ} 0 1 = cc in omega arith)

-- a FORM of another type is no picture, nor is anything in it
pub contents_past :
    (X : Chunk) (F : Chunks) → Ignored X → (p : ℕ) (scope : Scope) → contents_from p scope (before X F) ≡ contents_from (p + span X) scope F
unfolding contents_from
contents_past (a_leaf n d pad) F g p scope = refl
contents_past (a_group n t G) F g p scope =
    rw (not_both (eqb n FORM) (is_picture_type t) g.0, no_contents G g.1 (p + 12) (scope_inside n p G scope))
