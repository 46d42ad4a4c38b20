-- From the chunks of a file to the picture of a given number.
use Prim.Native.Nat.{ℕ, zero, suc, ◌+◌}
use mathlib.Core.Path.{◌≡◌, refl, sym, ◌∙◌}
use mathlib.Core.List.{List, [], ◌∷◌, append-nil}
use lib.ListN.{drop}
use native.Mathlib.Omega.{arith}
use Rattle.iff_chunk.specs.Chunks.{none, Chunk, before, word}
use Rattle.iff_tree.specs.Judge.{Found, found, refused, read_file, verdict_of, check_of}
use Rattle.iff_walk.specs.Coming.{Sound}
use Rattle.ilbm_spec.specs.declared.BitmapHeader.{BitmapHeader}
use Rattle.ilbm_spec.specs.Contents.{no_scope, Content, content_of, contents_of}
use Rattle.ilbm_spec.specs.Pictures.{data_of, header_in, picture_refusal, passing, judged, pick_content, view_in, view_of}
use Rattle.ilbm_members.specs.Members.{Holds, Row}
use Rattle.ilbm_locate.specs.declared.Scope.{Scope}
use Rattle.std.specs.declared.ops.ControlFlow.TheVariants.{Break, Continue}
use Rattle.ilbm_locate.specs.Scopes.{Scoped, none_shared}
use Rattle.ilbm_locate.specs.Spots.{Spot, Spotted, Seeks}
use Rattle.ilbm_locate.proofs.ScopeLaws.{none_scoped}
use Rattle.ilbm_content.specs.declared.Contents.{Contents}
use Rattle.ilbm_content.specs.Held.{ContentsAre, ContentIs}
use Rattle.ilbm_refusals.specs.Refusals.{Full, judgement, JudgementIs}
use Rattle.ilbm_find.specs.Seen.{ViewIs, Judged, FormIn, FormView}
use Rattle.iff_refusal.specs.declared.Reason.TheVariants.{NoPicture}
use Rattle.iff_refusal.specs.declared.Reason.{Reason}
use Rattle.iff_refusal.specs.declared.Refusal.{Refusal}
use Rattle.iff_refusal.specs.Numbers.{Answer, refusal, refusing}
use Rattle.iff_tree.specs.declared.Accepted.{Accepted}
use Rattle.std.specs.Prelude.{Result, Ok, Err}

-- what is seen of a content that is judged
seen :
    (s : List ℕ) (c : Contents) (h : BitmapHeader) (x : Content) → ContentsAre s c x → (r : Result (Unit {0}) Reason) →
    picture_refusal x ≡ r → Ok h ≡ judgement r (header_in (data_of x.bmhd)) → ViewIs s (Ok (c, h)) (passing r (found x))
seen s c h x k (Ok u) e z = (x, refl, record { parts = k; sound = e; header = cc })
seen s c h x k (Err n) e z = absurd (let z : ◌≡◌ {A = ℕ} 0 1 = cc in omega arith)

unseen :
    (n : Reason) (x : Content) (r : Result (Unit {0}) Reason) → Err n ≡ judgement r (header_in (data_of x.bmhd)) →
    passing r (found x) ≡ refused n 0
unseen n x (Ok u) z = absurd (let z : ◌≡◌ {A = ℕ} 0 1 = cc in omega arith)
unseen n x (Err m) z = cc

-- the FORM at a place
module _ (s : List ℕ) (form : ℕ) (p : Scope) (z : ℕ) (i : z ≡ word s (form + 4)) where
  pub form_row : FormIn s form p → Row s (form + 12) (form + 8 + z)
  form_row (G, scope, o, k) = rw i (G, o.0, o.1)

  pub form_scoped : FormIn s form p → Scoped s p
  form_scoped (G, scope, o, k) = (scope, k)

  module _ (c : Contents) (w : ContentIs s form (form + 8 + z) p c) where
    pub form_full : FormIn s form p → Full s c
    form_full (G, scope, o, k) = (content_of form G scope, w.at G o.0 scope (rw i o.1) k)

    module _ (v : Result BitmapHeader Reason) (y : JudgementIs s c v) where
      pub form_seen : (h : BitmapHeader) → v ≡ Ok h → FormView s form p (Ok (c, h))
      form_seen h j = record {
        at = λ G scope o k. let x = w.at G o.0 scope (rw i o.1) k in
            seen s c h (content_of form G scope) x _ refl (sym j ∙ y.at (content_of form G scope) x);
      }

      pub form_refused : (n : Reason) → v ≡ Err n → FormView s form p (refusing n 0)
      form_refused n j = record {
        at = λ G scope o k. let x = w.at G o.0 scope (rw i o.1) k in
            unseen n (content_of form G scope) _ (sym j ∙ y.at (content_of form G scope) x);
      }

-- the picture of number i
pub sound_holds : (s : List ℕ) (e : ℕ) (f : Sound s e) → Holds s 0 e (before f.chunk none) (drop e s)
sound_holds s e f =
    let w = f.start in
    record { rest = w.here; regular = w.regular; ends = w.ends; inside = w.room; short = w.short }

pub sound_row : (s : List ℕ) (e : ℕ) → Sound s e → Row s 0 e
sound_row s e f = (before f.chunk none, drop e s, sound_holds s e f)

pub none_around : (s : List ℕ) (c : Scope) → c ≡ none_shared → Scoped s c
none_around s c i = rw i (no_scope, none_scoped s)

pick_none : (cs : List Content) (i : ℕ) → drop i cs ≡ [] → pick_content cs i ≡ refused NoPicture 0
unfolding pick_content
pick_none [] zero e = refl
pick_none [] (suc i) e = refl
pick_none (c ∷ cs) zero e = absurd (let z : ◌≡◌ {A = ℕ} 0 1 = cc in omega arith)
pick_none (c ∷ cs) (suc i) e = pick_none cs i e

pick_some : (cs : List Content) (i : ℕ) (x : Content) (rest : List Content) → drop i cs ≡ x ∷ rest → pick_content cs i ≡ judged x
unfolding pick_content
pick_some [] zero x rest e = absurd (let z : ◌≡◌ {A = ℕ} 0 1 = cc in omega arith)
pick_some [] (suc i) x rest e = absurd (let z : ◌≡◌ {A = ℕ} 0 1 = cc in omega arith)
pick_some (c ∷ cs) zero x rest e = let j : c ≡ x = cc in rw j
pick_some (c ∷ cs) (suc i) x rest e = pick_some cs i x rest e

drop_none : (m : ℕ) → drop {A = Content} m [] ≡ []
drop_none zero = refl
drop_none (suc m) = refl

module _ (s : List ℕ) (e i : ℕ) (f : Sound s e) (c : Scope) (l : c ≡ none_shared) (r : Spot) (w : Seeks s 0 e c i r) where
  spotted : Spotted s i (contents_of f.chunk) r
  spotted = w.at (before f.chunk none) (drop e s) no_scope (sound_holds s e f) (rw l (none_scoped s))

  pub spot_form : (a : ℕ) (b : Scope) → r ≡ Break (a, b) → FormIn s a b
  spot_form a b j = let x : Spotted s i (contents_of f.chunk) (Break (a, b)) = rw j at spotted in (x.0, x.1, x.3, x.4)

  pub view_here :
      (a : ℕ) (b : Scope) (v : Answer (Contents × BitmapHeader)) → r ≡ Break (a, b) → FormView s a b v →
      ViewIs s v (view_of s i)
  view_here a b v j k =
      let x : Spotted s i (contents_of f.chunk) (Break (a, b)) = rw j at spotted in
      let y = pick_some (contents_of f.chunk) i (content_of a x.0 x.1) x.2 x.5 in
      rw (f.read, y) (k.at x.0 x.1 x.3 x.4)

  pub view_left : (m : ℕ) (x : Refusal) → r ≡ Continue m → x ≡ refusal NoPicture 0 → view_of s i ≡ refused x.reason x.place
  view_left m x j y =
      let u : Spotted s i (contents_of f.chunk) (Continue m) = rw j at spotted in
      let d : drop i (contents_of f.chunk) ≡ [] = rw append-nil at (u []) ∙ drop_none m in
      rw (y, f.read) (pick_none (contents_of f.chunk) i d)

refused_view : (s : List ℕ) (i : ℕ) (f : Found Chunk) (r : Refusal) → Err r ≡ verdict_of s f → view_in f i ≡ refused r.reason r.place
refused_view s i (found c) r e = absurd (let z : ◌≡◌ {A = ℕ} 0 1 = cc in omega arith)
refused_view s i (refused a b) r e = cc

pub view_refused :
    (s : List ℕ) (i : ℕ) (v : Answer Accepted) (r : Refusal) → v ≡ check_of s → v ≡ Err r →
    view_of s i ≡ refused r.reason r.place
view_refused s i v r a b = refused_view s i (read_file s) r (sym b ∙ a)

pub seen_judged :
    (s : List ℕ) (i : ℕ) (v : Answer (Contents × BitmapHeader)) → ViewIs s v (view_of s i) → (c : Contents) (b : BitmapHeader) →
    v ≡ Ok (c, b) → Judged s c b
seen_judged s i v w c b j = let x : ViewIs s (Ok (c, b)) (view_of s i) = rw j at w in (x.0, x.2)
