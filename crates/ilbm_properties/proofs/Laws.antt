-- The fields of a property are read from its part of the file; an absent property's fields are those of no bytes, all 0.
use Prim.Native.Nat.{ℕ, ◌+◌, ◌-◌, ◌≤◌}
use mathlib.Core.Path.{◌≡◌, refl, sym, ap, ◌∙◌}
use mathlib.Core.Bool.{Bool, true, false, not}
use mathlib.Core.List.{List, []}
use lib.Dec.{eqb}
use lib.ListN.{length, take, drop}
use lib.IntN.{pos}
use borrow.Author.Tests.{eqb-true}
use native.Mathlib.Omega.{arith}
use Rattle.iff_name.specs.Name.{either}
use Rattle.iff_chunk.specs.Chunks.{word}
use Rattle.ilbm_spec.specs.declared.BitmapHeader.{BitmapHeader}
use Rattle.ilbm_spec.specs.declared.HotSpot.{HotSpot}
use Rattle.ilbm_spec.specs.declared.Destination.{Destination}
use Rattle.ilbm_spec.specs.declared.Picture.{Picture}
use Rattle.ilbm_spec.specs.Contents.{Property, own, shared, absent}
use Rattle.ilbm_spec.specs.Pictures.{u16, hot_spot_in, destination_in, data_of, counts, size_not, size_not_triples}
use Rattle.ilbm_spec.specs.Pictures.{wrong_size, picture_from, view_of, picture_of}
use Rattle.ilbm_spec.proofs.laws.Pictures.{sizes_right}
use Rattle.ilbm_content.proofs.Laws.{origin_is}
use Rattle.ilbm_content.specs.declared.Held.{Held}
use Rattle.ilbm_content.specs.declared.Contents.{Contents}
use Rattle.ilbm_content.specs.Held.{HeldIs}
use Rattle.ilbm_find.specs.Seen.{ViewIs, Judged}
use Rattle.ilbm_refusals.proofs.Laws.{held_some, held_none}
use Rattle.ilbm_refusals.proofs.RefusalLaws.{held_data, data_taken}
use Rattle.iff_tree.specs.Judge.{refused}
use Rattle.ilbm_properties.specs.Fields.{OfSize, GrabIs, DestinationIs, WordIs, LongIs, PictureIs}
use Rattle.iff_refusal.specs.declared.Refusal.{Refusal}
use Rattle.iff_refusal.specs.Numbers.{Answer}
use Rattle.std.specs.Prelude.{Ok, Err, Some, None}

not-false : (b : Bool) → not b ≡ false → b ≡ true
not-false true e = refl
not-false false e = sym e

-- a part of the right size
module _ (s : List ℕ) (h : Held) (n a b : ℕ) (o : OfSize s h n) (i : h.part ≡ Some (a, b)) where
  pub size_order : a ≤ b
  size_order = omega (arith, (held_some s h o.0 a b o.1 i).sized)

  pub size_inside : b ≤ length s
  size_inside = (held_data s h o.0 a b o.1 i).2

  right_size : length (take (b - a) (drop a s)) ≡ n
  right_size =
      let e : not (eqb (length (data_of o.0)) n) ≡ false = rw (held_some s h o.0 a b o.1 i).counts at o.2 in
      rw (data_taken s h o.0 a b o.1 i) (eqb-true _ _ (not-false _ e))

  pub size_room : n ≤ length (take (b - a) (drop a s))
  size_room = omega (arith, right_size)

  pub size_room_0 : 0 + n ≤ length (take (b - a) (drop a s))
  size_room_0 = omega (arith, right_size)

pub ruleset size_laws = (size_order, size_inside, size_room, size_room_0)

-- what is read of it
module _ (s : List ℕ) (h : Held) (a b : ℕ) (i : h.part ≡ Some (a, b)) where
  pub grab_some : (r : HotSpot) → r ≡ hot_spot_in (take (b - a) (drop a s)) → GrabIs s h r
  grab_some r e = record { at = λ q k. e ∙ ap hot_spot_in (data_taken s h q a b k i) }

  pub destination_some : (r : Destination) → r ≡ destination_in (take (b - a) (drop a s)) → DestinationIs s h r
  destination_some r e = record { at = λ q k. e ∙ ap destination_in (data_taken s h q a b k i) }

  pub word_some : (r : ℕ) → r ≡ u16 (take (b - a) (drop a s)) 0 → WordIs s h r
  word_some r e = record { at = λ q k. e ∙ ap (λ (d : List ℕ). u16 d 0) (data_taken s h q a b k i) }

  pub long_some : (r : ℕ) → r ≡ word (take (b - a) (drop a s)) 0 → LongIs s h r
  long_some r e = record { at = λ q k. e ∙ ap (λ (d : List ℕ). word d 0) (data_taken s h q a b k i) }

no_data : (q : Property) → counts q ≡ false → data_of q ≡ []
no_data (own d) e = absurd (let z : ◌≡◌ {A = ℕ} 0 1 = cc in omega arith)
no_data (shared p d) e = absurd (let z : ◌≡◌ {A = ℕ} 0 1 = cc in omega arith)
no_data absent e = refl

module _ (s : List ℕ) (h : Held) (i : h.part ≡ None) where
  nothing_in : (q : Property) → HeldIs s h q → data_of q ≡ []
  nothing_in q k = no_data q (held_none s h q k i)

  pub grab_none : GrabIs s h (record { x = pos 0; y = pos 0 })
  unfolding hot_spot_in
  grab_none = record { at = λ q k. rw (nothing_in q k) }

  pub destination_none : DestinationIs s h (record { depth = 0; pad1 = 0; plane_pick = 0; plane_on_off = 0; plane_mask = 0 })
  unfolding destination_in
  destination_none = record { at = λ q k. rw (nothing_in q k) }

  pub word_none : WordIs s h 0
  word_none = record { at = λ q k. rw (nothing_in q k) }

  pub long_none : LongIs s h 0
  unfolding word
  long_none = record { at = λ q k. rw (nothing_in q k) }

-- a picture that is not refused has properties of the right sizes
never : {A : Type 0} → true ≡ false → A
never e = absurd (let z : ◌≡◌ {A = ℕ} 0 1 = cc in omega arith)

none_of :
    (a b c d e f : Bool) → either a (either b (either c (either d (either e f)))) ≡ false →
    (a ≡ false) × (c ≡ false) × (d ≡ false) × (e ≡ false) × (f ≡ false)
none_of true b c d e f i = never i
none_of false true c d e f i = never i
none_of false false true d e f i = never i
none_of false false false true e f i = never i
none_of false false false false true f i = never i
none_of false false false false false f i = (refl, refl, refl, refl, i)

module _ (s : List ℕ) (c : Contents) (b : BitmapHeader) (j : Judged s c b) where
  all :
      (size_not 20 j.0.bmhd ≡ false) × (size_not 4 j.0.grab ≡ false) × (size_not 8 j.0.dest ≡ false) ×
      (size_not 2 j.0.sprt ≡ false) ×
      (size_not 4 j.0.camg ≡ false)
  unfolding wrong_size
  all =
      none_of (size_not 20 j.0.bmhd) (size_not_triples j.0.cmap) (size_not 4 j.0.grab) (size_not 8 j.0.dest) (size_not 2 j.0.sprt)
      (size_not 4 j.0.camg)
      (sizes_right j.0 j.1.sound)

  pub grab_right : OfSize s c.grab 4
  grab_right = (j.0.grab, j.1.parts.grab, all.1)

  pub dest_right : OfSize s c.dest 8
  dest_right = (j.0.dest, j.1.parts.dest, all.2)

  pub sprt_right : OfSize s c.sprt 2
  sprt_right = (j.0.sprt, j.1.parts.sprt, all.3)

  pub camg_right : OfSize s c.camg 4
  camg_right = (j.0.camg, j.1.parts.camg, all.4)

pub picture_answered :
    (s : List ℕ) (c : Contents) (b : BitmapHeader) (g : HotSpot) (d : Destination) (w m : ℕ) →
    GrabIs s c.grab g → DestinationIs s c.dest d → WordIs s c.sprt w → LongIs s c.camg m →
    PictureIs s c b
    (record {
      header = b;
      header_from = c.bmhd.origin;
      palette_from = c.cmap.origin;
      grab = g;
      grab_from = c.grab.origin;
      destination = d;
      destination_from = c.dest.origin;
      sprite = w;
      sprite_from = c.sprt.origin;
      view_mode = m;
      view_mode_from = c.camg.origin;
    })
unfolding picture_from
picture_answered s c b g d w m G D W M =
    record {
      at = λ x y.
          let k = y.parts in
          let e1 = y.header in
          let e2 = G.at x.grab k.grab in
          let e3 = D.at x.dest k.dest in
          let e4 = W.at x.sprt k.sprt in
          let e5 = M.at x.camg k.camg in
          let o1 = origin_is s c.bmhd x.bmhd k.bmhd in
          let o2 = origin_is s c.cmap x.cmap k.cmap in
          let o3 = origin_is s c.grab x.grab k.grab in
          let o4 = origin_is s c.dest x.dest k.dest in
          let o5 = origin_is s c.sprt x.sprt k.sprt in
          let o6 = origin_is s c.camg x.camg k.camg in
          cc;
    }

-- from the view to the answers
module _ (s : List ℕ) (i : ℕ) (v : Answer (Contents × BitmapHeader)) (w : ViewIs s v (view_of s i)) where
  pub picture_seen : (c : Contents) (b : BitmapHeader) (r : Picture) → v ≡ Ok (c, b) → PictureIs s c b r → Ok r ≡ picture_of s i
  picture_seen c b r j k = let x : ViewIs s (Ok (c, b)) (view_of s i) = rw j at w in rw x.1 (ap Ok (k.at x.0 x.2))

  pub picture_refused : (r : Refusal) → v ≡ Err r → Err r ≡ picture_of s i
  picture_refused r j = let x : view_of s i ≡ refused r.reason r.place = rw j at w in rw x
