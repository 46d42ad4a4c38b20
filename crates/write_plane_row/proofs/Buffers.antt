-- Bytes put at a place of a buffer: nothing, one more, and more behind what was put before.
use Prim.Native.Nat.{ℕ, suc, ◌+◌, ◌-◌, ◌≤◌, ◌<◌}
use mathlib.Core.Path.{◌≡◌, sym, ap, ◌∙◌}
use mathlib.Core.List.{List, [], ◌∷◌, ◌++◌, append_assoc, append-nil}
use lib.ListN.{length, get_or, take, drop, set, length-append, length-drop, take-append-drop, drop_of_length-le}
use lib.Seq.{length-take-le, take_all, take_at, drop_at, drop-drop, drop-cons, set_at}
use borrow.Rule.Slice.PartMut.{put_mid}
use native.Mathlib.Nat.{add-zero}
use native.Mathlib.Omega.{arith}
use Rattle.write_plane_row.specs.Put.{put, Room}

pub put_none : (out : List ℕ) (at : ℕ) → put out at [] ≡ out
put_none out at = rw (add-zero at) (take-append-drop at out)

pub put_length : (out : List ℕ) (at : ℕ) (bs : List ℕ) → at + length bs ≤ length out → length (put out at bs) ≡ length out
put_length out at bs h =
    let a : length (take at out) ≡ at = length-take-le at out (omega arith) in
    simp (length-append, length-drop, a) (omega arith)

module _ (out : List ℕ) (at : ℕ) (bs cs : List ℕ) (h : at + length bs + length cs ≤ length out) where
  head_length : length (take at out ++ bs) ≡ at + length bs
  head_length =
      let a : length (take at out) ≡ at = length-take-le at out (omega arith) in
      rw (length-append, a)

  head_of : (rest : List ℕ) → take (at + length bs) (take at out ++ (bs ++ rest)) ≡ take at out ++ bs
  head_of rest = rw (← append_assoc (take at out) bs rest) (take_at (take at out ++ bs) rest (at + length bs) head_length)

  tail_of : (rest : List ℕ) (k : ℕ) → drop (at + length bs + k) (take at out ++ (bs ++ rest)) ≡ drop k rest
  tail_of rest k =
      rw (← append_assoc (take at out) bs rest, ← drop-drop k (at + length bs) ((take at out ++ bs) ++ rest))
      (ap (λ (l : List ℕ). drop k l) (drop_at (take at out ++ bs) rest (at + length bs) head_length))

  -- more bytes behind those that were put
  pub put_put : put (put out at bs) (at + length bs) cs ≡ put out at (bs ++ cs)
  put_put =
      let rest : List ℕ = drop (at + length bs) out in
      let e : at + length bs + length cs ≡ at + length (bs ++ cs) = rw length-append (omega arith) in
      let d : drop (length cs) rest ≡ drop (at + length (bs ++ cs)) out = drop-drop (length cs) (at + length bs) out ∙ ap (λ (k : ℕ). drop k out) e in
      rw (head_of rest, tail_of rest (length cs), d) (simp append_assoc)

-- one byte more
pub put_next : (out : List ℕ) (at : ℕ) (bs : List ℕ) (v : ℕ) → at + length bs < length out → set (put out at bs) (at + length bs) v ≡ put out at (bs ++ (v ∷ []))
put_next out at bs v h =
    let rest : List ℕ = drop (suc (at + length bs)) out in
    let cut : drop (at + length bs) out ≡ get_or out (at + length bs) 0 ∷ rest = drop-cons out (at + length bs) 0 h in
    let n : length (take at out ++ bs) ≡ at + length bs = head_length out at bs [] (omega arith) in
    let e : suc (at + length bs) ≡ at + length (bs ++ (v ∷ [])) = rw length-append (omega arith) in
    rw (cut, ← append_assoc (take at out) bs (get_or out (at + length bs) 0 ∷ rest))
    (set_at (take at out ++ bs) (get_or out (at + length bs) 0) rest v (at + length bs) n
    ∙ rw (append_assoc (take at out) bs (v ∷ rest), append_assoc bs (v ∷ []) (drop (at + length (bs ++ (v ∷ []))) out), ← e))

-- a whole buffer
pub put_all : (out bs : List ℕ) → length bs ≡ length out → put out 0 bs ≡ bs
put_all out bs e =
    let h : length out ≤ 0 + length bs = omega arith in
    rw (drop_of_length-le out h, append-nil bs)

-- what a part from a place on holds after bytes were put at its start
pub put_back :
    (out bs last : List ℕ) (at : ℕ) → at + length bs ≤ length out → last ≡ bs ++ drop (length bs) (take (length out - at) (drop at out)) →
    put_mid at (length out - at) out last ≡ put out at bs
put_back out bs last at h e =
    let n : length (drop at out) ≡ length out - at = length-drop at out in
    let t : take (length out - at) (drop at out) ≡ drop at out = take_all (length out - at) (drop at out) (omega arith) in
    let m : length (drop at out) ≤ length out - at = omega arith in
    let z : drop (length out - at) (drop at out) ≡ [] = drop_of_length-le (drop at out) m in
    rw (e, z, append-nil (bs ++ drop (length bs) (take (length out - at) (drop at out))), t, drop-drop (length bs) at out)

-- The bytes `rest` are `part` and then `more`.
pub record Split (rest part more : List ℕ) : Type 0 where
  pub is : rest ≡ part ++ more

pub split_length : (rest part more : List ℕ) → Split rest part more → length rest ≡ length part + length more
split_length rest part more e = ap (λ (l : List ℕ). length l) e.is ∙ length-append part more

-- Of the bytes `all`, which are to stand at a place, those before `rest` are put.
pub record Putting (all old : List ℕ) (at : ℕ) (out : List ℕ) (q : ℕ) (rest : List ℕ) : Type 0 where
  pub done : List ℕ
  pub parts : all ≡ done ++ rest
  pub place : q ≡ at + length done
  pub bytes : out ≡ put old at done

pub putting_none : (all rest old : List ℕ) (at : ℕ) → rest ≡ all → Putting all old at old at rest
putting_none all rest old at e = record { done = []; parts = sym e; place = sym (add-zero at); bytes = sym (put_none old at) }

module _ (all old : List ℕ) (at : ℕ) (out : List ℕ) (q : ℕ) (rest : List ℕ) (p : Putting all old at out q rest) (room : Room all old at) where
  whole_length : length all ≡ length p.done + length rest
  whole_length = ap (λ (l : List ℕ). length l) p.parts ∙ length-append p.done rest

  pub putting_length : length out ≡ length old
  putting_length =
      let a = whole_length in
      let f = room.fits in
      rw p.bytes (put_length old at p.done (omega arith))

  module _ (bs more : List ℕ) (e : Split rest bs more) where
    pub putting_room : Room bs out q
    putting_room =
        let a = whole_length in
        let b = split_length rest bs more e in
        let c = putting_length in
        let f = room.fits in
        let g = room.short in
        let d = p.place in
        record { fits = omega arith; short = omega arith }

    pub putting_more : (r : ℕ) (after : List ℕ) → r ≡ q + length bs → after ≡ put out q bs → Putting all old at after r more
    putting_more r after d w =
        let a = whole_length in
        let b = split_length rest bs more e in
        let f = room.fits in
        let z : put out q bs ≡ put old at (p.done ++ bs) = rw (p.bytes, p.place) (put_put old at p.done bs (omega arith)) in
        record {
          done = p.done ++ bs;
          parts = p.parts ∙ rw (e.is, append_assoc p.done bs more);
          place = let n = length-append p.done bs in let y = p.place in omega arith;
          bytes = w ∙ z;
        }

  pub putting_all : rest ≡ [] → (q ≡ at + length all) × (out ≡ put old at all)
  putting_all e =
      let z : p.done ≡ all = sym (p.parts ∙ rw (e, append-nil p.done)) in
      (p.place ∙ ap (λ (l : List ℕ). at + length l) z, p.bytes ∙ ap (λ (l : List ℕ). put old at l) z)
