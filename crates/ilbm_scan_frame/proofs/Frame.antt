-- The rows of a frame are those of its lines, one after the other; and a turn of the loop that writes lines adds one to those before it. So
-- it is for whatever is made of a line's rows, w bytes for each.
use Prim.Native.Nat.{ℕ, zero, suc, ◌+◌, ◌-◌, ◌*◌, ◌^◌, ◌<◌, ◌≤◌}
use mathlib.Core.Path.{◌≡◌, refl, sym, ap, ◌∙◌}
use mathlib.Core.List.{List, [], ◌++◌, append_assoc, append-nil}
use lib.ListN.{length, take, drop, length-append, length-drop}
use lib.Seq.{take_at, take_all, length-take-le}
use mir.Syntax.{w64}
use mir.Val.{Fits}
use native.Mathlib.Nat.{zero-mul, suc-mul, add-mul, one-mul, mul_comm, mul-le-mul_left}
use native.Mathlib.Omega.{arith}
use borrow.Rule.Slice.PartMut.{mid_of, put_mid}
use Rattle.ilbm_spec.specs.Rows.{Read, then_read, IsRead, row_read, rows_from, Pixels, line_with, lines_with, line_answer, bytes_after}
use Rattle.ilbm_spec.proofs.laws.Rows.{one_value, one_place}
use Rattle.byterun_row.specs.ByteRun.{row_of}
use Rattle.ilbm_gather.proofs.Colours.{row_room}
use Rattle.iff_tree.specs.Judge.{found, refused}
use Rattle.ilbm_plane_rows.proofs.Judging.{onward, answered_onward, answered_next, answered_refusal}
use Rattle.iff_refusal.specs.declared.Refusal.{Refusal}
use Rattle.iff_refusal.specs.Numbers.{Answer}
use Rattle.std.specs.Prelude.{Ok, Err}

-- the part of a frame that is lent for a line
part_long : (a n : ℕ) (xs : List ℕ) → a + n ≤ length xs → length (take (a + n - a) (drop a xs)) ≡ n
part_long a n xs h = let e : a + n - a ≡ n = omega arith in rw e (length-take-le n (drop a xs) (rw length-drop (omega arith)))

-- the lines that are read, behind these pixels
abbrev after : List ℕ → Read (List ℕ) → Read (List ℕ)
after cs v = then_read v (λ rest r. found ((cs ++ rest), r))

-- a + b rows are a rows, and then b
rows_add :
    (compression : ℕ) (body : List ℕ) (n a b at : ℕ) →
    line_answer (rows_from compression body n (a + b) at) ≡ line_answer (then_read (rows_from compression body n a at) (λ rs q. rows_from compression body n b q))
unfolding rows_from
rows_add compression body n zero b at = let e : 0 + b ≡ b = omega arith in rw e
rows_add compression body n (suc a) b at =
    let e : suc a + b ≡ suc (a + b) = omega arith in
    rw e (go (λ q. rows_add compression body n a b q) (row_read (row_of compression body at n)))
  where
    past : (bs : List ℕ) (v : Read (List (List ℕ))) →
        line_answer (then_read (onward bs v) (λ rs q. rows_from compression body n b q)) ≡ line_answer (then_read v (λ rs q. rows_from compression body n b q))
    past bs (found (rs, q)) = refl
    past bs (refused k p) = refl

    go :
        ((q : ℕ) → line_answer (rows_from compression body n (a + b) q) ≡ line_answer (then_read (rows_from compression body n a q) (λ rs q. rows_from compression body n b q))) →
        (v : Read (List ℕ)) →
        line_answer (then_read v (λ bs q. onward bs (rows_from compression body n (a + b) q)))
        ≡ line_answer (then_read (then_read v (λ bs q. onward bs (rows_from compression body n a q))) (λ rs q. rows_from compression body n b q))
    go ih (found (bs, q)) = answered_onward bs (rows_from compression body n (a + b) q) ∙ ih q ∙
        sym (past bs (rows_from compression body n a q))
    go ih (refused k p) = refl

module _ (pixels : Pixels) (compression n rows : ℕ) (body : List ℕ) where
  -- the lines from a place are told of as their rows are
  lines_answered : (h at : ℕ) →
      line_answer (rows_from compression body n (h * rows) at) ≡ line_answer (lines_with pixels compression n rows body h at)
  unfolding rows_from lines_with
  lines_answered zero at = rw (zero-mul rows)
  lines_answered (suc h) at =
      let e : suc h * rows ≡ rows + h * rows = omega (arith, suc-mul h rows) in
      rw e (rows_add compression body n rows (h * rows) at ∙
      go (λ q. lines_answered h q) (rows_from compression body n rows at))
    where
      past : (cs : List ℕ) (v : Read (List ℕ)) → line_answer v ≡ line_answer (after cs v)
      past cs (found (rest, r)) = refl
      past cs (refused k p) = refl

      go :
          ((q : ℕ) → line_answer (rows_from compression body n (h * rows) q) ≡ line_answer (lines_with pixels compression n rows body h q)) →
          (v : Read (List (List ℕ))) →
          line_answer (then_read v (λ rs q. rows_from compression body n (h * rows) q))
          ≡ line_answer (then_read (then_read v (λ rs q. found (
            (pixels rs),
            q,
          ))) (λ cs q. after cs (lines_with pixels compression n rows body h q)))
      go ih (found (rs, q)) = ih q ∙ past (pixels rs) (lines_with pixels compression n rows body h q)
      go ih (refused k p) = refl

  -- what was judged of a frame's rows
  module _ (h k t : ℕ) (r : Answer ℕ) (j : r ≡ line_answer (rows_from compression body k t 0)) (e : k ≡ n) (l : t ≡ h * rows) where
    pub frame_answered : r ≡ line_answer (lines_with pixels compression n rows body h 0)
    frame_answered = (rw (e, l) at j) ∙ lines_answered h 0

    pub frame_judged : (q : ℕ) → r ≡ Ok q → IsRead (lines_with pixels compression n rows body h 0)
    frame_judged q d = answered_next (lines_with pixels compression n rows body h 0) r frame_answered q d

    pub frame_told : (a : Answer ℕ) → r ≡ a → a ≡ line_answer (lines_with pixels compression n rows body h 0)
    frame_told a d = sym d ∙ frame_answered

    pub frame_stands : (o : Refusal) → r ≡ Err o → (old : List ℕ) → old ≡ bytes_after (lines_with pixels compression n rows body h 0) old
    frame_stands o d old = answered_refusal (lines_with pixels compression n rows body h 0) o old (sym frame_answered ∙ d)

    module _ (m : ℕ) (c : rows ≡ m) (old : List ℕ) where
      pub frame_read_lem :
          (new : List ℕ) (q p : ℕ) → r ≡ Ok q → lines_with pixels compression n rows body h 0 ≡ found (new, p) →
          (Ok q ≡ line_answer (lines_with pixels compression n m body h 0)) ×
          (new ≡ bytes_after (lines_with pixels compression n m body h 0) old)
      frame_read_lem new q p d i = rw (← c) (frame_told (Ok q) d, sym (ap (λ v. bytes_after v old) i))

      pub frame_refusal :
          (o : Refusal) → r ≡ Err o →
          (Err o ≡ line_answer (lines_with pixels compression n m body h 0)) ×
          (old ≡ bytes_after (lines_with pixels compression n m body h 0) old)
      frame_refusal o d = rw (← c) (frame_told (Err o) d, frame_stands o d old)

  -- where lines are left, the first of them is read, and then the others
  lines_once :
      (h y q : ℕ) → y < h →
      lines_with pixels compression n rows body (h - y) q
      ≡ then_read (line_with pixels compression n rows body q) (λ cs p. after cs (lines_with pixels compression n rows body (h - (y + 1)) p))
  unfolding lines_with
  lines_once h y q l = let e : h - y ≡ suc (h - (y + 1)) = omega arith in rw e

  lines_none : (h y q : ℕ) → h ≤ y → lines_with pixels compression n rows body (h - y) q ≡ found ([], q)
  unfolding lines_with
  lines_none h y q l = let e : h - y ≡ 0 = omega arith in rw e

-- y lines stand in the frame, and with those that are read from q on they are all the lines
pub record Drawn (pixels : Pixels) (compression n w rows : ℕ) (body : List ℕ) (h y q : ℕ) (frame : List ℕ) : Type 0 where
  pub left : List ℕ
  pub end : ℕ
  pub to_come_lem : lines_with pixels compression n rows body (h - y) q ≡ found (left, end)
  pub whole : lines_with pixels compression n rows body h 0 ≡ found ((take (y * w) frame ++ left), end)

-- the number of a frame's rows
pub frame_rows_fit : (h rows : ℕ) → h ≤ 65535 → rows ≤ 9 → Fits w64 (h * rows)
frame_rows_fit h rows a b = omega (arith, mul-le-mul_left {m = rows} {n = 9} h b)

-- a line lies inside the frame
module _ (y h w len : ℕ) (l : y < h) (e : len ≡ w * h) where
  pub line_inside : y * w + w ≤ len
  line_inside = omega (arith, row_room y h w l, mul_comm w h)

  module _ (f : len < 2 ^ 64) where
    pub line_from_fits : Fits w64 (y * w)
    line_from_fits = omega (arith, line_inside)

    pub line_to_fits : Fits w64 (y * w + w)
    line_to_fits = omega (arith, line_inside)

module _ (pixels : Pixels) (compression n w rows : ℕ) (body : List ℕ) (h : ℕ) where
  pub drawn_start : (frame : List ℕ) → IsRead (lines_with pixels compression n rows body h 0) →
      Drawn pixels compression n w rows body h 0 0 frame
  drawn_start frame i = go (lines_with pixels compression n rows body h 0) refl i
    where
      go : (v : Read (List ℕ)) → lines_with pixels compression n rows body h 0 ≡ v → IsRead v →
          Drawn pixels compression n w rows body h 0 0 frame
      go (found (cs, p)) e i = let z : h - 0 ≡ h = omega arith in record { left = cs; end = p; to_come_lem = rw z e; whole = rw (zero-mul w) e }
      go (refused k p) e i = absurd i

  module _ (y q : ℕ) (frame : List ℕ) (d : Drawn pixels compression n w rows body h y q frame) where
    module _ (l : y < h) where
      first :
          then_read (line_with pixels compression n rows body q) (λ cs p. after cs (lines_with pixels compression n rows body (h - (y + 1)) p))
          ≡ found (d.left, d.end)
      first = rw (lines_once pixels compression n rows body h y q l) at d.to_come_lem

      pub drawn_line : IsRead (rows_from compression body n rows q)
      drawn_line = go (rows_from compression body n rows q) first
        where
          go :
              (v : Read (List (List ℕ))) →
              then_read (then_read v (λ rs q. found (
                (pixels rs),
                q,
              ))) (λ cs p. after cs (lines_with pixels compression n rows body (h - (y + 1)) p))
              ≡ found (d.left, d.end) → IsRead v
          go (found (rs, s)) f = tt
          go (refused k p) f = let z : ◌≡◌ {A = ℕ} 0 1 = cc in absurd (omega arith)

      drawn_more :
          (p : ℕ) (new tail : List ℕ) → y * w + w ≤ length frame → length new ≡ w →
          line_with pixels compression n rows body q ≡ found (new, p) →
          Drawn pixels compression n w rows body h (y + 1) p (take (y * w) frame ++ (new ++ tail))
      drawn_more p new tail m long i = go (lines_with pixels compression n rows body (h - (y + 1)) p) refl (rw i at first)
        where
          so_far : take ((y + 1) * w) (take (y * w) frame ++ (new ++ tail)) ≡ take (y * w) frame ++ new
          so_far =
              let a : length (take (y * w) frame) ≡ y * w = length-take-le (y * w) frame (omega arith) in
              let b : length (take (y * w) frame ++ new) ≡ (y + 1) * w =
              omega (arith, length-append (take (y * w) frame) new, add-mul y 1 w, one-mul w) in
              ap (λ (xs : List ℕ). take ((y + 1) * w) xs) (sym (append_assoc (take (y * w) frame) new tail)) ∙
              take_at (take (y * w) frame ++ new) tail ((y + 1) * w) b

          go :
              (v : Read (List ℕ)) → lines_with pixels compression n rows body (h - (y + 1)) p ≡ v →
              after new v ≡ found (d.left, d.end) →
              Drawn pixels compression n w rows body h (y + 1) p (take (y * w) frame ++ (new ++ tail))
          go (found (rest, r)) u f =
              let x : d.left ≡ new ++ rest = sym (one_value f) in
              let z : d.end ≡ r = sym (one_place f) in
              record {
                left = rest;
                end = r;
                to_come_lem = u;
                whole = rw (so_far, append_assoc (take (y * w) frame) new rest) (rw (x, z) at d.whole);
              }
          go (refused k s) u f = let z : ◌≡◌ {A = ℕ} 0 1 = cc in absurd (omega arith)

      -- a line that was written to its part of the frame
      pub drawn_put :
          (p : ℕ) (new : List ℕ) → length frame ≡ w * h → length new ≡ length (mid_of (y * w) (y * w + w - y * w) frame) →
          line_with pixels compression n rows body q ≡ found (new, p) →
          Drawn pixels compression n w rows body h (y + 1) p (put_mid (y * w) (y * w + w - y * w) frame new)
      drawn_put p new e kept i =
          let room = line_inside y h w (length frame) l e in
          drawn_more p new _ room (kept ∙ part_long (y * w) w frame room) i

    pub drawn_end : y ≤ h → h ≤ y → length frame ≡ w * h → lines_with pixels compression n rows body h 0 ≡ found (frame, q)
    drawn_end a b l =
        let none : ◌≡◌ {A = Read (List ℕ)} (found ([], q)) (found (d.left, d.end)) =
        rw (lines_none pixels compression n rows body h y q b) at d.to_come_lem in
        let x : d.left ≡ [] = sym (one_value none) in
        let z : d.end ≡ q = sym (one_place none) in
        let e : y ≡ h = omega arith in
        let u : length frame ≤ y * w = rw e (omega (arith, mul_comm w h)) in
        let v : lines_with pixels compression n rows body h 0 ≡ found ((take (y * w) frame ++ []), q) = rw (x, z) at d.whole in
        v ∙ rw (append-nil (take (y * w) frame), take_all (y * w) frame u)

pub ruleset drawing = (drawn_start, drawn_line, drawn_put, drawn_end, line_inside, line_from_fits, line_to_fits)
