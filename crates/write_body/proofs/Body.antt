-- The scan lines of a frame and of its shape, from one to the next.
use Prim.Native.Nat.{ℕ, suc, ◌+◌, ◌-◌, ◌*◌, ◌≤◌, ◌<◌}
use mathlib.Core.Path.{◌≡◌}
use mathlib.Core.List.{List, []}
use lib.ListN.{take, drop}
use lib.Seq.{drop-drop}
use native.Mathlib.Nat.{suc-mul}
use native.Mathlib.Numerals.{add-one}
use native.Mathlib.Omega.{arith}
use Rattle.ilbm_spec.specs.declared.BitmapHeader.{BitmapHeader}
use Rattle.write_body.specs.Body.{line_bytes, shape_width, body_lines, body_bytes}
use Rattle.write_plane_row.proofs.Buffers.{Split}

module _ (b : BitmapHeader) (frame shape : List ℕ) where
  -- the lines from line y on
  abbrev pub lines_from : ℕ → List ℕ
  lines_from y = body_lines b (drop (y * b.w) frame) (drop (y * shape_width b) shape) (b.h - y)

  -- line y, cut from the frame and the shape at these widths
  abbrev pub line_from : ℕ → ℕ → List ℕ
  line_from u y = line_bytes b (take (y * b.w + b.w - y * b.w) (drop (y * b.w) frame)) (take (y * u + u - y * u) (drop (y * u) shape))

  pub lines_all : lines_from 0 ≡ body_bytes b frame shape
  lines_all =
      let e : b.h - 0 ≡ b.h = omega arith in
      let p : 0 * b.w ≡ 0 = omega arith in
      let q : 0 * shape_width b ≡ 0 = omega arith in
      rw (e, p, q)

  pub lines_step : (u y : ℕ) → u ≡ shape_width b → y < b.h → Split (lines_from y) (line_from u y) (lines_from (y + 1))
  unfolding body_lines
  lines_step u y d l =
      let e : b.h - y ≡ suc (b.h - (y + 1)) = omega arith in
      let n : y * b.w + b.w - y * b.w ≡ b.w = omega arith in
      let m : y * u + u - y * u ≡ u = omega arith in
      let p : (y + 1) * b.w ≡ y * b.w + b.w = rw add-one (suc-mul y b.w) in
      let v : ℕ = shape_width b in
      let q : (y + 1) * v ≡ y * v + v = rw add-one (suc-mul y v) in
      record { is = rw (n, m, d, e, p, q, drop-drop b.w (y * b.w) frame, drop-drop v (y * v) shape) }

  pub lines_end : (y : ℕ) → b.h ≤ y → lines_from y ≡ []
  unfolding body_lines
  lines_end y l = let e : b.h - y ≡ 0 = omega arith in rw e
