-- A scan line with its mask row: the rows of the planes, then the shape as one plane if masking is 1.
use Prim.Native.Nat.{ℕ, ◌+◌}
use mathlib.Core.Path.{◌≡◌, refl, sym}
use mathlib.Core.List.{List, [], append-nil}
use lib.ListN.{length}
use borrow.Author.Tests.{eq-eqb, ne_eqb}
use native.Mathlib.Omega.{arith}
use Rattle.ilbm_spec.specs.declared.BitmapHeader.{BitmapHeader}
use Rattle.ilbm_spec.specs.Rows.{row_length, mask_rows}
use Rattle.write_body.specs.Body.{line_rows, line_bytes, shape_width}
use Rattle.write_plane_row.specs.Put.{put, Room}
use Rattle.write_plane_row.proofs.Buffers.{Split, split_length, Putting, putting_none, putting_room, putting_more, putting_all}

pub masked : (masking : ℕ) → masking ≡ 1 → 1 ≡ mask_rows masking
masked masking e = rw (eq-eqb masking 1 e)

pub unmasked : (masking : ℕ) → (masking ≡ 1 → ⊥) → 0 ≡ mask_rows masking
unmasked masking e = rw (ne_eqb masking 1 e)

pub shape_wide_lem : (b : BitmapHeader) → b.masking ≡ 1 → b.w ≡ shape_width b
shape_wide_lem b e = rw (eq-eqb b.masking 1 e)

pub shape_none : (b : BitmapHeader) → (b.masking ≡ 1 → ⊥) → 0 ≡ shape_width b
shape_none b e = rw (ne_eqb b.masking 1 e)

pub ruleset shape_laws = (masked, unmasked, shape_wide_lem, shape_none)

module _ (b : BitmapHeader) (line shape : List ℕ) (n masks : ℕ) (d : n ≡ row_length b.w) (e : masks ≡ mask_rows b.masking) where
  abbrev pub colour_rows : List ℕ
  colour_rows = line_rows b.compression n line 1 b.planes

  abbrev pub mask_row : List ℕ
  mask_row = line_rows b.compression n shape 1 masks

  colours_first : Split (line_bytes b line shape) colour_rows mask_row
  colours_first = record { is = rw (d, e) }

  mask_last : Split mask_row mask_row []
  mask_last = record { is = sym (append-nil mask_row) }

  pub line_length :
      (colours mask : ℕ) → colours ≡ length colour_rows → mask ≡ length mask_row → colours + mask ≡ length (line_bytes b line shape)
  line_length colours mask f g = let l = split_length (line_bytes b line shape) colour_rows mask_row colours_first in omega arith

  module _ (out : List ℕ) (at : ℕ) (room : Room (line_bytes b line shape) out at) where
    pub colours_room : Room colour_rows out at
    colours_room = putting_room _ _ _ _ _ _ (putting_none _ _ out at refl) room _ _ colours_first

    module _ (q : ℕ) (after : List ℕ) (f : q ≡ at + length colour_rows) (g : after ≡ put out at colour_rows) where
      colours-put : Putting (line_bytes b line shape) out at after q mask_row
      colours-put = putting_more _ _ _ _ _ _ (putting_none _ _ out at refl) room _ _ colours_first q after f g

      pub mask_room : Room mask_row after q
      mask_room = putting_room _ _ _ _ _ _ colours-put room _ _ mask_last

      pub line_put :
          (r : ℕ) (last : List ℕ) → r ≡ q + length mask_row → last ≡ put after q mask_row →
          (r ≡ at + length (line_bytes b line shape)) × (last ≡ put out at (line_bytes b line shape))
      line_put r last h i = putting_all _ _ _ _ _ _ (putting_more _ _ _ _ _ _ colours-put room _ _ mask_last r last h i) room refl
