-- The colours and the shape of a line from its rows, and of lines from each line: the mask row is read as one plane of the shape's bytes,
-- and where there is none the shape is told by the colours.
use Rattle.std.specs.Prelude.{ℕ, ◌^◌, ◌≡◌, Bool, List, [], ◌∷◌, ◌++◌, eqb, replicate}
use Rattle.std.proofs.Math.Path.{refl}
use Rattle.std.proofs.Common.{sym, length-append, take_at}
use Rattle.std.proofs.Math.Bool.{true, false}
use Rattle.std.proofs.Math.ListN.{length}
use Rattle.std.proofs.lemmas.List.{replicate-append-replicate}
use Rattle.std.proofs.Math.Seq.{drop_at}
use Rattle.iff_name.specs.Name.{pick}
use Rattle.ilbm_spec.specs.declared.BitmapHeader.{BitmapHeader}
use Rattle.ilbm_spec.specs.Rows.{row_length, mask_rows, colours_from, colour_numbers}
use Rattle.ilbm_spec.specs.Shapes.{opaque, shape_by, shape_bits}
use Rattle.write_body.specs.Body.{shape_width}
use Rattle.theorem_roundtrip.proofs.laws.Planes.{plane_rows, rows_count, Below, colours_back_lem}
use Rattle.theorem_roundtrip.proofs.laws.Lines.{rows_of, Makes}

-- ---- lines one after the other

opaque_joins : (transparent : ℕ) (cs ds : List ℕ) → opaque transparent (cs ++ ds) ≡ opaque transparent cs ++ opaque transparent ds
unfolding opaque
opaque_joins transparent [] ds = refl
opaque_joins transparent (c ∷ cs) ds = rw (opaque_joins transparent cs ds)

ones_join : (cs ds : List ℕ) → replicate {A = ℕ} (length (cs ++ ds)) 1 ≡ replicate (length cs) 1 ++ replicate (length ds) 1
ones_join cs ds = rw (length-append cs ds) (sym (replicate-append-replicate {A = ℕ} (length cs) (length ds) 1))

shape_joins :
    (masking transparent : ℕ) (cs ds ms ns : List ℕ) →
    shape_by masking transparent (cs ++ ds) (ms ++ ns) ≡ shape_by masking transparent cs ms ++ shape_by masking transparent ds ns
unfolding shape_by
shape_joins masking transparent cs ds ms ns = go (eqb masking 1) (eqb masking 2)
  where
    go :
        (p q : Bool) →
        pick p (ms ++ ns) (pick q (opaque transparent (cs ++ ds)) (replicate (length (cs ++ ds)) 1))
        ≡ pick p ms (pick q (opaque transparent cs) (replicate (length cs) 1))
        ++ pick p ns (pick q (opaque transparent ds) (replicate (length ds) 1))
    go true q = refl
    go false true = opaque_joins transparent cs ds
    go false false = ones_join cs ds

shape_none : (masking transparent : ℕ) → shape_by masking transparent [] [] ≡ []
unfolding shape_by opaque
shape_none masking transparent = go (eqb masking 1) (eqb masking 2)
  where
    go : (p q : Bool) → pick {A = List ℕ} p [] (pick q [] []) ≡ []
    go true q = refl
    go false true = refl
    go false false = refl

-- ---- one line

module _ (b : BitmapHeader) (line shape : List ℕ) (e : length line ≡ b.w) (l : Below (2 ^ b.planes) line) where
  abbrev planes : List (List ℕ)
  planes = plane_rows (row_length b.w) line 1 b.planes

  abbrev mask : List (List ℕ)
  mask = plane_rows (row_length b.w) shape 1 (mask_rows b.masking)

  line_colours : colour_numbers b.w b.planes (rows_of b line shape) ≡ line
  line_colours =
      rw (take_at planes mask b.planes (rows_count (row_length b.w) line 1 b.planes))
      (colours_back_lem b.w b.planes line e l)

  line_shape :
      length shape ≡ shape_width b → Below 2 shape →
      shape_bits b.w b.planes b.masking b.transparent (rows_of b line shape) ≡ shape_by b.masking b.transparent line shape
  unfolding shape_by
  line_shape f m =
      rw (line_colours, drop_at planes mask b.planes (rows_count (row_length b.w) line 1 b.planes))
      (go (eqb b.masking 1) (eqb b.masking 2) f)
    where
      go :
          (p q : Bool) → length shape ≡ pick p b.w 0 →
          pick p (colours_from 0 b.w (plane_rows (row_length b.w) shape 1 (pick p 1 0)))
          (pick q (opaque b.transparent line) (replicate (length line) 1))
          ≡ pick p shape (pick q (opaque b.transparent line) (replicate (length line) 1))
      go true q g = colours_back_lem b.w 1 shape g m
      go false q g = refl

-- ---- what is read

pub colours_made : (b : BitmapHeader) → Makes b (colour_numbers b.w b.planes) (λ cs ms. cs)
colours_made b = record { none = refl; joined = λ cs ds ms ns. refl; line = λ cs ms e l f m. line_colours b cs ms e l }

pub shape_made :
    (b : BitmapHeader) →
    Makes b (shape_bits b.w b.planes b.masking b.transparent) (shape_by b.masking b.transparent)
shape_made b =
    record {
      none = shape_none b.masking b.transparent;
      joined = λ cs ds ms ns. shape_joins b.masking b.transparent cs ds ms ns;
      line = λ cs ms e l f m. line_shape b cs ms e l f m;
    }
