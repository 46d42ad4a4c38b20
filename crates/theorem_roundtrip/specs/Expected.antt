-- What is told of a file that the writer wrote.
use Rattle.std.specs.Prelude.{ℕ, List, [], ◌∷◌, pos, None}
use Rattle.iff_tree.specs.Judge.{found}
use Rattle.ilbm_spec.specs.declared.Origin.{Origin}
use Rattle.ilbm_spec.specs.declared.Origin.TheVariants.{Own, Absent}
use Rattle.ilbm_spec.specs.declared.BitmapHeader.{BitmapHeader}
use Rattle.ilbm_spec.specs.declared.Picture.{Picture}
use Rattle.ilbm_spec.specs.Rows.{Read}
use Rattle.ilbm_spec.specs.Shapes.{shape_by, Shaped, shaped, shape_asked}
use Rattle.ilbm_spec.specs.Colours.{entry_at, each_colour}
use Rattle.ilbm_spec.specs.Triples.{triples_from, Triples}
use Rattle.theorem_roundtrip.specs.Header.{without_pad}

-- FORM, BMHD and BODY, and CMAP if there is a palette
abbrev pub chunks_for : List ℕ → ℕ
chunks_for [] = 3
chunks_for (x ∷ xs) = 4

-- "CMAP (absent if the palette is empty)"
abbrev pub palette_origin : List ℕ → Origin
palette_origin [] = Absent
palette_origin (x ∷ xs) = Own

-- the picture call: "the same fields but pad1"; GRAB, DEST, SPRT and CAMG are absent
abbrev pub picture_for : BitmapHeader → List ℕ → Picture
picture_for b palette =
    record {
      header = without_pad b;
      header_from = Own;
      palette_from = palette_origin palette;
      grab = record { x = pos 0; y = pos 0 };
      grab_from = Absent;
      destination = record { depth = 0; pad1 = 0; plane_pick = 0; plane_on_off = 0; plane_mask = 0 };
      destination_from = Absent;
      sprite = 0;
      sprite_from = Absent;
      view_mode = 0;
      view_mode_from = Absent;
    }

-- the frame call with its shape: for masking 1 the shape that was handed in, for masking 3 "44, only where the shape is asked", and for the
-- rest what the masking says of the frame
abbrev pub shape_for : BitmapHeader → List ℕ → List ℕ → Read Shaped
shape_for b frame shape = shape_asked b.masking (found (shaped frame (shape_by b.masking b.transparent frame shape), 0))

-- the frame call in colours: there is no CAMG, so the pixels "go through their palette"
abbrev pub colours_for : List ℕ → List ℕ → Read (List ℕ)
colours_for palette frame = found (each_colour (entry_at palette) frame, 0)

-- the triples: "its palette's first 64"
abbrev pub triples_for : List ℕ → Triples
triples_for palette = record { refusal = None; triples = triples_from 0 64 (entry_at palette) }
