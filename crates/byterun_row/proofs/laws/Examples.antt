-- A worked row: one computed table. Those of 01 stand in theorem_demands/specs/Examples.
use Rattle.std.specs.Prelude.{◌≡◌, refl, [], ◌∷◌}
use Rattle.byterun_row.specs.ByteRun.{filled, short, code_of, unpack_by, unpack_row}

-- A row of 2 from 01 05 06 80: the last byte belongs to the next row, which ends at the BODY's end.
pub examples :
    (unpack_row (0x01 ∷ 0x05 ∷ 0x06 ∷ 0x80 ∷ []) 0 2 ≡ filled (5 ∷ 6 ∷ []) 3)
    × (unpack_row (0x01 ∷ 0x05 ∷ 0x06 ∷ 0x80 ∷ []) 3 2 ≡ short 4)
unfolding unpack_row unpack_by code_of
examples = (refl, refl)
