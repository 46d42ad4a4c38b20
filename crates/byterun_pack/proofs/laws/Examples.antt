-- Worked answers: one computed table. The packed rows of 01 stand in theorem_demands/specs/Examples.
use Rattle.std.specs.Prelude.{◌≡◌, refl, [], ◌∷◌}
use Rattle.byterun_pieces.specs.Pieces.{three, same_for, plain_for, piece_of}
use Rattle.byterun_pack.specs.Pack.{pack_by, packed, pack_of, pack_number, length_of}

-- A row of no bytes is 31; 07 07 takes three bytes, and two bytes of room are too few for it.
pub examples :
    (pack_number (pack_of [] 8) ≡ 31)
    × (pack_number (pack_of (0x07 ∷ 0x07 ∷ []) 2) ≡ 32)
    × (length_of (pack_of (0x07 ∷ 0x07 ∷ []) 3) ≡ 3)
unfolding packed pack_by piece_of three same_for plain_for
examples = (refl, refl, refl)
