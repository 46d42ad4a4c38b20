-- A row as the writer writes it, packed or plain, reads back as the row and grows by no more than a packed one.
use Rattle.std.specs.Prelude.{ℕ, ◌+◌, ◌≤◌, ◌≡◌, List, ◌++◌, Bool, true, false, length, eqb}
use Rattle.std.proofs.Common.{arith}
use Rattle.iff_name.specs.Name.{pick}
use Rattle.byterun_row.specs.ByteRun.{filled, plain_row, unpack_row, row_of}
use Rattle.byterun_row.proofs.laws.Packing.{plain_stands, packs_unpack}
use Rattle.byterun_pack.specs.Pack.{packed, most_for}
use Rattle.byterun_pack.proofs.laws.Packed.{packed_unpacks, packed_short}
use Rattle.byterun_pack.specs.Written.{written_row}

-- from any place in any BODY it is read as the row, and the next row starts where it ends
pub written_reads :
    (compression : ℕ) (row pre rest : List ℕ) →
    row_of compression (pre ++ (written_row compression row ++ rest)) (length pre) (length row) ≡ filled row (length pre + length (written_row compression row))
written_reads compression row pre rest = go (eqb compression 0)
  where
    go :
        (t : Bool) →
        pick t (plain_row (pre ++ (pick t row (packed row) ++ rest)) (length pre) (length row)) (unpack_row (pre ++ (pick t row (packed row) ++ rest)) (length pre) (length row))
        ≡ filled row (length pre + length (pick t row (packed row)))
    go true = plain_stands row pre rest
    go false = packs_unpack (packed row) row (packed_unpacks row) pre rest

pub written_short : (compression : ℕ) (row : List ℕ) → length (written_row compression row) ≤ most_for (length row)
written_short compression row = go (eqb compression 0)
  where
    go : (t : Bool) → length (pick t row (packed row)) ≤ most_for (length row)
    go true = omega arith
    go false = packed_short row
