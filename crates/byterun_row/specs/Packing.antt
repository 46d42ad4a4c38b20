-- What a packer may write, and how it is read back. Each law puts one literal or one repeat in front of a row that is packed already:
-- `Row-step` reads it, and the rest stands where it stood.
use Rattle.std.specs.Prelude.{ℕ, ◌+◌, ◌≡◌, List, ◌++◌, length}
use Rattle.byterun_row.specs.ByteRun.{filled, unpack_row}

-- `bytes`, from any place in any BODY, unpack to the row and end where the row is full
unfoldable pub Packs : List ℕ → List ℕ → Type 0
Packs bytes row = (pre rest : List ℕ) → unpack_row (pre ++ (bytes ++ rest)) (length pre) (length row) ≡ filled row (length pre + length bytes)
