-- A row as a writer puts it into a BODY, by either compression, is read back as it was. A writer needs no more of the packer than this and
-- `packed_short`.
use Rattle.std.specs.Prelude.{ℕ, List, eqb}
use Rattle.iff_name.specs.Name.{pick}
use Rattle.byterun_pack.specs.Pack.{packed}

-- the bytes of a row by the header's compression: 0 is plain, anything else ByteRun1
abbrev pub written_row : ℕ → List ℕ → List ℕ
written_row compression row = pick (eqb compression 0) row (packed row)
