-- What the program prints for the bytes at standard input.
use Rattle.std.specs.Prelude.{ℕ, cond, List, nat_le, length}
use Rattle.print_line.specs.Text.{refusal_text}
use Rattle.print_listing.specs.Lines.{printed}

-- the listing of a file, or a refusal if it is longer than 65,536 bytes
abbrev pub output_of : List ℕ → List ℕ
output_of s = cond (nat_le (length s) 65536) (printed s) (refusal_text 40 0)
