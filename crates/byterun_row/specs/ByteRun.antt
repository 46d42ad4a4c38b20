-- One plane row, read from a place in a BODY: plain, or packed by ByteRun1.
use Rattle.std.specs.Prelude.{ℕ, zero, suc, ◌+◌, ◌-◌, List, [], ◌++◌, length, get_or, take, drop, replicate, ltb, leb, eqb}
use Rattle.iff_name.specs.Name.{pick}
use Rattle.byterun_row.specs.declared.Code.{Code}
use Rattle.byterun_row.specs.declared.Code.TheVariants.{Missing, Skip, Copy, Repeat, Long, Cut}
use Rattle.iff_refusal.specs.declared.Reason.TheVariants.{BodyEnds, RowOverstepped}
use Rattle.iff_refusal.specs.Numbers.{Answer, refusing}
use Rattle.std.specs.Prelude.{Ok}

-- What reading a row comes to: the row's bytes and the place after them, a copy or repeat at that place that oversteps the row,
-- or the place at which the BODY ends too early.
pub data Row : Type 0 where
  filled : List ℕ → ℕ → Row
  over : ℕ → Row
  short : ℕ → Row

-- A run of `count` bytes whose code byte at i has `tail` bytes after it. "At one code byte 27 comes before 26."
abbrev pub fitted : List ℕ → ℕ → ℕ → ℕ → ℕ → Code → Code
fitted body i left count tail run = pick (ltb left count) Long (pick (ltb (length body - (i + 1)) tail) Cut run)

-- "A code 0 to 127 copies code+1 bytes; 129 to 255 repeats the next byte 257-code times; 128 does nothing."
abbrev pub code_for : List ℕ → ℕ → ℕ → ℕ → Code
code_for body i left c =
    pick (eqb c 128) Skip
    (pick (ltb c 128) (fitted body i left (c + 1) (c + 1) (Copy (c + 1)))
    (fitted body i left (257 - c) 1 (Repeat (get_or body (i + 1) 0) (257 - c))))

-- what the code byte at i asks for, where `left` bytes of the row are left
unfoldable pub code_of : List ℕ → ℕ → ℕ → Code
code_of body i left = pick (ltb i (length body)) (code_for body i left (get_or body i 0)) Missing

-- the row that starts with these bytes
abbrev pub prepend : List ℕ → Row → Row
prepend bs (filled cs q) = filled (bs ++ cs) q
prepend bs (over q) = over q
prepend bs (short q) = short q

-- A code at i carried out, where `more` reads what is left of the row from a place. 26 and 27 name the place of the code byte, or the
-- BODY's end if none is left.
abbrev pub on_code : List ℕ → ℕ → ℕ → (ℕ → ℕ → Row) → Code → Row
on_code body i left more Missing = short (length body)
on_code body i left more Skip = more (i + 1) left
on_code body i left more (Copy k) = prepend (take k (drop (i + 1) body)) (more (i + 1 + k) (left - k))
on_code body i left more (Repeat b k) = prepend (replicate k b) (more (i + 2) (left - k))
on_code body i left more Long = over i
on_code body i left more Cut = short i

-- `left` bytes from i on, by at most `fuel` code bytes. "A row ends the moment it is full."
unfoldable pub unpack_by : ℕ → List ℕ → ℕ → ℕ → Row
unpack_by zero body i left = pick (ltb 0 left) (short (length body)) (filled [] i)
unpack_by (suc fuel) body i left =
    pick (ltb 0 left) (on_code body i left (λ j m. unpack_by fuel body j m) (code_of body i left)) (filled [] i)

-- A row of n bytes packed by ByteRun1, from `at`. Every code byte is one byte of the BODY, so the BODY's length is fuel enough.
unfoldable pub unpack_row : List ℕ → ℕ → ℕ → Row
unpack_row body at n = unpack_by (length body) body at n

-- A plain row of n bytes, from `at`; 26 names the row's start.
unfoldable pub plain_row : List ℕ → ℕ → ℕ → Row
plain_row body at n = pick (leb n (length body - at)) (filled (take n (drop at body)) (at + n)) (short at)

-- A row by the header's compression: 0 is plain, anything else ByteRun1.
abbrev pub row_of : ℕ → List ℕ → ℕ → ℕ → Row
row_of compression body at n = pick (eqb compression 0) (plain_row body at n) (unpack_row body at n)

-- what is told of a row
abbrev pub answer_of : Row → Answer ℕ
answer_of (filled bs q) = Ok q
answer_of (over q) = refusing RowOverstepped q
answer_of (short q) = refusing BodyEnds q

-- what a row's bytes are after it was read over `old`: a refusal changes nothing
abbrev pub bytes_after : Row → List ℕ → List ℕ
bytes_after (filled bs q) old = bs
bytes_after (over q) old = old
bytes_after (short q) old = old

-- a row that was read whole
abbrev pub IsFull : Row → Type 0
IsFull (filled bs q) = Unit
IsFull (over q) = ⊥
IsFull (short q) = ⊥
