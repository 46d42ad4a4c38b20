-- 01 "Clean copy": "The file up to its end, every pad zero, no trailing bytes."
use Rattle.std.specs.Prelude.{ℕ, List, ◌++◌, ltb, length, drop, replicate}
use Rattle.iff_name.specs.Name.{pick}
use Rattle.iff_chunk.specs.Chunks.{Chunks, none, leaf, group, Chunk, before, bytes}
use Rattle.iff_tree.specs.Judge.{Found, found, refused, read_file}
use Rattle.iff_refusal.specs.declared.Reason.TheVariants.{NoRoom}
use Rattle.iff_refusal.specs.Numbers.{Answer, refusing}
use Rattle.std.specs.Prelude.{Ok}

-- the same chunks, "every pad zero"
unfoldable pub zero_pads : Chunks → Chunks
zero_pads none = none
zero_pads (leaf n d p F) = leaf n d (replicate (length p) 0) (zero_pads F)
zero_pads (group n t G F) = group n t (zero_pads G) (zero_pads F)

-- "The file up to its end, every pad zero, no trailing bytes."
abbrev pub clean_bytes : Chunk → List ℕ
clean_bytes c = bytes (zero_pads (before c none))

-- "Success returns the length. Refusals 1 to 12, then 32."; 32 "exactly if the result is longer than the lent buffer"
abbrev pub copy_answer : Found Chunk → ℕ → Answer ℕ
copy_answer (found c) room = pick (ltb room (length (clean_bytes c))) (refusing NoRoom 0) (Ok (length (clean_bytes c)))
copy_answer (refused k p) room = refusing k p

-- the buffer afterwards: "buffer bytes after a result stay", and a refusal changes nothing
abbrev pub copy_buffer : Found Chunk → List ℕ → List ℕ
copy_buffer (found c) out = pick (ltb (length out) (length (clean_bytes c))) out (clean_bytes c ++ drop (length (clean_bytes c)) out)
copy_buffer (refused k p) out = out

abbrev pub copy_of : List ℕ → ℕ → Answer ℕ
copy_of s room = copy_answer (read_file s) room

abbrev pub copied_into : List ℕ → List ℕ → List ℕ
copied_into s out = copy_buffer (read_file s) out
