-- 01 "Listing": the data of a file's chunks, defined from its tree, and where a record says that it lies.
use Rattle.std.specs.Prelude.{ℕ, zero, suc, ◌+◌, ◌≤◌, ◌≡◌, Bool, true, false, List, [], ◌∷◌, ◌++◌, length}
use Rattle.std.proofs.Math.Seq.{slice}
use Rattle.iff_chunk.specs.Chunks.{Chunks, none, leaf, group, Chunk, before}
use Rattle.iff_rules.specs.Rules.{is_group}
use Rattle.iff_tree.specs.Judge.{Found, found, refused, read_file}
use Rattle.list_spec.specs.declared.Record.{Record}
use Rattle.list_spec.specs.declared.Extent.{Extent}
use Rattle.list_spec.specs.Records.{record_of}
use Rattle.iff_refusal.specs.declared.Reason.TheVariants.{IsGroup}
use Rattle.iff_refusal.specs.declared.Refusal.{Refusal}
use Rattle.iff_refusal.specs.Numbers.{Answer, refusing, refusal_in}
use Rattle.std.specs.Prelude.{Ok, Err, Option}

-- What a chunk holds: data, if it is a local chunk or a filler, or members, if it is a group.
pub data Content : Type 0 where
  plain : List ℕ → Content
  members : Content

-- the contents in file order, as the records stand
unfoldable pub contents_from : Chunks → List Content
contents_from none = []
contents_from (leaf n d p F) = plain d ∷ contents_from F
contents_from (group n t G F) = members ∷ (contents_from G ++ contents_from F)

-- the data of number i in a list, nothing where there is none
unfoldable pub pick_data : List Content → ℕ → List ℕ
pick_data [] i = []
pick_data (plain d ∷ cs) zero = d
pick_data (members ∷ cs) zero = []
pick_data (plain d ∷ cs) (suc i) = pick_data cs i
pick_data (members ∷ cs) (suc i) = pick_data cs i

abbrev pub data_in : Found Chunk → ℕ → List ℕ
data_in (found c) i = pick_data (contents_from (before c none)) i
data_in (refused k p) i = []

-- "A call hands back a local chunk's data as a part of the file itself; a filler's likewise; .. and an empty part with any refusal."
abbrev pub data_of : List ℕ → ℕ → List ℕ
data_of s i = data_in (read_file s) i

-- Where the data of a record's chunk lies: behind the header, as many bytes as the size says; "15 for a group".
abbrev pub extent_at : Bool → Record → Answer Extent
extent_at true r = refusing IsGroup 0
extent_at false r = Ok (record { from = r.place + 8; to = r.place + 8 + r.size })

-- "it gives 14 for no such record", and a structure refusal before that
abbrev pub extent_in : Answer Record → Answer Extent
extent_in (Ok r) = extent_at (is_group r.kind) r
extent_in (Err r) = Err r

abbrev pub extent_of : List ℕ → ℕ → Answer Extent
extent_of s i = extent_in (record_of s i)

-- "an empty part with any refusal"
abbrev pub part_in : Answer Extent → Extent
part_in (Ok x) = x
part_in (Err r) = record { from = 0; to = 0 }

-- The bytes from a to b are in the file, and they are d.
pub record Lies (s : List ℕ) (a b : ℕ) (d : List ℕ) : Type 0 where
  pub order : a ≤ b
  pub inside : b ≤ length s
  pub same : slice a b s ≡ d

-- What the call on a chunk's data tells: a refusal, if any; and the data.
pub record Data : Type 0 where
  pub refusal : Option Refusal
  pub bytes : List ℕ

abbrev pub data_answer : List ℕ → ℕ → Data
data_answer s i = record { refusal = refusal_in (extent_of s i); bytes = data_of s i }

-- "as a part of the file itself": where the part begins in memory, a block and a place in it, for a file that begins there. The empty
-- part of a refusal begins where the file does.
abbrev pub data_pointer : List ℕ → ℕ → ℕ × ℕ → ℕ × ℕ
data_pointer s i file = (file.0, (part_in (extent_of s i)).from + file.1)
