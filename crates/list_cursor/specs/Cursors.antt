-- A cursor that goes through the chunks of an accepted file in file order, and what holds of it on its way.
use Rattle.std.specs.Prelude.{ℕ, zero, suc, ◌+◌, ◌-◌, ◌%◌, ◌≤◌, ◌≡◌, Bool, true, false, List, [], ◌∷◌, ◌++◌, eqb, length, get_or, set, drop, replicate}
use Rattle.iff_name.specs.Name.{pick, kind_of}
use Rattle.iff_chunk.specs.Chunks.{Chunks, none, leaf, group, Chunk, bytes, count, word}
use Rattle.iff_rules.specs.Rules.{is_group}
use Rattle.iff_tree.specs.Judge.{found, read_file}
use Rattle.iff_grammar.specs.Grammar.{height}
use Rattle.iff_grammar.specs.Read.{Regular}
use Rattle.list_spec.specs.declared.Record.{Record}
use Rattle.list_spec.specs.Records.{records_from, records_of}
use Rattle.list_cursor.specs.declared.Cursor.{Cursor}

-- the cursor at the outermost chunk
abbrev pub first_cursor : Cursor
first_cursor = record { place = 0; number = 0; level = 1; ends = replicate 16 0 }

-- "name (the type for a group)", as the header at p has it
abbrev pub name_at : List ℕ → ℕ → ℕ
name_at s p = pick (is_group (kind_of (word s p))) (word s (p + 8)) (word s p)

-- The record of the chunk of level l and number n at p, as its header has it.
abbrev pub record_at : List ℕ → ℕ → ℕ → ℕ → Record
record_at s l n p =
    record { number = n; level = l; kind = kind_of (word s p); name = record { code = name_at s p }; place = p; size = word s (p + 4) }

-- The level at p, where groups may end that are open up to level l.
unfoldable pub open_level : List ℕ → ℕ → ℕ → ℕ
open_level ends p zero = 0
open_level ends p (suc zero) = 1
open_level ends p (suc (suc l)) = pick (eqb (get_or ends l 0) p) (open_level ends p (suc l)) (suc (suc l))

-- The cursor at the first member of the group at it, whose size is z; behind the group if it has none.
abbrev pub entered : Cursor → ℕ → Cursor
entered cur z = record {
  place = cur.place + 12;
  number = cur.number + 1;
  level = open_level (set cur.ends (cur.level - 1) (cur.place + 8 + z)) (cur.place + 12) (cur.level + 1);
  ends = set cur.ends (cur.level - 1) (cur.place + 8 + z);
}

-- The cursor behind the chunk at it, which has z bytes of data and maybe a pad.
abbrev pub passed : Cursor → ℕ → Cursor
passed cur z = record {
  place = cur.place + 8 + z + z % 2;
  number = cur.number + 1;
  level = open_level cur.ends (cur.place + 8 + z + z % 2) cur.level;
  ends = cur.ends;
}

-- the numbers fit
pub record Enterable (cur : Cursor) (z : ℕ) : Type 0 where
  pub type : cur.place + 12 ≤ 16777216
  pub ends : cur.place + 8 + z ≤ 16777216
  pub low : cur.number ≤ cur.place
  pub level : 1 ≤ cur.level
  pub slot : cur.level ≤ 16

pub record Passable (cur : Cursor) (z : ℕ) : Type 0 where
  pub ends : cur.place + 8 + z + z % 2 ≤ 16777216
  pub low : cur.number ≤ cur.place
  pub deep : cur.level ≤ 17

abbrev pub group_at : List ℕ → Cursor → Bool
group_at s cur = is_group (kind_of (word s cur.place))

-- where the cursor goes from the chunk at it
abbrev pub onward_at : List ℕ → Cursor → Cursor
onward_at s cur = pick (group_at s cur) (entered cur (word s (cur.place + 4))) (passed cur (word s (cur.place + 4)))

-- what is known where a chunk lies
pub record Lies (s : List ℕ) (cur : Cursor) : Type 0 where
  pub short : length s ≤ 16777216
  pub header : cur.place + 8 ≤ length s
  pub type : group_at s cur ≡ true → cur.place + 12 ≤ length s
  pub into : group_at s cur ≡ true → Enterable cur (word s (cur.place + 4))
  pub past : group_at s cur ≡ false → Passable cur (word s (cur.place + 4))

-- Rows of chunks: what is left of the row that a place stands in, then of each row around it, the outermost last. Their bytes:
abbrev pub row_bytes : List Chunks → List ℕ
row_bytes [] = []
row_bytes (F ∷ Fs) = bytes F ++ row_bytes Fs

-- their records, the first of which has number n and stands at p
abbrev pub pending : ℕ → ℕ → List Chunks → List Record
pending n p [] = []
pending n p (F ∷ Fs) = records_from (length Fs + 1) n p F ++ pending (n + count F) (p + length (bytes F)) Fs

-- each is well made, and no group in it is of level 17
abbrev pub Rows : List Chunks → Type 0
Rows [] = Unit {0}
Rows (F ∷ Fs) = Regular F × (length Fs + height F ≤ 16) × Rows Fs

-- the groups that are open end where the rows end
abbrev pub Ends : List ℕ → ℕ → Chunks → List Chunks → Type 0
Ends ends p F [] = Unit {0}
Ends ends p F (G ∷ Fs) = (get_or ends (length Fs) 0 ≡ p + length (bytes F)) × Ends ends (p + length (bytes F)) G Fs

-- a chunk stands here, or the file's last one is passed
abbrev pub Ready : Chunks → List Chunks → Type 0
Ready none [] = Unit {0}
Ready none (G ∷ Fs) = ⊥
Ready (leaf n d p F) Fs = Unit {0}
Ready (group n t G F) Fs = Unit {0}

-- At p the rows F and Fs are what is left of a file whose records are `all`, with the bytes R behind it.
pub record Stands (s R : List ℕ) (all : List Record) (p n l : ℕ) (ends : List ℕ) (F : Chunks) (Fs : List Chunks) : Type 0 where
  pub level : l ≡ length Fs + 1
  pub rows : Rows (F ∷ Fs)
  pub here : drop p s ≡ row_bytes (F ∷ Fs) ++ R
  pub open_ends : Ends ends p F Fs
  pub left : drop n all ≡ pending n p (F ∷ Fs)
  pub low : n ≤ p
  pub slots : length ends ≡ 16

-- The cursor stands at the chunk of its number in an accepted file, or behind the last one.
pub record Located (s : List ℕ) (cur : Cursor) : Type 0 where
  pub tree : Chunk
  pub trailing : List ℕ
  pub row : Chunks
  pub around : List Chunks
  pub accepted : read_file s ≡ found tree
  pub short : length s ≤ 16777216
  pub stands : Stands s trailing (records_of tree) cur.place cur.number cur.level cur.ends row around
  pub ready : Ready row around
