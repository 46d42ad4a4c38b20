-- 01 "The palette": what the palette call tells.
use Rattle.std.specs.Prelude.{ℕ, ◌+◌, List, [], length, Option, Some, None}
use Rattle.iff_tree.specs.Judge.{found, refused}
use Rattle.ilbm_spec.specs.Contents.{Located, Property, own, shared, absent}
use Rattle.iff_refusal.specs.declared.Refusal.{Refusal}
use Rattle.iff_refusal.specs.Numbers.{refusal}
use Rattle.ilbm_spec.specs.Pictures.{Viewed, view_of, palette_of_property}

-- a refusal, if any; and the colours
pub record Palette : Type 0 where
  pub refusal : Option Refusal
  pub colours : List ℕ

-- "the CMAP that counts, or the caller's own default where none counts"; "after any refusal, an empty part"
abbrev pub answer_in : Viewed → List ℕ → Palette
answer_in (found c) default = record { refusal = None; colours = palette_of_property c.cmap default }
answer_in (refused k p) default = record { refusal = Some (refusal k p); colours = [] }

abbrev pub palette_answer : List ℕ → ℕ → List ℕ → Palette
palette_answer s i default = answer_in (view_of s i) default

-- "handed back as a part of the slice it came from": the file from a place on, or the default. After a refusal, the file from 0 on.
pub data Source : Type 0 where
  in_file : ℕ → Source
  in_default : Source

abbrev pub source_from : Property → Source
source_from (own x) = in_file (x.place + 8)
source_from (shared q x) = in_file (x.place + 8)
source_from absent = in_default

abbrev pub source_in : Viewed → Source
source_in (found c) = source_from c.cmap
source_in (refused k q) = in_file 0

abbrev pub palette_source : List ℕ → ℕ → Source
palette_source s i = source_in (view_of s i)

-- where a part begins in memory, for a file and a default that begin there: a block, and a place in it
abbrev pub pointer : Source → ℕ × ℕ → ℕ × ℕ → ℕ × ℕ
pointer (in_file p) file default = (file.0, p + file.1)
pointer in_default file default = default

-- Where the palette lies in the file, from a place up to another: 0 and 0 where no CMAP counts, and after a refusal.
pub record Extent : Type 0 where
  pub from : ℕ
  pub to : ℕ

abbrev pub extent_of : Located → Extent
extent_of x = record { from = x.place + 8; to = x.place + 8 + length x.content }

abbrev pub extent_from : Property → Extent
extent_from (own x) = extent_of x
extent_from (shared q x) = extent_of x
extent_from absent = record { from = 0; to = 0 }

abbrev pub extent_in : Viewed → Extent
extent_in (found c) = extent_from c.cmap
extent_in (refused k q) = record { from = 0; to = 0 }

abbrev pub palette_extent : List ℕ → ℕ → Extent
palette_extent s i = extent_in (view_of s i)
