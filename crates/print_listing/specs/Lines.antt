-- 01 "Examples": what the program prints for a file: the lines of its answer, then six lines for each record.
use Rattle.std.specs.Prelude.{ℕ, zero, suc, List, [], ◌++◌}
use Rattle.iff_tree.specs.Judge.{check_of}
use Rattle.list_spec.specs.declared.Record.{Record}
use Rattle.print_line.specs.Text.{record_text, refusal_text, head_text}
use Rattle.list_spec.specs.Records.{record_of, count_of}
use Rattle.ilbm_count.specs.Count as Count
use Rattle.iff_refusal.specs.Numbers.{Answer, number_of}
use Rattle.iff_tree.specs.declared.Accepted.{Accepted}
use Rattle.std.specs.Prelude.{Ok, Err}

-- how many pictures the file has
abbrev pub pictures_in : Answer ℕ → ℕ
pictures_in (Ok n) = n
pictures_in (Err r) = 0

abbrev pub pictures_of : List ℕ → ℕ
pictures_of s = pictures_in (Count.count_of s)

-- the lines that stand first: "A refusal prints the first two lines only."
abbrev pub verdict_lines : List ℕ → Answer Accepted → List ℕ
verdict_lines s (Ok v) = head_text v.chunks v.end v.trailing (pictures_of s)
verdict_lines s (Err r) = refusal_text (number_of r.reason) r.place

abbrev pub answer_lines : List ℕ → List ℕ
answer_lines s = verdict_lines s (check_of s)

abbrev pub record_lines : Record → List ℕ
record_lines r = record_text r.number r.level r.kind r.name.code r.place r.size

-- the lines of one record of a file, none if it has no such record
abbrev pub listed_lines : Answer Record → List ℕ
listed_lines (Ok r) = record_lines r
listed_lines (Err r) = []

-- "The last six lines come once per chunk": those of n records, from the number m on
unfoldable pub lines_from : List ℕ → ℕ → ℕ → List ℕ
lines_from s m zero = []
lines_from s m (suc n) = listed_lines (record_of s m) ++ lines_from s (suc m) n

-- all that is printed for a file; a refused one has no records
abbrev pub printed : List ℕ → List ℕ
printed s = answer_lines s ++ lines_from s 0 (count_of s)
