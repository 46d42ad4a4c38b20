-- What a record says of where its chunk lies, beside the chunk's data.
use Rattle.std.specs.Prelude.{ℕ, ◌+◌, ◌≤◌, ◌≡◌, true, false, List, [], length}
use Rattle.std.proofs.Math.Seq.{slice}
use Rattle.iff_rules.specs.Rules.{is_group}
use Rattle.list_spec.specs.declared.Record.{Record}
use Rattle.iff_refusal.specs.Numbers.{Answer}
use Rattle.std.specs.Prelude.{Ok, Err}

-- the chunk of a record lies in the file
abbrev pub Inside : List ℕ → Record → Type 0
Inside s r = (r.place + 8 + r.size ≤ length s) × (length s ≤ 16777216)

-- What is listed of a number, beside the data of that number.
abbrev pub Tells : List ℕ → Answer Record → List ℕ → Type 0
Tells s (Ok r) d =
    Inside s r × (is_group r.kind ≡ false → slice (r.place + 8) (r.place + 8 + r.size) s ≡ d) × (is_group r.kind ≡ true → d ≡ [])
Tells s (Err r) d = d ≡ []
