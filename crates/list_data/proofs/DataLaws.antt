-- Where the extent by a record's number lies, and that the part of the file there is the chunk's data.
use Rattle.std.proofs.Common.{◌≡◌, ℕ, ◌+◌, ◌-◌, ◌≤◌, List, take, drop, sym, ap, ◌∙◌, arith}
use Rattle.std.proofs.Math.Seq.{slice}
use Rattle.std.specs.Prelude.{Ok}
use Rattle.iff_grammar.specs.Words.{Bytes}
use Rattle.iff_grammar.proofs.laws.Words.{slice_take}
use Rattle.iff_refusal.specs.Numbers.{Answer}
use Rattle.list_spec.specs.declared.Record.{Record}
use Rattle.list_spec.specs.declared.Extent.{Extent}
use Rattle.list_spec.specs.Records.{record_of}
use Rattle.list_spec.specs.Contents.{data_of, part_in, extent_of, Lies}
use Rattle.list_spec.proofs.laws.Data.{extent_lies, record_inside}

module _ (s : List ℕ) (b : Bytes s) (i : ℕ) where
  pub extent_fits : (r : Record) → Ok r ≡ record_of s i → r.place + 8 + r.size ≤ 16777216
  extent_fits r e = let h = record_inside s b i r e in omega arith

  pub extent_at : (x : Answer Extent) → x ≡ extent_of s i → Lies s (part_in x).from (part_in x).to (data_of s i)
  extent_at x e = rw e (extent_lies s b i)

pub part_data : (s : List ℕ) (x : Extent) (d : List ℕ) → Lies s x.from x.to d → take (x.to - x.from) (drop x.from s) ≡ d
part_data s x d h =
    let j : x.from + (x.to - x.from) ≡ x.to = omega (arith, h.order) in
    sym (slice_take s x.from (x.to - x.from)) ∙ ap (λ (k : ℕ). slice x.from k s) j ∙ h.same

pub ruleset extent_laws = (extent_fits, extent_at)
