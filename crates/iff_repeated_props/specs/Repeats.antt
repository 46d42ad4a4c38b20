-- Which PROPs of a LIST are known to have a type of their own before the walk comes to them: those that stand before a place up to
-- which no PROP has the type of an earlier one.
use Rattle.std.specs.Prelude.{ℕ, ◌+◌, ◌<◌, ◌≡◌, List, false}
use Rattle.iff_name.specs.Name.{kind_of}
use Rattle.iff_name.specs.declared.Kind.TheVariants.{PROP}
use Rattle.iff_chunk.specs.Chunks.{word}
use Rattle.iff_rules.specs.Rules.{prop_before}
use Rattle.iff_type_flags.specs.Classes.{place}

-- the PROP at p, if it stands before r, is the first of its type from `from` on
unfoldable pub Settled : List ℕ → ℕ → ℕ → ℕ → Type 0
Settled s from p r = p < r → kind_of (word s p) ≡ PROP → prop_before s from p (word s (p + 8)) ≡ false

-- so is each PROP among the chunks from `from` on
unfoldable pub Fresh : List ℕ → ℕ → ℕ → Type 0
Fresh s from r = (k : ℕ) → Settled s from (place s from k) r
