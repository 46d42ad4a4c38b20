-- The answer of the palette call, its colours as a part of the file.
use Rattle.std.specs.Prelude.{ℕ, ◌+◌, ◌-◌, ◌≤◌, ◌≡◌, List, length, take, drop}
use Rattle.ilbm_spec.specs.Palette.{Palette, palette_answer, palette_source, pointer}
use Rattle.ilbm_cmap.specs.declared.Colours.{Colours}
use Rattle.std.specs.Prelude.{Some, None, Option}

-- a part lies inside the file
abbrev pub PartIn : List ℕ → Option (ℕ × ℕ) → Type 0
PartIn s None = Unit {0}
PartIn s (Some (a, b)) = (a ≤ b) × (b ≤ length s)

-- the bytes of a part, or the default for none
abbrev pub part_or : List ℕ → Option (ℕ × ℕ) → List ℕ → List ℕ
part_or s None default = default
part_or s (Some (a, b)) default = take (b - a) (drop a s)

-- where they begin in memory
abbrev pub part_at : ℕ × ℕ → Option (ℕ × ℕ) → ℕ × ℕ → ℕ × ℕ
part_at file None default = default
part_at file (Some (a, b)) default = (file.0, a + file.1)

-- the answer of the palette call, its colours as a part
pub record ColoursAre (s : List ℕ) (i : ℕ) (c : Colours) : Type 0 where
  pub answer :
      (default : List ℕ) →
      ◌≡◌ {A = Palette} (record { refusal = c.refusal; colours = part_or s c.part default }) (palette_answer s i default)
  pub lies : (file default : ℕ × ℕ) → part_at file c.part default ≡ pointer (palette_source s i) file default
  pub inside : PartIn s c.part
