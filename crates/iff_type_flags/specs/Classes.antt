-- The classes of types, one for each first byte and half of the second, and in a class the slots, one for each three bytes that
-- follow in that half.
use Rattle.std.specs.Prelude.{ℕ, zero, suc, ◌+◌, ◌-◌, ◌*◌, ◌/◌, ◌%◌, ◌<◌, ◌≡◌, List, Bool, true, false, leb, eqb, length, get_or}
use Rattle.iff_name.specs.Name.{both, pick, byte0, byte1, byte2, byte3}
use Rattle.iff_chunk.specs.Chunks.{word, next_at}
use Rattle.iff_rules.specs.Rules.{prop_before}
use Rattle.iff_name.specs.Codes as Codes

-- the place of the chunk after k others, the first of which stands at `from`
unfoldable pub place : List ℕ → ℕ → ℕ → ℕ
place s from zero = from
place s from (suc k) = place s (next_at s from) k

-- the bytes of a type, A to Z, 0 to 9 and the space, as 0 to 36; any other byte as 37
unfoldable pub digit_of : ℕ → ℕ
digit_of b =
    pick (leb 65 b) (pick (leb b 90) (b - 65) 37)
    (pick (leb 48 b) (pick (leb b 57) (b - 22) 37)
    (pick (eqb b 32) 36 37))

-- the class and the slot of a type
unfoldable pub class_of : ℕ → ℕ
class_of t = digit_of (byte0 t) + digit_of (byte1 t) / 19 * 38

unfoldable pub slot_of : ℕ → ℕ
slot_of t = digit_of (byte1 t) % 19 * 1444 + digit_of (byte2 t) * 38 + digit_of (byte3 t)

-- a PROP whose type is of class c stands at p
abbrev pub in_class : ℕ → List ℕ → ℕ → Bool
in_class c s p = both (eqb (word s p) Codes.PROP) (eqb (class_of (word s (p + 8))) c)

-- each PROP of class c among the chunks from `from` on, if it stands before r, is the first of its type
unfoldable pub FreshIn : ℕ → List ℕ → ℕ → ℕ → Type 0
FreshIn c s from r =
    (k : ℕ) → place s from k < r → in_class c s (place s from k) ≡ true → prop_before s from (place s from k) (word s (place s from k + 8)) ≡ false

-- The flags before and after a PROP: those that were set are set, and if b, so is the one at i.
pub record Marked (b : Bool) (i : ℕ) (flags marked : List ℕ) : Type 0 where
  pub size : length marked ≡ length flags
  pub kept : (k : ℕ) → get_or flags k 0 ≡ 1 → get_or marked k 0 ≡ 1
  pub here : b ≡ true → get_or marked i 0 ≡ 1
