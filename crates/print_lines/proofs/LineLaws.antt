-- Texts that are put one behind another from the buffer's start are put as one text: the lines of a record, and those before the records.
use Prim.Native.Nat.{ℕ, ◌+◌}
use mathlib.Core.Path.{◌≡◌, ap, ◌∙◌}
use mathlib.Core.List.{List, ◌++◌, append_assoc}
use native.Mathlib.Omega.{arith}
use lib.ListN.{length, length-append}
use Rattle.iff_name.specs.declared.Kind.{Kind}
use Rattle.print_line.specs.Text.{Puts, Begins, number_line, kind_line, name_line, record_text, refusal_text, head_text}
use Rattle.print_line.specs.Text.{chunk=, level=, at=, size=, chunks=, end=, trailing=, pictures=}

behind : (m e x y : List ℕ) (a r : ℕ) → Begins m x a → Puts m a y e r → Begins e (x ++ y) r
behind m e x y a r h k =
    let l : length (x ++ y) ≡ length x + length y = length-append x y in
    (omega (arith, h.0, k.0), k.1 ∙ ap (λ (t : List ℕ). t ++ y) h.1)

two_behind : (m e x y z : List ℕ) (a r : ℕ) → Begins m x a → Puts m a (y ++ z) e r → Begins e (x ++ y ++ z) r
two_behind m e x y z a r h k = let l : Begins e (x ++ (y ++ z)) r = behind m e x (y ++ z) a r h k in rw (append_assoc x y z) l

-- a text that is put at the buffer's start
pub from_start : (o e x : List ℕ) (r : ℕ) → Puts o 0 x e r → Begins e x r
from_start o e x r h = (omega (arith, h.0), h.1)

pub record_put :
    (o m₁ m₂ m₃ e : List ℕ) (a b c r number level : ℕ) (kind : Kind) (name place size : ℕ) →
    Puts o 0 (number_line chunk= number ++ number_line level= level) m₁ a → Puts m₁ a (kind_line kind) m₂ b → Puts m₂ b (name_line name) m₃ c →
    Puts m₃ c (number_line at= place ++ number_line size= size) e r →
    Begins e (record_text number level kind name place size) r
record_put o m₁ m₂ m₃ e a b c r number level kind name place size p q s t =
    let x = number_line chunk= number ++ number_line level= level in
    let h = behind m₁ m₂ x (kind_line kind) a b (from_start o m₁ x a p) q in
    let k = behind m₂ m₃ (x ++ kind_line kind) (name_line name) b c h s in
    two_behind m₃ e (x ++ kind_line kind ++ name_line name) (number_line at= place) (number_line size= size) c r k t

pub head_put :
    (m₁ m₂ e : List ℕ) (a b r chunks end trailing pictures : ℕ) → Begins m₁ (refusal_text 0 0) a →
    Puts m₁ a (number_line chunks= chunks ++ number_line end= end) m₂ b → Puts m₂ b (number_line trailing= trailing ++ number_line pictures= pictures) e r →
    Begins e (head_text chunks end trailing pictures) r
head_put m₁ m₂ e a b r chunks end trailing pictures p q s =
    let x = refusal_text 0 0 in
    let k = two_behind m₁ m₂ x (number_line chunks= chunks) (number_line end= end) a b p q in
    two_behind m₂ e (x ++ number_line chunks= chunks ++ number_line end= end) (number_line trailing= trailing) (number_line pictures= pictures) b r k s
