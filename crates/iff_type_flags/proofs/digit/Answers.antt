-- Each return is one case of `digit_of`, chosen by the tests that led there.
use native.Mathlib.Omega.{arith}
use Rattle.iff_type_flags.proofs.FlagLaws.{digit_letter, digit_figure, digit_space, digit_none}
use Rattle.iff_type_flags.proofs.digit.Goals as goal

pub returns-then-b : goal.returns-then-b
returns-then-b c = digit_letter c.args.b c.if-b.true

pub returns-then-b-2 : goal.returns-then-b-2
returns-then-b-2 c = digit_figure c.args.b c.if-b-2.true

pub returns-then-b-eq32 : goal.returns-then-b-eq32
returns-then-b-eq32 c = (digit_space c.args.b c.if-b-eq32.true, omega arith)

pub returns : goal.returns
returns c =
    (digit_none c.args.b c.if-b.false c.if-b-2.false c.if-b-eq32.false, omega arith)
