-- What the check accepts is sound, so that it can be counted; what it refuses is passed on.
use Rattle.std.proofs.Common.{arith, rules}
use Rattle.iff_grammar.specs.Words.{Bytes}
use Rattle.iff_walk.specs.laws.Coming.{accepted_sound}
use Rattle.ilbm_count.proofs.count_pictures.Goals as goal

pub count_sound-requires : goal.count_sound-requires
count_sound-requires c =
    let b : Bytes c.args.s.now = λ i. omega (arith, c.type_inv.s i) in
    search (c.in_ok-accepted.was, accepted_sound, rules)
