-- What a turn reads stands behind what was read before.
use Rattle.std.proofs.Common.{sym, subst, refl, rules}
use Rattle.std.proofs.lemmas.Slice.{take-put_mid}
use Rattle.std.specs.Io.KnownBytes.{Consumes}
use Rattle.print_program.proofs.KnownBytes.{consumes_both, filled}
use Rattle.print_program.proofs.read_full.Goals as goal

pub loop-done-preserved : goal.loop-done-preserved
loop-done-preserved g c =
    let within = c.loop-done.invariant.upper_bound in
    let put = take-put_mid _ _ _ _ _ refl within in
    let front = filled c.loop-done.done c.in_ok-n.n c.loop-done.buffer c.read.new.buf _ put within c.in_ok-n.ensures.bound.0 in
    record {
      upper_bound = search rules;
      room = search rules;
      bytes = subst (Consumes _ _) (sym front) (consumes_both _ _ _ _ _ c.loop-done.invariant.bytes c.in_ok-n.ensures.bytes.0);
    }
