-- `gather_bytes` meets its contract. The loop's invariant: the pixels of the first j bytes have their colours.
use borrow.Author.Rules.{rules}
use Rattle.ilbm_gather.proofs.Colours.{gathering}
use Rattle.ilbm_gather.proofs.Eights.{gathered_eight}
use Rattle.ilbm_gather.proofs.gather_bytes.Goals as goal

pub loop-j-init : goal.loop-j-init
loop-j-init c = search (gathering, rules)

pub loop-j-preserved : goal.loop-j-preserved
loop-j-preserved c =
    gathered_eight _ _ _ (search rules) _ _ _ _ c.loop-j.invariant c.eight_at.ensures (search rules) c.put_word.ensures
