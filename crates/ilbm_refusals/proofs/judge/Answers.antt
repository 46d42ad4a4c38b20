-- Without a BMHD it is 21; with one, `judge_header` goes on from 22.
use borrow.Author.Rules.{rules}
use Rattle.ilbm_refusals.proofs.RefusalLaws.{refusal_21}
use Rattle.ilbm_refusals.proofs.judge.Goals as goal

pub returns-in-None : goal.returns-in-None
returns-in-None c = search (refusal_21, rules)
