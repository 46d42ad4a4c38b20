-- 22 and 23 come first, so that BMHD has its 20 bytes when its fields are judged.
use borrow.Author.Rules.{rules}
use Rattle.std.proofs.lemmas.Result.{err_from_is_err_and}
use Rattle.ilbm_refusals.proofs.RefusalLaws.{refusal_22, refusal_23, header_room, header_refused, header_passes}
use Rattle.ilbm_refusals.proofs.judge_header.Goals as goal

pub returns-then-c-gt1 : goal.returns-then-c-gt1
returns-then-c-gt1 c = search (refusal_22, rules)

pub returns-then-wrong_size : goal.returns-then-wrong_size
returns-then-wrong_size c = search (refusal_23, rules)

pub bitmap_header-header-requires : goal.bitmap_header-header-requires
bitmap_header-header-requires c = search (header_room, rules)

pub returns-in_err-header_refusal : goal.returns-in_err-header_refusal
returns-in_err-header_refusal c =
    let p = err_from_is_err_and c.from_residual.result c.from_residual.ensures.1 in
    rw (p.1, p.2) (search (header_refused, rules))

pub returns : goal.returns
returns c = search (header_passes, rules)
