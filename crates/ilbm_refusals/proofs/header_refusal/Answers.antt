-- The fields are judged, and their being empty counts only beside a BODY.
use borrow.Author.Rules.{rules}
use Rattle.ilbm_refusals.proofs.Laws.{header_fields}
use Rattle.ilbm_refusals.proofs.header_refusal.Goals as goal

pub returns : goal.returns
returns c = search (header_fields, rules)
