-- Each field lies in the 8 bytes that are required, at the offset that the definition has.
use Rattle.ilbm_fields.proofs.Laws.{destination}
use Rattle.ilbm_fields.proofs.dest_fields.Goals as goal

pub returns : goal.returns
returns c = destination _ _ _ _ c.word_at.ensures c.word_at-2.ensures c.word_at-3.ensures
