-- Both fields lie in the 4 bytes that are required, at the offset that the definition has.
use Rattle.ilbm_fields.proofs.Laws.{same_bits, hot_spot}
use Rattle.ilbm_fields.proofs.grab_fields.Goals as goal

pub returns : goal.returns
returns c = hot_spot _ _ _ (same_bits _ _ (record { sfits = c.signed_at.type_inv }) c.signed_at.ensures) (same_bits _ _ (record { sfits = c.signed_at-2.type_inv }) c.signed_at-2.ensures)
