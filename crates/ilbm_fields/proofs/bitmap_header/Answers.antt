-- Each field lies in the 20 bytes that are required, at the offset that the definition has.
use Rattle.ilbm_fields.proofs.Laws.{same_bits, bitmap_header}
use Rattle.ilbm_fields.proofs.bitmap_header.Goals as goal

pub returns : goal.returns
returns c =
    bitmap_header _ _ _ _ _ _ _ _
    c.word_at.ensures
    c.word_at-2.ensures
    (same_bits _ _ (record { sfits = c.signed_at.type_inv }) c.signed_at.ensures)
    (same_bits _ _ (record { sfits = c.signed_at-2.type_inv }) c.signed_at-2.ensures)
    c.word_at-3.ensures
    (same_bits _ _ (record { sfits = c.signed_at-3.type_inv }) c.signed_at-3.ensures)
    (same_bits _ _ (record { sfits = c.signed_at-4.type_inv }) c.signed_at-4.ensures)
