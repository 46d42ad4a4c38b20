-- A scan line by the tables of its mode: they make the colours of the definition, so what is told of the one is told of the other.
use native.Mathlib.Omega.{arith}
use borrow.Author.Rules.{rules}
use Rattle.ilbm_spec.specs.Rows.{row_length, rows_in_line}
use Rattle.ilbm_colour_rows.proofs.Same.{same_held, same_palette, same_line}
use Rattle.ilbm_colour_rows.proofs.coloured_row.Goals as goal

pub returns-then-holds-clause-bytes : goal.returns-then-holds-clause-bytes
returns-then-holds-clause-bytes c =
    let s = c.args in
    let same = same_held s.mode s.planes s.palette.now (λ i. omega (arith, c.type_inv.palette i)) _
    c.holds.ensures s.w _ _ c.keep_words-keep.ensures c.set_words-set.ensures c.if-holds.true (search rules) in
    (same_line _ _ same s.compression (row_length s.w) (rows_in_line s.planes s.masking) s.body.now s.start _ s.row.now _
    (c.scan_colour_row.ensures.is, c.scan_colour_row.ensures.bytes)).1

pub returns-else-holds-clause-bytes : goal.returns-else-holds-clause-bytes
returns-else-holds-clause-bytes c =
    let s = c.args in
    let same = same_palette s.mode s.planes s.palette.now (λ i. omega (arith, c.type_inv.palette i)) _
    c.holds.ensures s.w _ _ c.is_half_bright-half.ensures c.palette_words-colours.ensures c.if-holds.false
    (search rules) in
    (same_line _ _ same s.compression (row_length s.w) (rows_in_line s.planes s.masking) s.body.now s.start _ s.row.now _
    (c.scan_colour_row-else-holds.ensures.is, c.scan_colour_row-else-holds.ensures.bytes)).1
