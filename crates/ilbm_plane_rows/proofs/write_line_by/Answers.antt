-- `write_line_by` meets its contract: the rows stand in the BODY or in the buffer, and the pixels are gathered from those of the planes.
use borrow.Author.Rules.{rules}
use Rattle.ilbm_plane_rows.proofs.Lines.{lines}
use Rattle.ilbm_plane_rows.proofs.Plain.{plain}
use Rattle.ilbm_plane_rows.proofs.write_line_by.Goals as goal

pub gather-requires-clause-planes_bound : goal.gather-requires-clause-planes_bound
gather-requires-clause-planes_bound c = (search rules, search (lines, plain, rules), search rules)

pub returns-then-at-body : goal.returns-then-at-body
returns-then-at-body c = search (lines, plain, rules)

pub returns : goal.returns
returns c = search (lines, plain, rules)
