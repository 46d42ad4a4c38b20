-- `data_extent` meets its contract: the data lies where the extent of the number's record says.
use Rattle.std.proofs.Common.{ap, ◌∙◌, arith}
use Rattle.list_spec.specs.Contents.{extent_in}
use Rattle.list_data.proofs.DataLaws.{extent_at}
use Rattle.list_data.proofs.data_extent.Goals as goal

pub returns-clause-lies : goal.returns-clause-lies
returns-clause-lies c = extent_at c.args.s.now (λ i. omega (arith, c.type_inv.s i)) _ _ (c.extent_in.ensures ∙ ap extent_in c.in_ok-r.ensures)
