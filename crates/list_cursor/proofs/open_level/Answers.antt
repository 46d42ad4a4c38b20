-- `open_level` meets its contract: the level that is left at l is the level that is left at the start. The measure is l.
use borrow.Author.Rules.{rules}
use Rattle.list_cursor.proofs.CursorLaws.{open_laws}
use Rattle.list_cursor.proofs.open_level.Goals as goal

pub returns-then-ends-l : goal.returns-then-ends-l
returns-then-ends-l c = search (open_laws, rules)

pub loop-l-preserved : goal.loop-l-preserved
loop-l-preserved c = search (open_laws, rules)

pub returns : goal.returns
returns c = search (open_laws, rules)
