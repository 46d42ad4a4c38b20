-- `advance` meets its contract: from a located cursor the walk goes on to a located one.
use borrow.Author.Rules.{rules}
use Rattle.list_cursor.proofs.CursorLaws.{file_laws}
use Rattle.list_cursor.proofs.advance.Goals as goal

pub onward-requires : goal.onward-requires
onward-requires c = search (file_laws, rules)

pub returns : goal.returns
returns c = search (file_laws, rules)
