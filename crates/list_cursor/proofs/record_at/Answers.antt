-- `record_at` meets its contract: a chunk lies at a located cursor, and its header gives the record of the cursor's number.
use borrow.Author.Rules.{rules}
use Rattle.list_cursor.proofs.CursorLaws.{file_laws}
use Rattle.list_cursor.proofs.record_at.Goals as goal

pub header_at-requires : goal.header_at-requires
header_at-requires c = search (file_laws, rules)

pub returns : goal.returns
returns c = search (file_laws, rules)
