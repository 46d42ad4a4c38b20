-- The name is put, and the size behind it.
use Rattle.write_form.proofs.Chunks.{chunk_laws}
use borrow.Author.Rules.{rules}
use Rattle.write_form.proofs.put_head.Goals as goal

pub returns : goal.returns
returns c = search (chunk_laws, rules)
