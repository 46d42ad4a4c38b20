-- The type, the header of BMHD and its data are put one behind the other.
use Rattle.write_form.proofs.Chunks.{chunk_laws}
use borrow.Author.Rules.{rules}
use Rattle.write_form.proofs.put_header.Goals as goal

pub returns : goal.returns
returns c = search (chunk_laws, rules)
