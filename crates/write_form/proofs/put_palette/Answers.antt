-- Header, bytes and pad are put one behind the other; an empty palette leaves the buffer.
use Rattle.write_form.proofs.Chunks.{palette_put, palette_none}
use borrow.Author.Rules.{rules}
use Rattle.write_form.proofs.put_palette.Goals as goal

pub returns-then-n-ne0 : goal.returns-then-n-ne0
returns-then-n-ne0 c = search (palette_put, rules)

pub returns-else-n-ne0 : goal.returns-else-n-ne0
returns-else-n-ne0 c = search (palette_none, rules)
