-- `put_bytes` meets its contract: the bytes stand behind the text, and then the last byte.
use Rattle.print_line.proofs.Words.{bytes_put}
use Rattle.print_line.proofs.put_bytes.Goals as goal

pub returns : goal.returns
returns c =
    let a = c.args in
    rw c.copy_from_slice.ensures.after (bytes_put a.out.now a.bytes.now a.at a.last c.requires)
