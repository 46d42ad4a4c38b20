-- `put_word` meets its contract: the letters are the word's bytes before the zeros at its end.
use native.Mathlib.Omega.{arith}
use Rattle.print_line.proofs.Words.{letters_are}
use Rattle.print_line.proofs.put_word.Goals as goal

pub put_bytes-requires : goal.put_bytes-requires
put_bytes-requires c = rw (← letters_are c.args.word c.to_be_bytes.result (omega arith) c.to_be_bytes.ensures) c.requires

pub returns : goal.returns
returns c = rw (letters_are c.args.word c.to_be_bytes.result (omega arith) c.to_be_bytes.ensures) c.put_bytes.ensures
