-- The file is its head, CMAP and BODY with its pad; BODY is so short that the sum is no number over 2^64.
use mathlib.Core.Path.{sym}
use Rattle.write_form.proofs.Files.{file_size}
use Rattle.write_form.proofs.file_sizes.Goals as goal

pub returns-clause-file : goal.returns-clause-file
returns-clause-file c = sym (file_size _ _ _ _ _ _ c.palette_size.ensures c.body_len-body.ensures.is)
