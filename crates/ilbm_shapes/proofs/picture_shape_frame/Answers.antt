-- Without a BODY it is 25; with one, `shape_frame_in_body` has the answer, for the header that counts.
use borrow.Author.Rules.{rules}
use Rattle.ilbm_shapes.proofs.Body.{frame_done}
use Rattle.ilbm_shapes.proofs.picture_shape_frame.Goals as goal

pub returns-in-Some : goal.returns-in-Some
returns-in-Some c = search (frame_done, rules)
