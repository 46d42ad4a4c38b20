-- Each way out has its law, from what the tests before it showed.
use mathlib.Core.Path.{sym}
use native.Mathlib.Omega.{arith}
use Rattle.write_picture.proofs.Answers.{fields_right, colours_fit, shape_right, room_0}
use Rattle.write_picture.proofs.write_picture.Goals as goal

pub pow-requires : goal.pow-requires
pow-requires c =
    let few = (fields_right _ _ _ _ c.wrong_fields.ensures c.if-wrong_fields.false).0 in
    colours_fit c.from.result (omega arith)

pub file_sizes-sizes-requires : goal.file_sizes-sizes-requires
file_sizes-sizes-requires c =
    let r = fields_right _ _ _ _ c.wrong_fields.ensures c.if-wrong_fields.false in
    (r.0, r.1, r.2, shape_right _ _ _ c.wrong_shape.ensures c.if-wrong_shape.false)

pub put_file-requires : goal.put_file-requires
put_file-requires c =
    let r = fields_right _ _ _ _ c.wrong_fields.ensures c.if-wrong_fields.false in
    let bits = shape_right _ _ _ c.wrong_shape.ensures c.if-wrong_shape.false in
    let room = room_0 _ _ _ (sym c.file_sizes-sizes.ensures.file) c.if-size-gt16777216.false c.if-out-size.false in
    (r.0, r.1, r.2, bits, c.file_sizes-sizes.ensures.body, room)
