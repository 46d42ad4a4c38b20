-- 01 "Writing" and 02, Ask 4: the refusals 33, 34, 45, 35 and 32 of a picture that is to be written, and what is told.
use Rattle.std.specs.Prelude.{ℕ, ◌*◌, ◌%◌, ◌^◌, Bool, false, not, List, [], ◌∷◌, ◌++◌, ltb, eqb, length, drop}
use Rattle.iff_name.specs.Name.{either, pick}
use Rattle.ilbm_spec.specs.declared.BitmapHeader.{BitmapHeader}
use Rattle.write_body.specs.Body.{shape_width}
use Rattle.write_form.specs.File.{picture_file}
use Rattle.iff_refusal.specs.declared.Reason.TheVariants.{NoRoom, WrongFields, ColourTooGreat, ResultTooLong, WrongShape}
use Rattle.iff_refusal.specs.declared.Reason.{Reason}
use Rattle.iff_refusal.specs.Numbers.{number_of}
use Rattle.std.specs.Prelude.{Ok, Err, Result}

-- 33: "w or h 0, nPlanes outside 1 to 8, masking .. over 3, compression over 1, palette not a multiple of 3 or over 768 bytes, frame
-- not w times h", of the lengths of the palette and of the frame; masking 1 is what "01's refusal 33 no longer bars"
unfoldable pub wrong_fields : BitmapHeader → ℕ → ℕ → Bool
wrong_fields b palette frame =
    either (eqb b.w 0)
    (either (eqb b.h 0)
    (either (eqb b.planes 0)
    (either (ltb 8 b.planes)
    (either (ltb 3 b.masking)
    (either (ltb 1 b.compression)
    (either (not (eqb (palette % 3) 0))
    (either (ltb 768 palette)
    (not (eqb frame (b.w * b.h))))))))))

-- 34: "a colour number of 2^nPlanes or more"
unfoldable pub colour_over : ℕ → List ℕ → Bool
colour_over most [] = false
colour_over most (c ∷ cs) = either (not (ltb c most)) (colour_over most cs)

-- 45: "a shape with a byte over 1 or of a length other than w times h for masking 1 and 0 for the rest"; as one plane it has numbers
-- under 2
unfoldable pub wrong_shape : BitmapHeader → List ℕ → Bool
wrong_shape b shape = either (not (eqb (length shape) (shape_width b * b.h))) (colour_over 2 shape)

-- 35: "result over 16,777,216 bytes"; 32: "the result is longer than the lent buffer"; "Success returns the length."
abbrev pub answer_for : ℕ → ℕ → Result ℕ Reason
answer_for size room = pick (ltb 16777216 size) (Err ResultTooLong) (pick (ltb room size) (Err NoRoom) (Ok size))

-- "Refusals in order: 33 .., 34 .., 35 .., 32" and "45 after 34", for a buffer of so many bytes
abbrev pub write_of : BitmapHeader → List ℕ → List ℕ → List ℕ → ℕ → Result ℕ Reason
write_of b palette frame shape room =
    pick (wrong_fields b (length palette) (length frame)) (Err WrongFields)
    (pick (colour_over (2 ^ b.planes) frame) (Err ColourTooGreat)
    (pick (wrong_shape b shape) (Err WrongShape)
    (answer_for (length (picture_file b palette frame shape)) room)))

-- the buffer after an answer: the file and what stood after it, or as it was
abbrev pub out_after : Result ℕ Reason → List ℕ → List ℕ → List ℕ
out_after (Ok n) file out = file ++ drop n out
out_after (Err k) file out = out

abbrev pub write_number : Result ℕ Reason → ℕ
write_number (Ok n) = 0
write_number (Err k) = number_of k

abbrev pub length_of : Result ℕ Reason → ℕ
length_of (Ok n) = n
length_of (Err k) = 0
