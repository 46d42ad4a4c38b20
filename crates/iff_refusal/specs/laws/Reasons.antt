-- No two reasons have one number: each is found again by its own. And none has 0.
use Rattle.std.specs.Prelude.{◌≡◌, refl, false, eqb}
use Rattle.std.proofs.Common.{sym, ap, ◌∙◌, arith, ne_eqb}
use Rattle.iff_refusal.specs.declared.Reason.{Reason}
use Rattle.iff_refusal.specs.declared.Reason.TheVariants.{FileTooLong, NotIff, VersionName, HeaderCut, BadName, Misplaced, SizeTooGreat, NoPad}
use Rattle.iff_refusal.specs.declared.Reason.TheVariants.{TooDeep, GroupTooShort, BadType, SecondProp, TableTooShort, NoRecord, IsGroup}
use Rattle.iff_refusal.specs.declared.Reason.TheVariants.{NoPicture, NoHeader, SecondBody, WrongSize, EmptyPicture, NoBody, BodyEnds}
use Rattle.iff_refusal.specs.declared.Reason.TheVariants.{RowOverstepped, WrongLength, BeyondBody, RowLength, NoRoom, WrongFields}
use Rattle.iff_refusal.specs.declared.Reason.TheVariants.{ColourTooGreat, ResultTooLong, InputTooLong, TooManyPlanes, UnknownMasking}
use Rattle.iff_refusal.specs.declared.Reason.TheVariants.{UnknownCompression, NoShape, WrongShape, HoldPlanes}
use Rattle.iff_refusal.specs.Numbers.{number_of, reason_of}

pub found_again : (k : Reason) → reason_of (number_of k) ≡ k
unfolding reason_of
found_again FileTooLong = refl
found_again NotIff = refl
found_again VersionName = refl
found_again HeaderCut = refl
found_again BadName = refl
found_again Misplaced = refl
found_again SizeTooGreat = refl
found_again NoPad = refl
found_again TooDeep = refl
found_again GroupTooShort = refl
found_again BadType = refl
found_again SecondProp = refl
found_again TableTooShort = refl
found_again NoRecord = refl
found_again IsGroup = refl
found_again NoPicture = refl
found_again NoHeader = refl
found_again SecondBody = refl
found_again WrongSize = refl
found_again EmptyPicture = refl
found_again NoBody = refl
found_again BodyEnds = refl
found_again RowOverstepped = refl
found_again WrongLength = refl
found_again BeyondBody = refl
found_again RowLength = refl
found_again NoRoom = refl
found_again WrongFields = refl
found_again ColourTooGreat = refl
found_again ResultTooLong = refl
found_again InputTooLong = refl
found_again TooManyPlanes = refl
found_again UnknownMasking = refl
found_again UnknownCompression = refl
found_again NoShape = refl
found_again WrongShape = refl
found_again HoldPlanes = refl

pub numbered : (k : Reason) → eqb (number_of k) 0 ≡ false
unfolding reason_of
numbered k =
    ne_eqb (number_of k) 0
    (λ e.
    let i : HoldPlanes ≡ k = ap reason_of (sym e) ∙ found_again k in
    let z : 46 ≡ 0 = ap number_of i ∙ e in
    omega arith)
