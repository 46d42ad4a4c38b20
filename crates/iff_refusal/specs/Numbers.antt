-- Why a call refuses, and the number that stands for each reason outside: docs/numbers.md has them in words.
use Rattle.std.specs.Prelude.{ℕ, eqb, if◌then◌else◌, Option, Some, None, Result, Ok, Err}
use Rattle.iff_refusal.specs.declared.Reason.{Reason}
use Rattle.iff_refusal.specs.declared.Reason.TheVariants.{FileTooLong, NotIff, VersionName, HeaderCut, BadName, Misplaced, SizeTooGreat, NoPad}
use Rattle.iff_refusal.specs.declared.Reason.TheVariants.{TooDeep, GroupTooShort, BadType, SecondProp, TableTooShort, NoRecord, IsGroup}
use Rattle.iff_refusal.specs.declared.Reason.TheVariants.{NoPicture, NoHeader, SecondBody, WrongSize, EmptyPicture, NoBody, BodyEnds}
use Rattle.iff_refusal.specs.declared.Reason.TheVariants.{RowOverstepped, WrongLength, BeyondBody, RowLength, NoRoom, WrongFields}
use Rattle.iff_refusal.specs.declared.Reason.TheVariants.{ColourTooGreat, ResultTooLong, InputTooLong, TooManyPlanes, UnknownMasking}
use Rattle.iff_refusal.specs.declared.Reason.TheVariants.{UnknownCompression, NoShape, WrongShape, HoldPlanes}
use Rattle.iff_refusal.specs.declared.Refusal.{Refusal}

-- 1 to 12 are of the structure, 13 to 15 and 32 of listing and copying, 20 to 29, 41 to 44 and 46 of pictures, 31 to 35 and 45 of writing,
-- 40 of the listing program.
abbrev pub number_of : Reason → ℕ
number_of FileTooLong = 1
number_of NotIff = 2
number_of VersionName = 3
number_of HeaderCut = 4
number_of BadName = 5
number_of Misplaced = 6
number_of SizeTooGreat = 7
number_of NoPad = 8
number_of TooDeep = 9
number_of GroupTooShort = 10
number_of BadType = 11
number_of SecondProp = 12
number_of TableTooShort = 13
number_of NoRecord = 14
number_of IsGroup = 15
number_of NoPicture = 20
number_of NoHeader = 21
number_of SecondBody = 22
number_of WrongSize = 23
number_of EmptyPicture = 24
number_of NoBody = 25
number_of BodyEnds = 26
number_of RowOverstepped = 27
number_of WrongLength = 28
number_of BeyondBody = 29
number_of RowLength = 31
number_of NoRoom = 32
number_of WrongFields = 33
number_of ColourTooGreat = 34
number_of ResultTooLong = 35
number_of InputTooLong = 40
number_of TooManyPlanes = 41
number_of UnknownMasking = 42
number_of UnknownCompression = 43
number_of NoShape = 44
number_of WrongShape = 45
number_of HoldPlanes = 46

-- "A refusal returns the number and p": what a call answers, its value or a refusal
abbrev pub Answer : Type 0 → Type 0
Answer A = Result A Refusal

abbrev pub refusal : Reason → ℕ → Refusal
refusal r p = record { reason = r; place = p }

abbrev pub refusing : {A : Type 0} → Reason → ℕ → Answer A
refusing r p = Err (refusal r p)

-- the refusal of an answer, if it is one
abbrev pub refusal_in : {A : Type 0} → Answer A → Option Refusal
refusal_in (Ok a) = None
refusal_in (Err r) = Some r

-- what is told of a call that refuses or not: the number and the place, 0 and 0 for no refusal
abbrev pub number_in : Option Refusal → ℕ
number_in None = 0
number_in (Some r) = number_of r.reason

abbrev pub place_in : Option Refusal → ℕ
place_in None = 0
place_in (Some r) = r.place

-- the number of a reason, 0 where a check passes
abbrev pub number_unless : Result (Unit {0}) Reason → ℕ
number_unless (Ok u) = 0
number_unless (Err k) = number_of k

-- the reason that a number stands for; for a number of none the last one
unfoldable pub reason_of : ℕ → Reason
reason_of n =
    if eqb n 1 then FileTooLong else (if eqb n 2 then NotIff else (if eqb n 3 then VersionName else (if eqb n 4 then HeaderCut else
    (if eqb n 5 then BadName else (if eqb n 6 then Misplaced else (if eqb n 7 then SizeTooGreat else (if eqb n 8 then NoPad else
    (if eqb n 9 then TooDeep else (if eqb n 10 then GroupTooShort else (if eqb n 11 then BadType else (if eqb n 12 then SecondProp else
    (if eqb n 13 then TableTooShort else (if eqb n 14 then NoRecord else (if eqb n 15 then IsGroup else (if eqb n 20 then NoPicture else
    (if eqb n 21 then NoHeader else (if eqb n 22 then SecondBody else (if eqb n 23 then WrongSize else (if eqb n 24 then EmptyPicture else
    (if eqb n 25 then NoBody else (if eqb n 26 then BodyEnds else (if eqb n 27 then RowOverstepped else (if eqb n 28 then WrongLength else
    (if eqb n 29 then BeyondBody else (if eqb n 31 then RowLength else (if eqb n 32 then NoRoom else (if eqb n 33 then WrongFields else
    (if eqb n 34 then ColourTooGreat else (if eqb n 35 then ResultTooLong else (if eqb n 40 then InputTooLong else
    (if eqb n 41 then TooManyPlanes else (if eqb n 42 then UnknownMasking else (if eqb n 43 then UnknownCompression else
    (if eqb n 44 then NoShape else (if eqb n 45 then WrongShape else HoldPlanes)))))))))))))))))))))))))))))))))))
