-- The number of each refusal, and the position where the row breaks, which only one of them has.
use Rattle.std.specs.Prelude.{ℕ}
use Rattle.form.specs.declared.answer.Refusal.{Refusal}
use Rattle.form.specs.declared.answer.Refusal.TheVariants.{TooLong, NotQuantified, BadNames, TooManyPlaces, Captured, OutOfLimits, NotACommand, NothingToRewrite, NoEquality, NoDeclaration, NotAbove, AlreadyFilled, OutputTooShort, WorkTooShort, Broken}

abbrev pub number_of : Refusal → ℕ
number_of TooLong = 1
number_of (Broken p) = 2
number_of NotQuantified = 3
number_of BadNames = 4
number_of TooManyPlaces = 5
number_of Captured = 6
number_of OutOfLimits = 7
number_of NotACommand = 8
number_of NothingToRewrite = 9
number_of NoEquality = 10
number_of NoDeclaration = 11
number_of NotAbove = 12
number_of AlreadyFilled = 13
number_of OutputTooShort = 14
number_of WorkTooShort = 15

abbrev pub position_of : Refusal → ℕ
position_of TooLong = 0
position_of (Broken p) = p
position_of NotQuantified = 0
position_of BadNames = 0
position_of TooManyPlaces = 0
position_of Captured = 0
position_of OutOfLimits = 0
position_of NotACommand = 0
position_of NothingToRewrite = 0
position_of NoEquality = 0
position_of NoDeclaration = 0
position_of NotAbove = 0
position_of AlreadyFilled = 0
position_of OutputTooShort = 0
position_of WorkTooShort = 0
