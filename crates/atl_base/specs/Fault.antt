-- The numbers and the words of the fault kinds, as a fault's line prints them.
use Rattle.std.specs.Prelude.{ℕ, List, codes}
use Rattle.atl_base.specs.declared.fault.FaultKind.{FaultKind}
use Rattle.atl_base.specs.declared.fault.FaultKind.TheVariants.{Undefined, WrongKind, NoFeature, IntegerRange, DivideByZero, BadPlace, BadBinding, DoubleMatch, ResolveEarly, ResolveName, TargetAccess, TooLong, Cycle}

abbrev pub number_of : FaultKind → ℕ
number_of Undefined = 1
number_of WrongKind = 2
number_of NoFeature = 3
number_of IntegerRange = 4
number_of DivideByZero = 5
number_of BadPlace = 6
number_of BadBinding = 7
number_of DoubleMatch = 8
number_of ResolveEarly = 9
number_of ResolveName = 10
number_of TargetAccess = 11
number_of TooLong = 12
number_of Cycle = 13

abbrev pub word_of : FaultKind → List ℕ
word_of Undefined = codes "Undefined"
word_of WrongKind = codes "WrongKind"
word_of NoFeature = codes "NoFeature"
word_of IntegerRange = codes "IntegerRange"
word_of DivideByZero = codes "DivideByZero"
word_of BadPlace = codes "BadPlace"
word_of BadBinding = codes "BadBinding"
word_of DoubleMatch = codes "DoubleMatch"
word_of ResolveEarly = codes "ResolveEarly"
word_of ResolveName = codes "ResolveName"
word_of TargetAccess = codes "TargetAccess"
word_of TooLong = codes "TooLong"
word_of Cycle = codes "Cycle"
