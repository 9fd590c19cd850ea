-- The numbers of the faults.
use Rattle.std.specs.Prelude.{ℕ}
use Rattle.tokens.specs.declared.fault.FaultKind.TheVariants.{TooLong, NoMagic, Cut, Wide, NotCarried, OutOfPlace, Version, BadUnit, Reserved, BadString, BadType, Undefined, Reach, Copies, BadList, NameConflict, NoSuchName, BadEnd, Checksum, Value, FewRows}
use Rattle.tokens.specs.declared.fault.FaultKind.{FaultKind}

-- the number by which a fault is told
abbrev pub number_of : FaultKind → ℕ
number_of TooLong = 1
number_of NoMagic = 2
number_of Cut = 3
number_of Wide = 4
number_of NotCarried = 5
number_of OutOfPlace = 6
number_of Version = 7
number_of BadUnit = 8
number_of Reserved = 9
number_of BadString = 10
number_of BadType = 11
number_of Undefined = 12
number_of Reach = 13
number_of Copies = 14
number_of BadList = 15
number_of NameConflict = 16
number_of NoSuchName = 17
number_of BadEnd = 18
number_of Checksum = 19
number_of Value = 20
number_of FewRows = 21
