-- The numbers of the faults differ.
use Rattle.std.proofs.Common.{◌≡◌, ℕ, ◌-◌, List, [], ◌∷◌, get_or, sym, refl, ap, ◌∙◌}
use Rattle.tokens.specs.declared.fault.FaultKind.TheVariants.{TooLong, NoMagic, Cut, Wide, NotCarried, OutOfPlace, Version, BadUnit, Reserved, BadString, BadType, Undefined, Reach, Copies, BadList, NameConflict, NoSuchName, BadEnd, Checksum, Value, FewRows}
use Rattle.tokens.specs.declared.fault.FaultKind.{FaultKind}
use Rattle.tokens.specs.Faults.{number_of}
use Rattle.tokens.specs.Laws.{NumbersAreDistinct}

-- the kinds in the order of their numbers
abbrev kinds : List FaultKind
kinds = TooLong ∷ NoMagic ∷ Cut ∷ Wide ∷ NotCarried ∷ OutOfPlace ∷ Version ∷ BadUnit ∷ Reserved ∷ BadString ∷ BadType ∷ Undefined ∷ Reach ∷ Copies ∷ BadList ∷ NameConflict ∷ NoSuchName ∷ BadEnd ∷ Checksum ∷ Value ∷ FewRows ∷ []

-- the kind that has this number
abbrev kind_of : ℕ → FaultKind
kind_of n = get_or kinds (n - 1) TooLong

-- each kind has its own number
kind_again : (k : FaultKind) → kind_of (number_of k) ≡ k
kind_again TooLong = refl
kind_again NoMagic = refl
kind_again Cut = refl
kind_again Wide = refl
kind_again NotCarried = refl
kind_again OutOfPlace = refl
kind_again Version = refl
kind_again BadUnit = refl
kind_again Reserved = refl
kind_again BadString = refl
kind_again BadType = refl
kind_again Undefined = refl
kind_again Reach = refl
kind_again Copies = refl
kind_again BadList = refl
kind_again NameConflict = refl
kind_again NoSuchName = refl
kind_again BadEnd = refl
kind_again Checksum = refl
kind_again Value = refl
kind_again FewRows = refl

-- so no two have one
pub numbers_are_distinct : NumbersAreDistinct
numbers_are_distinct j k e = sym (kind_again j) ∙ ap kind_of e ∙ kind_again k
