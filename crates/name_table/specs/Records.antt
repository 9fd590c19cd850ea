-- The name records of a file, in order, and what they mean.
use Rattle.std.specs.Prelude.{◌≡◌, ℕ, Bool, not, ◌&&◌, List, [], ◌∷◌, ◌++◌, length, is_some, Option, ◌==◌, ◌≢◌}
use Rattle.std.specs.List.{find, count_by, AllByRecursion as Every}
use Rattle.std.specs.Option.{option_map, unwrap_or}
use Rattle.keyed.specs.Firsts.{firsts, EachTwo}

-- a name record: its class, the number that it gives, or none, and its name
pub record Seen : Type 0 where
  pub class : ℕ
  pub given : Option ℕ
  pub name : List ℕ

-- a name with its class, the number that it has, and whether its record gave that
pub record Named : Type 0 where
  pub class : ℕ
  pub number : ℕ
  pub given : Bool
  pub name : List ℕ

-- a record of the class that gives no number
abbrev pub implicit_in : ℕ → Seen → Bool
implicit_in c r = r.class == c && not (is_some r.given)

-- the number that a record gives, or else n
abbrev pub number_or : ℕ → Option ℕ → ℕ
number_or n o = unwrap_or o n

-- a record's name after the records before it: its number is given, or is how many of them are of its class and give none
abbrev pub name_after : List Seen → Seen → Named
name_after before r = record { class = r.class; number = number_or (count_by (implicit_in r.class) before) r.given; given = is_some r.given; name = r.name }

-- the names of records that stand after others
abbrev pub names_after : List Seen → List Seen → List Named
names_after before [] = []
names_after before (r ∷ rs) = name_after before r ∷ names_after (before ++ r ∷ []) rs

-- each record's name, in order
abbrev pub names_of : List Seen → List Named
names_of rs = names_after [] rs

-- of one class, both or none have a number that was given, and they have one number exactly when they have one name
abbrev pub Agrees : Named → Named → Type 0
Agrees a b = a.class ≡ b.class → (a.given ≡ b.given) × (a.number ≡ b.number → a.name ≡ b.name) × (a.name ≡ b.name → a.number ≡ b.number)

-- each two of the records agree
abbrev pub Agree : List Seen → Type 0
Agree rs = EachTwo Agrees (names_of rs)

-- a record after them agrees with each of them
abbrev pub AgreesWith : List Seen → Seen → Type 0
AgreesWith rs r = Every (λ a. Agrees a (name_after rs r)) (names_of rs)

-- whether two names have one class and one number
abbrev pub same_key : Named → Named → Bool
same_key a b = a.class == b.class && a.number == b.number

-- no record before it has its class and number
abbrev pub New : List Seen → Seen → Type 0
New rs r = Every (λ a. a.class ≡ r.class → a.number ≢ (name_after rs r).number) (names_of rs)

-- the pairs of class and number with their names, in order of first coming
abbrev pub pairs : List Seen → List Named
pairs rs = firsts same_key (names_of rs)

-- how many they are
abbrev pub rows_needed : List Seen → ℕ
rows_needed rs = length (pairs rs)

-- whether a name has this class and number
abbrev pub has_key : ℕ → ℕ → Named → Bool
has_key c n a = a.class == c && a.number == n

-- its bytes, where there is one
abbrev pub name_of : Option Named → Option (List ℕ)
name_of o = option_map (λ a. a.name) o

-- the name that a number of the class means
abbrev pub named : List Seen → ℕ → ℕ → Option (List ℕ)
named rs c n = name_of (find (has_key c n) (names_of rs))
