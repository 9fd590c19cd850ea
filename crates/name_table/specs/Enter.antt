-- One name record more: the names that the rows hold, and how a record enters them.
use Rattle.std.specs.Prelude.{ℕ, Bool, true, false, cond, not, ◌&&◌, ◌||◌, List, [], ◌∷◌, ◌++◌, map, length, is_some, Ok, Err, Result, ◌==◌, nat_eq, nat_lt}
use Rattle.std.specs.List.{count_by, list_any}
use Rattle.std.specs.Str.{bytes_eq}
use Rattle.tokens.specs.declared.fault.FaultKind.{FaultKind}
use Rattle.tokens.specs.declared.fault.FaultKind.TheVariants.{NameConflict, FewRows}
use Rattle.tokens.specs.declared.fault.TokenFault.{TokenFault}
use Rattle.tokens.specs.Parts.{bytes_in}
use Rattle.keyed.specs.declared.table.Entry.{Entry}
use Rattle.keyed.specs.Rows.{table, memory, laid}
use Rattle.names.specs.declared.read.NameFields.{NameFields}
use Rattle.names.specs.Laws.{name_of}
use Rattle.name_table.specs.declared.row.NameKey.{NameKey}
use Rattle.name_table.specs.declared.row.NamePart.{NamePart}
use Rattle.name_table.specs.declared.table.Names.{Names}
use Rattle.name_table.specs.Records.{Seen, Named, number_or, same_key}

-- a row of the table
abbrev pub Row : Type 0
Row = Entry NameKey NamePart

-- the name that a row holds
abbrev pub row_of : List ℕ → Row → Named
row_of file row = record { class = row.key.class; number = row.key.number; given = row.value.given; name = bytes_in file row.value.part }

-- the names that rows hold
abbrev pub shown : List ℕ → List Row → List Named
shown file rows = map (row_of file) rows

-- the names that are held
abbrev pub view : Names → List Named
view n = shown n.file.now (table n.table)

-- the record of the class that these fields were read from, with its name as far as that stands in the file
abbrev pub seen : List ℕ → ℕ → NameFields → Seen
seen file c f = record { class = c; given = f.number; name = name_of file f }

-- whether two tests answer differently
abbrev pub differ : Bool → Bool → Bool
differ true b = not b
differ false b = b

-- one class, and two kinds, or the number with another name, or the name with another number
abbrev pub clash : Named → Named → Bool
clash a b = a.class == b.class && (differ a.given b.given || differ (a.number == b.number) (bytes_eq a.name b.name))

-- whether a row clashes with one of the rows
abbrev pub any_clash : List ℕ → Row → List Row → Bool
any_clash file new rows = list_any (λ row. clash (row_of file row) (row_of file new)) rows

-- which of three comes of a new name: it clashes with a row, is in one, or is in none
abbrev pub decided : {X : Type 0} → List Named → Named → X → X → X → X
decided rows new clashing known fresh = cond (list_any (λ a. clash a new) rows) clashing (cond (list_any (λ a. same_key a new) rows) known fresh)

-- a new name among the rows, of which there may be so many
abbrev pub enter_row : ℕ → List Named → Named → Result (List Named) FaultKind
enter_row most rows new = decided rows new (Err NameConflict) (Ok rows) (cond (nat_lt (length rows) most) (Ok (rows ++ new ∷ [])) (Err FewRows))

-- whether a name is of the class
abbrev pub in_class : ℕ → Named → Bool
in_class c a = a.class == c

-- the record's name, with the number that it gives, or else how many rows of its class there are
abbrev pub next_name : List Named → Seen → Named
next_name rows r = record { class = r.class; number = number_or (count_by (in_class r.class) rows) r.given; given = is_some r.given; name = r.name }

-- one record more: the names after it, or the kind of fault
abbrev pub enter : ℕ → List Named → Seen → Result (List Named) FaultKind
enter most rows r = enter_row most rows (next_name rows r)

-- what a step tells of the record at a place
abbrev pub told_at : {X : Type 0} → ℕ → Result X FaultKind → Result (Unit {0}) TokenFault
told_at at (Ok x) = Ok tt
told_at at (Err k) = Err (record { kind = k; place = at })

-- how many of the rows are of the class
abbrev pub rows_in : ℕ → List Row → ℕ
rows_in c rows = count_by (λ row. nat_eq row.key.class c) rows

-- the row for a record of the class with these fields
abbrev pub laid_row : ℕ → List Row → NameFields → Row
laid_row c rows f = record { key = record { class = c; number = number_or (rows_in c rows) f.number }; value = record { part = f.part; given = is_some f.number } }

-- all rows of the memory after a record: only a name that is in no row takes one, where there is one
abbrev pub memory_after : Names → ℕ → NameFields → List Row
memory_after n c f =
    decided (view n) (next_name (view n) (seen n.file.now c f)) (memory n.table) (memory n.table)
    (laid (memory n.table) (length (table n.table)) (laid_row c (table n.table) f))
