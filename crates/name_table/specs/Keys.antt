-- When two keys are one, and what rows are cleared to.
use Rattle.std.specs.Prelude.{Bool, false, ◌&&◌, ◌==◌}
use Rattle.name_table.specs.declared.row.NameKey.{NameKey}
use Rattle.name_table.specs.declared.row.NamePart.{NamePart}

-- one class and one number
abbrev pub same_pair : NameKey → NameKey → Bool
same_pair a b = a.class == b.class && a.number == b.number

-- the key of zeros
abbrev pub no_key : NameKey
no_key = record { class = 0; number = 0 }

-- the part of zeros
abbrev pub no_part : NamePart
no_part = record { part = record { place = 0; size = 0 }; given = false }
