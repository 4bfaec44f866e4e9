-- What is left of a line that is read field by field.
use Rattle.std.specs.Prelude.{ℕ, List, [], Some, None, Option}
use Rattle.std.specs.Borrow.{Bor}
use Rattle.text.specs.declared.Fields.{Fields}
use Rattle.text.specs.Reading.{cut}

-- the fields of the bytes, if there are any
abbrev pub fields_in : Option (Bor (List ℕ)) → List (List ℕ)
fields_in None = []
fields_in (Some bytes) = cut bytes.now

-- the fields that are still to be read
abbrev pub remaining : Fields → List (List ℕ)
remaining fields = fields_in fields.rest
