-- How a head line is answered, from what its fields tell. The laws that tie this to the answers that are allowed are in
-- proofs/, and the contracts of the public functions speak of those answers alone.
use Rattle.std.specs.Prelude.{◌≡◌, ℕ, Bool, true, List, Some, None, Err, ◌⊎◌, Option, Result}
use Rattle.faults.specs.declared.TextFault.TheVariants.{Form, Number}
use Rattle.faults.specs.declared.PlayFault.{PlayFault}
use Rattle.faults.specs.declared.PlayFault.TheVariants.{Text}
use Rattle.text.specs.Slots.{Lacks}
use Rattle.text.specs.Reading.{cut}

-- no line feed stands in the line, and its fields have the form
abbrev pub FieldsFormed : (List (List ℕ) → Bool) → List ℕ → Type 0
FieldsFormed formed line = Lacks 10 line × (formed (cut line) ≡ true)

-- the test of the form of a line's fields, what they spell, and what is made of that
module _ {Named Value : Type 0} (formed : List (List ℕ) → Bool) (read : List (List ℕ) → Option Named) (Made : Named → Result Value PlayFault → Type 0) where
  -- the line has no form
  abbrev pub Unformed : List ℕ → Result Value PlayFault → Type 0
  Unformed line answer = (FieldsFormed formed line → ⊥) × (answer ≡ Err (Text Form))

  -- the fields have the form, and a number among them is at fault
  abbrev pub Misnumbered : List ℕ → Result Value PlayFault → Type 0
  Misnumbered line answer = FieldsFormed formed line × (read (cut line) ≡ None) × (answer ≡ Err (Text Number))

  -- the answer is what is made of what the fields spell
  abbrev pub MadeOfFields : List ℕ → Result Value PlayFault → Type 0
  MadeOfFields line answer = (named : Named) × (read (cut line) ≡ Some named) × Made named answer

  abbrev pub ByFields : List ℕ → Result Value PlayFault → Type 0
  ByFields line answer = Unformed line answer ⊎ (Misnumbered line answer ⊎ MadeOfFields line answer)
