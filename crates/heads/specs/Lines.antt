-- What a line of text may be that names something: its form, what it spells, what may be wrong with it, and how a reader
-- answers it. Slots say how a thing is printed. Assumes nothing.
use Rattle.std.specs.Prelude.{◌≡◌, ℕ, List, Ok, Err, Result}
use Rattle.faults.specs.declared.TextFault.{TextFault}
use Rattle.faults.specs.declared.TextFault.TheVariants.{Form, Number, Order, Reference, Limit, Repeat}
use Rattle.faults.specs.declared.PlayFault.{PlayFault}
use Rattle.faults.specs.Least.{LeastOf}
use Rattle.faults.specs.Numbers.{play_number}
use Rattle.text.specs.Slots.{Slot}
use Rattle.text.specs.Lines.{Formed, Spells}

-- a line spells a thing that is within its limits
pub record SpellsWithin {X : Type 0} (slots : X → List Slot) (Within : X → Type 0) (line : List ℕ) (x : X) : Type 0 where
  pub spelled : Spells slots line x
  pub within : Within x

module _ {X : Type 0} (slots : X → List Slot) where
  -- a fault holds of the text of a line
  abbrev pub HasTextFault : List ℕ → TextFault → Type 0
  HasTextFault line Form = Formed slots line → ⊥
  HasTextFault line Number = (x : X) → Spells slots line x → ⊥
  HasTextFault line Order = ⊥
  HasTextFault line Reference = ⊥
  HasTextFault line Limit = ⊥
  HasTextFault line Repeat = ⊥

  -- a line spells a thing that is outside its limits
  abbrev pub SpellsOutside : (X → Type 0) → List ℕ → Type 0
  SpellsOutside Within line = (x : X) × Spells slots line x × (Within x → ⊥)

-- a fault holds, and none of a smaller number does
abbrev pub Least : (PlayFault → Type 0) → PlayFault → Type 0
Least holds fault = LeastOf play_number holds fault

-- the answer to a line: a value that may be granted, or the least of the faults that hold
abbrev pub Answers : {Y : Type 0} → (Y → Type 0) → (PlayFault → Type 0) → Result Y PlayFault → Type 0
Answers grants holds (Ok value) = grants value
Answers grants holds (Err fault) = Least holds fault

-- every answer that is allowed is this one
abbrev pub Only : {Y : Type 0} → (Result Y PlayFault → Type 0) → Result Y PlayFault → Type 0
Only {Y = Y} allowed answer = (other : Result Y PlayFault) → allowed other → other ≡ answer
