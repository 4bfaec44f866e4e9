-- Lines that name things. Slots say how a thing is printed. Assumes nothing.
use Rattle.std.specs.Prelude.{◌≡◌, ℕ, List}
use Rattle.std.specs.List.{AllByRecursion}
use Rattle.text.specs.Slots.{Slot, InRange, Fits, line_of, printed}

-- a line has a form where it is the printing of some thing, with any comma-free bytes in the place of its numbers
abbrev pub Formed : {Thing : Type 0} → (Thing → List Slot) → List ℕ → Type 0
Formed {Thing = Thing} slots line = (thing : Thing) × (fields : List (List ℕ)) × Fits (slots thing) fields × (line ≡ line_of fields)

-- a line spells a thing where it is the thing's printing, and the thing's numbers are in range
pub record Spells {Thing : Type 0} (slots : Thing → List Slot) (line : List ℕ) (thing : Thing) : Type 0 where
  pub in_range : AllByRecursion InRange (slots thing)
  pub printing : line ≡ printed (slots thing)
