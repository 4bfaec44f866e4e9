-- The second line of an input, `play,DEPTH,INSISTENCE,STEPS`: what it names, and how it is answered. Assumes nothing.
use Rattle.std.specs.Prelude.{ℕ, List, [], ◌∷◌, Result}
use Rattle.faults.specs.declared.PlayFault.{PlayFault}
use Rattle.faults.specs.declared.PlayFault.TheVariants.{Text, Typing, Bounds as BoundsFault, Settings}
use Rattle.bounds.specs.declared.limits.Bounds.{Bounds}
use Rattle.bounds.specs.Limits.{WithinBounds}
use Rattle.text.specs.Slots.{Slot, literal, number}
use Rattle.heads.specs.declared.settings.PlayNumbers.{PlayNumbers}
use Rattle.heads.specs.Words.{play_word}
use Rattle.heads.specs.Lines.{SpellsWithin, HasTextFault, SpellsOutside, Answers}

-- the fields of the line that names bounds of play
abbrev pub play_slots : PlayNumbers → List Slot
play_slots numbers = literal play_word ∷ number numbers.depth ∷ number numbers.insistence ∷ number numbers.steps ∷ []

-- the numbers are within the limits of the bounds of play
abbrev pub NumbersWithinLimits : PlayNumbers → Type 0
NumbersWithinLimits numbers = WithinBounds numbers.depth numbers.insistence numbers.steps

-- the numbers of bounds of play
abbrev pub numbers_of : Bounds → PlayNumbers
numbers_of bounds = record { depth = bounds.depth; insistence = bounds.insistence; steps = bounds.steps }

-- a fault holds of the line
abbrev pub PlayLineFault : List ℕ → PlayFault → Type 0
PlayLineFault line (Text fault) = HasTextFault play_slots line fault
PlayLineFault line (Typing fault) = ⊥
PlayLineFault line BoundsFault = SpellsOutside play_slots NumbersWithinLimits line
PlayLineFault line Settings = ⊥

-- the answer to the line: the bounds whose numbers it spells, within their limits, or its least fault
abbrev pub PlayAnswer : List ℕ → Result Bounds PlayFault → Type 0
PlayAnswer line = Answers (λ bounds. SpellsWithin play_slots NumbersWithinLimits line (numbers_of bounds)) (PlayLineFault line)
