-- The line that an answer is printed as. Assumes nothing.
use Rattle.std.specs.Prelude.{ℕ, List, [], ◌∷◌, Ok, Err, codes}
use Rattle.faults.specs.Numbers.{play_number}
use Rattle.text.specs.Slots.{Slot, literal, number, printed}
use Rattle.report.specs.Input.{Answer}

-- `mounted` with the count of each section, or `refused` with the number of the fault and its line
abbrev pub answer_slots : Answer → List Slot
answer_slots (Ok counts) = literal (codes "mounted") ∷ number counts.types ∷ number counts.variables ∷ number counts.methods ∷ number counts.globals ∷ number counts.terms ∷ []
answer_slots (Err placed) = literal (codes "refused") ∷ number (play_number placed.fault) ∷ number placed.place ∷ []

abbrev pub answer_line : Answer → List ℕ
answer_line answer = printed (answer_slots answer)
