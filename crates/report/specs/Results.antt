-- What the results of the steps of this crate say: of a head line, and of the library, where memory may run out. No contract
-- of a public function needs it. Assumes nothing.
use Rattle.std.specs.Prelude.{◌≡◌, ℕ, ◌+◌, ◌<◌, ◌≤◌, ◌⊎◌, List, [], length, Ok, Err, Result}
use Rattle.faults.specs.declared.Placed.{Placed}
use Rattle.faults.specs.declared.TextFault.TheVariants.{Form}
use Rattle.faults.specs.declared.PlayFault.{PlayFault}
use Rattle.faults.specs.declared.PlayFault.TheVariants.{Text}
use Rattle.rows.specs.declared.forms.Row.{Row}
use Rattle.rows.specs.declared.tally.Counts.{Counts}
use Rattle.text.specs.Slots.{Lacks}
use Rattle.reader.specs.Text.{Reads}
use Rattle.library.specs.declared.refusal.MountFault.{MountFault}
use Rattle.library.specs.declared.refusal.MountFault.TheVariants.{Refused as MountRefused, Memory as MountMemory}
use Rattle.library.specs.Mounting.{Mounts}
use Rattle.report.specs.declared.refusal.InputFault.{InputFault}
use Rattle.report.specs.declared.refusal.InputFault.TheVariants.{Refused as InputRefused, Memory as InputMemory}
use Rattle.report.specs.Input.{Answer, FirstCut, RefusedByMounting, RefusedByReading, in_input, most_rows}

-- the reader of a head line takes it, where what it says of a line is given, and the rest is what follows it
pub record HeadPassed {Value : Type 0} (says : List ℕ → Result Value PlayFault → Type 0) (text rest : List ℕ) : Type 0 where
  pub line : List ℕ
  pub value : Value
  pub cut : FirstCut text line rest
  pub said : says line (Ok value)

-- not one byte of the line at this place is there, or it has no line feed, or its reader refuses it
pub record HeadRefused {Value : Type 0} (says : List ℕ → Result Value PlayFault → Type 0) (place : ℕ) (text : List ℕ) (placed : Placed PlayFault) : Type 0 where
  pub reason :
      ((text ≡ []) × (placed ≡ record { place = 0; fault = Text Form }))
      ⊎ (((0 < length text) × Lacks 10 text × (placed ≡ record { place = place; fault = Text Form }))
      ⊎ ((line : List ℕ) × (rest : List ℕ) × (fault : PlayFault) × FirstCut text line rest × says line (Err fault) × (placed ≡ record { place = place; fault = fault })))

-- what comes of a library's text by itself: the count of each section, where it is read as rows that mount; else the first
-- fault at its line in the library, of reading or, where it can be read, of mounting. Of want of memory nothing is said
abbrev pub TextOutcome : List ℕ → Result Counts MountFault → Type 0
TextOutcome text (Ok counts) = (rows : List Row) × Reads most_rows text (Ok counts) rows × Mounts rows (Ok tt)
TextOutcome text (Err (MountRefused found)) = RefusedByReading text found ⊎ RefusedByMounting text found
TextOutcome text (Err MountMemory) = Unit {0}

-- a fault of a library stands at 0, at one of its rows, or at the line after the last
abbrev pub NearRows : MountFault → Type 0
NearRows (MountRefused found) = found.place ≤ most_rows + 1
NearRows MountMemory = Unit {0}

-- a fault of the library, as one of the whole input
abbrev pub fault_in_input : MountFault → InputFault
fault_in_input (MountRefused found) = InputRefused (in_input found)
fault_in_input MountMemory = InputMemory

-- this holds of the answer that a result tells; where memory has run out, it tells none
abbrev pub IfAnswered : Result Counts InputFault → (Answer → Type 0) → Type 0
IfAnswered (Ok counts) holds = holds (Ok counts)
IfAnswered (Err (InputRefused placed)) holds = holds (Err placed)
IfAnswered (Err InputMemory) holds = Unit {0}
