-- The whole input: a line that names an arithmetic, a line that names the bounds of play, and a library; and how it is
-- answered: the library is read, and the rows that were read are mounted. Assumes nothing.
use Rattle.std.specs.Prelude.{◌≡◌, ℕ, zero, suc, ◌+◌, ◌<◌, ◌⊎◌, List, [], ◌∷◌, ◌++◌, length, Ok, Err, Result}
use Rattle.faults.specs.declared.Placed.{Placed}
use Rattle.faults.specs.declared.TextFault.{TextFault}
use Rattle.faults.specs.declared.TextFault.TheVariants.{Form}
use Rattle.faults.specs.declared.TypingFault.{TypingFault}
use Rattle.faults.specs.declared.LibraryFault.{LibraryFault}
use Rattle.faults.specs.declared.LibraryFault.TheVariants.{Typing}
use Rattle.faults.specs.declared.PlayFault.{PlayFault}
use Rattle.faults.specs.declared.PlayFault.TheVariants.{Text}
use Rattle.faults.specs.Numbers.{as_play, in_library}
use Rattle.rows.specs.declared.forms.Row.{Row}
use Rattle.rows.specs.declared.tally.Counts.{Counts}
use Rattle.text.specs.Slots.{Lacks}
use Rattle.reader.specs.Text.{Reads}
use Rattle.library.specs.declared.refusal.MountFault.TheVariants.{Refused as MountRefused}
use Rattle.library.specs.Mounting.{Mounts}
use Rattle.heads.specs.Arithmetics.{ArithmeticAnswer}
use Rattle.heads.specs.Plays.{PlayAnswer}

-- what an input is answered: the count of each section, or a fault with its line in the whole input
abbrev pub Answer : Type 0
Answer = Result Counts (Placed PlayFault)

-- every answer that a relation allows is this one
abbrev pub Only : (Answer → Type 0) → Answer → Type 0
Only allowed answer = (other : Answer) → allowed other → other ≡ answer

-- a fault told at a place
abbrev pub refused_at : ℕ → PlayFault → Answer
refused_at place fault = Err (record { place = place; fault = fault })

-- a line of the library counts after the two head lines, and 0 stays 0
abbrev pub line_in_input : ℕ → ℕ
line_in_input zero = 0
line_in_input (suc n) = suc n + 2

-- a fault of the library, as a fault of play at its line in the whole input
abbrev pub in_input : Placed LibraryFault → Placed PlayFault
in_input found = record { place = line_in_input found.place; fault = as_play found.fault }

-- the rows of a library, as many as all sections together may have
abbrev pub most_rows : ℕ
most_rows = 1232

-- the text is refused by reading, for this fault
abbrev pub RefusedByReading : List ℕ → Placed LibraryFault → Type 0
RefusedByReading text found = (told : Placed TextFault) × (rows : List Row) × Reads most_rows text (Err told) rows × (found ≡ in_library told)

-- the text is read as rows that are refused by mounting, for this fault, which is one of typing
abbrev pub RefusedByMounting : List ℕ → Placed LibraryFault → Type 0
RefusedByMounting text found = (counts : Counts) × (rows : List Row) × Reads most_rows text (Ok counts) rows × Mounts rows (Err (MountRefused found)) × (told : TypingFault) × (found.fault ≡ Typing told)

-- the answer to the library: the count of each section, where its text is read as rows that mount; else its first fault, of
-- reading or, where it can be read, of mounting, at its line in the whole input
abbrev pub LibraryAnswer : List ℕ → Answer → Type 0
LibraryAnswer text (Ok counts) = (rows : List Row) × Reads most_rows text (Ok counts) rows × Mounts rows (Ok tt)
LibraryAnswer text (Err placed) = (found : Placed LibraryFault) × (RefusedByReading text found ⊎ RefusedByMounting text found) × (placed ≡ in_input found)

-- line is the first line of text without its line feed, and rest is what follows
pub record FirstCut (text line rest : List ℕ) : Type 0 where
  pub parts : text ≡ line ++ (10 ∷ rest)
  pub one_line : Lacks 10 line

-- the answer to a head line and what follows it, where the line's own answer is given, and its place
module _ {Value : Type 0} (line_answer : List ℕ → Result Value PlayFault → Type 0) (place : ℕ) (after : List ℕ → Answer → Type 0) where
  -- not one byte of the line is there
  abbrev pub Missing : List ℕ → Answer → Type 0
  Missing text answer = (text ≡ []) × (answer ≡ refused_at 0 (Text Form))

  -- the line has no line feed, and so no form
  abbrev pub Unended : List ℕ → Answer → Type 0
  Unended text answer = (0 < length text) × Lacks 10 text × (answer ≡ refused_at place (Text Form))

  -- the line has a fault
  abbrev pub Faulty : List ℕ → Answer → Type 0
  Faulty text answer = (line : List ℕ) × (rest : List ℕ) × (fault : PlayFault) × FirstCut text line rest × line_answer (line ++ (10 ∷ [])) (Err fault) × (answer ≡ refused_at place fault)

  -- the line has no fault, and what follows it is answered
  abbrev pub Taken : List ℕ → Answer → Type 0
  Taken text answer = (line : List ℕ) × (rest : List ℕ) × (value : Value) × FirstCut text line rest × line_answer (line ++ (10 ∷ [])) (Ok value) × after rest answer

  abbrev pub HeadAnswer : List ℕ → Answer → Type 0
  HeadAnswer text answer = Missing text answer ⊎ (Unended text answer ⊎ (Faulty text answer ⊎ Taken text answer))

-- the answer to the whole input
abbrev pub PlayAndLibrary : List ℕ → Answer → Type 0
PlayAndLibrary = HeadAnswer PlayAnswer 2 LibraryAnswer

abbrev pub InputAnswer : List ℕ → Answer → Type 0
InputAnswer = HeadAnswer ArithmeticAnswer 1 PlayAndLibrary
