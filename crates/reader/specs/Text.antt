-- Library text: which lines have a form, which row a line spells, what is wrong with a line, and how a text is answered.
-- Assumes nothing.
use Rattle.std.specs.Prelude.{◌≡◌, ℕ, ◌+◌, ◌<◌, ◌≤◌, Bool, true, false, ◌⊎◌, List, [], ◌∷◌, ◌++◌, length, Ok, Err, Result, nat_lt}
use Rattle.faults.specs.declared.Placed.{Placed}
use Rattle.faults.specs.declared.TextFault.{TextFault}
use Rattle.faults.specs.declared.TextFault.TheVariants.{Form, Number, Order, Reference, Limit, Repeat}
use Rattle.text.specs.Slots.{Lacks}
use Rattle.text.specs.Lines.{Formed as FormedBy, Spells as SpellsBy}
use Rattle.rows.specs.declared.forms.Row.{Row}
use Rattle.rows.specs.declared.tally.Counts.{Counts}
use Rattle.rows.specs.Printing.{slots, row_lines}
use Rattle.rows.specs.Faults.{Faultless, Least, RowFault}
use Rattle.rows.specs.Tallies.{CountsOf}

-- a line has a form where it is the printing of some row, with any comma-free bytes in the place of its numbers
abbrev pub Formed : List ℕ → Type 0
Formed line = FormedBy slots line

-- a line spells a row where it is the row's printing, and the row's numbers are in range
abbrev pub Spells : List ℕ → Row → Type 0
Spells line row = SpellsBy slots line row

-- the row that a line spells has a fault after the rows before
abbrev pub SpelledFault : List Row → List ℕ → TextFault → Type 0
SpelledFault before line fault = (row : Row) × Spells line row × RowFault true before row fault

-- a fault holds of a line that follows the lines of the rows before; room says whether a row is left for it
abbrev pub LineFault : Bool → List Row → List ℕ → TextFault → Type 0
LineFault room before line Form = Formed line → ⊥
LineFault room before line Number = (row : Row) → Spells line row → ⊥
LineFault room before line Order = SpelledFault before line Order
LineFault room before line Reference = SpelledFault before line Reference
LineFault room before line Limit = SpelledFault before line Limit ⊎ (room ≡ false)
LineFault room before line Repeat = SpelledFault before line Repeat

-- line is the first line of text, and rest is what follows: a line goes up to and with its line feed, and bytes without a
-- line feed are a last line
pub record FirstLine (text line rest : List ℕ) : Type 0 where
  pub parts : text ≡ line ++ rest
  pub ends : ((body : List ℕ) × (line ≡ body ++ (10 ∷ [])) × Lacks 10 body) ⊎ (Lacks 10 line × (0 < length line) × (rest ≡ []))

-- the most bytes that a text may have
abbrev pub most_bytes : ℕ
most_bytes = 32768

-- the text is the printing of the rows, no line has a fault, and the rows fit those handed in, of which there are room
pub record Granted (room : ℕ) (text : List ℕ) (rows : List Row) : Type 0 where
  pub short : length text ≤ most_bytes
  pub printing : text ≡ row_lines rows
  pub faultless : Faultless rows
  pub fits : length rows ≤ room

-- the text begins with the printing of the rows, whose lines have no fault, and the line after them has this fault and
-- none of a smaller number
pub record RefusedAfter (room : ℕ) (text : List ℕ) (rows : List Row) (fault : TextFault) : Type 0 where
  pub short : length text ≤ most_bytes
  pub line : List ℕ
  pub later : List ℕ
  pub rest : List ℕ
  pub printing : text ≡ row_lines rows ++ rest
  pub next_line : FirstLine rest line later
  pub faultless : Faultless rows
  pub fits : length rows ≤ room
  pub least : Least (LineFault (nat_lt (length rows) room) rows line) fault

-- the answer to a text, with the rows that are filled: granted with the count of each section; refused at a line, the
-- first at fault, counted from 1; or refused at 0 for its length
abbrev pub Reads : ℕ → List ℕ → Result Counts (Placed TextFault) → List Row → Type 0
Reads room text (Ok counts) rows =
    Granted room text rows × CountsOf rows counts × (counts.types + counts.variables + counts.methods + counts.globals + counts.terms ≡ length rows)
Reads room text (Err placed) rows =
    (RefusedAfter room text rows placed.fault × (placed.place ≡ length rows + 1)) ⊎ ((most_bytes < length text) × (placed ≡ record { place = 0; fault = Limit }) × (rows ≡ []))
