-- The faults of a row: for each, its number and when it holds. Assumes nothing.
use Rattle.std.specs.Prelude.{◌≡◌, ℕ, ◌<◌, ◌≤◌, Bool, true, false, ◌⊎◌, List, length, take, slice_index_or}
use Rattle.std.specs.List.{AllByRecursion}
use Rattle.faults.specs.declared.TextFault.{TextFault}
use Rattle.faults.specs.declared.TextFault.TheVariants.{Form, Number, Order, Reference, Limit, Repeat}
use Rattle.faults.specs.Least.{LeastOf}
use Rattle.faults.specs.Numbers.{text_number}
use Rattle.text.specs.Slots.{InRange}
use Rattle.rows.specs.declared.forms.TypeForm.{TypeForm}
use Rattle.rows.specs.declared.forms.Row.{Row}
use Rattle.rows.specs.declared.forms.Row.TheVariants.{«Type» as TypeRow, Variable as VariableRow, Method as MethodRow, Global as GlobalRow, Term as TermRow}
use Rattle.rows.specs.declared.forms.Section.{Section}
use Rattle.rows.specs.Printing.{slots}
use Rattle.rows.specs.Sections.{section, running, place, limit, count, references}
use Rattle.rows.specs.Types.{leaves, tree, types}

-- each number of the row is in its range
abbrev pub NumbersInRange : Row → Type 0
NumbersInRange row = AllByRecursion InRange (slots row)

-- no row of a later section stands before, and the running number counts the rows of its section
pub record InOrder (before : List Row) (row : Row) : Type 0 where
  pub no_later_section : (s : Section) → place (section row) < place s → count s before ≡ 0
  pub counts_on : running row ≡ count (section row) before

-- each reference names an earlier row
abbrev pub RefersBack : List Row → Row → Type 0
RefersBack before row = AllByRecursion (λ p. p.1 < count p.0 before) (references row)

-- the leaves of the type that a row lists; other rows have none
abbrev pub row_leaves : List Row → Row → ℕ
row_leaves before (TypeRow n f) = leaves (tree (types before) f)
row_leaves before (VariableRow n t) = 0
row_leaves before (MethodRow n f) = 0
row_leaves before (GlobalRow n t e) = 0
row_leaves before (TermRow n f) = 0

-- the section has a place for the row, and a type has at most four leaves
pub record WithinLimits (before : List Row) (row : Row) : Type 0 where
  pub section_limit : count (section row) before < limit (section row)
  pub four_leaves : row_leaves before row ≤ 4

-- a type of this form is listed before, and the row lists such a type
abbrev pub ListedType : List Row → TypeForm → Type 0
ListedType before form = (i : ℕ) × (m : ℕ) × (i < length before) × (slice_index_or before i (TypeRow m form) ≡ TypeRow m form)

abbrev pub ListedBefore : List Row → Row → Type 0
ListedBefore before (TypeRow n f) = ListedType before f
ListedBefore before (VariableRow n t) = ⊥
ListedBefore before (MethodRow n f) = ⊥
ListedBefore before (GlobalRow n t e) = ⊥
ListedBefore before (TermRow n f) = ⊥

-- a fault holds of a row that stands after the rows before; room says whether there is a place to keep the row
abbrev pub RowFault : Bool → List Row → Row → TextFault → Type 0
RowFault room before row Form = ⊥
RowFault room before row Number = NumbersInRange row → ⊥
RowFault room before row Order = InOrder before row → ⊥
RowFault room before row Reference = RefersBack before row → ⊥
RowFault room before row Limit = (WithinLimits before row → ⊥) ⊎ (room ≡ false)
RowFault room before row Repeat = ListedBefore before row

-- a fault holds, and none of a smaller number does
abbrev pub Least : (TextFault → Type 0) → TextFault → Type 0
Least holds fault = LeastOf text_number holds fault

-- no fault holds
abbrev pub NoneOf : (TextFault → Type 0) → Type 0
NoneOf holds = (fault : TextFault) → holds fault → ⊥

-- no row has a fault after the rows before it
abbrev pub Faultless : List Row → Type 0
Faultless rows = (i : ℕ) (row : Row) → i < length rows → slice_index_or rows i row ≡ row → NoneOf (RowFault true (take i rows) row)
