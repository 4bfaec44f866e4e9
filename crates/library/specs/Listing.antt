-- What the rows of each section say, by number. Assumes nothing.
use Rattle.std.specs.Prelude.{ℕ, cond, List, [], ◌∷◌, Some, None, Option, ◌==◌}
use Rattle.std.specs.List.{slice_get}
use Rattle.rows.specs.declared.forms.TypeForm.{TypeForm}
use Rattle.rows.specs.declared.forms.MethodForm.{MethodForm}
use Rattle.rows.specs.declared.forms.MethodForm.TheVariants.{Abstract, Public, Private}
use Rattle.rows.specs.declared.forms.TermForm.{TermForm}
use Rattle.rows.specs.declared.forms.Row.{Row}
use Rattle.rows.specs.declared.forms.Row.TheVariants.{«Type» as TypeRow, Variable as VariableRow, Method as MethodRow, Global as GlobalRow, Term as TermRow}
use Rattle.rows.specs.declared.forms.Section.{Section}
use Rattle.rows.specs.declared.forms.Section.TheVariants.{Types, Variables, Methods, Globals, Terms}
use Rattle.rows.specs.Sections.{section, place}

-- the rows of one section, in their order
abbrev pub section_rows : Section → List Row → List Row
section_rows s [] = []
section_rows s (r ∷ rs) = cond (place (section r) == place s) (r ∷ section_rows s rs) (section_rows s rs)

-- what a row says, where it is of the section that is asked for
abbrev pub type_form_of : Option Row → Option TypeForm
type_form_of None = None
type_form_of (Some (TypeRow n f)) = Some f
type_form_of (Some (VariableRow n t)) = None
type_form_of (Some (MethodRow n f)) = None
type_form_of (Some (GlobalRow n t e)) = None
type_form_of (Some (TermRow n f)) = None

abbrev pub variable_type_of : Option Row → Option ℕ
variable_type_of None = None
variable_type_of (Some (TypeRow n f)) = None
variable_type_of (Some (VariableRow n t)) = Some t
variable_type_of (Some (MethodRow n f)) = None
variable_type_of (Some (GlobalRow n t e)) = None
variable_type_of (Some (TermRow n f)) = None

abbrev pub method_of : Option Row → Option MethodForm
method_of None = None
method_of (Some (TypeRow n f)) = None
method_of (Some (VariableRow n t)) = None
method_of (Some (MethodRow n f)) = Some f
method_of (Some (GlobalRow n t e)) = None
method_of (Some (TermRow n f)) = None

abbrev pub method_type : MethodForm → ℕ
method_type (Abstract t) = t
method_type (Public t e) = t
method_type (Private t e) = t

abbrev pub method_type_of : Option Row → Option ℕ
method_type_of None = None
method_type_of (Some (TypeRow n f)) = None
method_type_of (Some (VariableRow n t)) = None
method_type_of (Some (MethodRow n f)) = Some (method_type f)
method_type_of (Some (GlobalRow n t e)) = None
method_type_of (Some (TermRow n f)) = None

abbrev pub global_type_of : Option Row → Option ℕ
global_type_of None = None
global_type_of (Some (TypeRow n f)) = None
global_type_of (Some (VariableRow n t)) = None
global_type_of (Some (MethodRow n f)) = None
global_type_of (Some (GlobalRow n t e)) = Some t
global_type_of (Some (TermRow n f)) = None

abbrev pub global_term_of : Option Row → Option ℕ
global_term_of None = None
global_term_of (Some (TypeRow n f)) = None
global_term_of (Some (VariableRow n t)) = None
global_term_of (Some (MethodRow n f)) = None
global_term_of (Some (GlobalRow n t e)) = Some e
global_term_of (Some (TermRow n f)) = None

abbrev pub term_of : Option Row → Option TermForm
term_of None = None
term_of (Some (TypeRow n f)) = None
term_of (Some (VariableRow n t)) = None
term_of (Some (MethodRow n f)) = None
term_of (Some (GlobalRow n t e)) = None
term_of (Some (TermRow n f)) = Some f

-- what the row of a number says, in each section; none past its last row
abbrev pub type_form_at : List Row → ℕ → Option TypeForm
type_form_at rows n = type_form_of (slice_get (section_rows Types rows) n)

abbrev pub variable_type_at : List Row → ℕ → Option ℕ
variable_type_at rows n = variable_type_of (slice_get (section_rows Variables rows) n)

abbrev pub method_at : List Row → ℕ → Option MethodForm
method_at rows n = method_of (slice_get (section_rows Methods rows) n)

abbrev pub method_type_at : List Row → ℕ → Option ℕ
method_type_at rows n = method_type_of (slice_get (section_rows Methods rows) n)

abbrev pub global_type_at : List Row → ℕ → Option ℕ
global_type_at rows n = global_type_of (slice_get (section_rows Globals rows) n)

abbrev pub global_term_at : List Row → ℕ → Option ℕ
global_term_at rows n = global_term_of (slice_get (section_rows Globals rows) n)

abbrev pub term_at : List Row → ℕ → Option TermForm
term_at rows n = term_of (slice_get (section_rows Terms rows) n)
