-- The sections of a library: their order, their limits, and how many rows of each there are. Assumes nothing.
use Rattle.std.specs.Prelude.{ℕ, ◌+◌, cond, List, [], ◌∷◌, codes, ◌==◌}
use Rattle.rows.specs.declared.forms.TypeForm.{TypeForm}
use Rattle.rows.specs.declared.forms.TypeForm.TheVariants.{Unit as UnitType, Int as IntType, Pair as PairType, Fun as FunType}
use Rattle.rows.specs.declared.forms.MethodForm.{MethodForm}
use Rattle.rows.specs.declared.forms.MethodForm.TheVariants.{Abstract, Public, Private}
use Rattle.rows.specs.declared.forms.TermForm.{TermForm}
use Rattle.rows.specs.declared.forms.TermForm.TheVariants.{Unit as UnitTerm, Num, Var, Meth, Get, Lam, Set, Op, Pair, Fst, Snd, App, If, Let, Assert}
use Rattle.rows.specs.declared.forms.Row.{Row}
use Rattle.rows.specs.declared.forms.Row.TheVariants.{«Type» as TypeRow, Variable as VariableRow, Method as MethodRow, Global as GlobalRow, Term as TermRow}
use Rattle.rows.specs.declared.forms.Section.{Section}
use Rattle.rows.specs.declared.forms.Section.TheVariants.{Types, Variables, Methods, Globals, Terms}

-- the section that a row stands in
abbrev pub section : Row → Section
section (TypeRow n f) = Types
section (VariableRow n t) = Variables
section (MethodRow n f) = Methods
section (GlobalRow n t e) = Globals
section (TermRow n f) = Terms

-- the word that a section's lines begin with
abbrev pub section_word : Section → List ℕ
section_word Types = codes "type"
section_word Variables = codes "var"
section_word Methods = codes "method"
section_word Globals = codes "global"
section_word Terms = codes "term"

abbrev pub section_table : List Section
section_table = Types ∷ Variables ∷ Methods ∷ Globals ∷ Terms ∷ []

-- a row's running number
abbrev pub running : Row → ℕ
running (TypeRow n f) = n
running (VariableRow n t) = n
running (MethodRow n f) = n
running (GlobalRow n t e) = n
running (TermRow n f) = n

-- the order of the sections
abbrev pub place : Section → ℕ
place Types = 0
place Variables = 1
place Methods = 2
place Globals = 3
place Terms = 4

-- how many rows a section may have
abbrev pub limit : Section → ℕ
limit Types = 64
limit Variables = 64
limit Methods = 64
limit Globals = 16
limit Terms = 1024

-- how many rows of a section there are
abbrev pub count : Section → List Row → ℕ
count s [] = 0
count s (r ∷ rs) = cond (place (section r) == place s) 1 0 + count s rs

-- what a row refers to: sections with running numbers. The term of a method or a global is not among them: it stands
-- later, and mounting looks at it.
abbrev pub type_references : TypeForm → List (Section × ℕ)
type_references UnitType = []
type_references IntType = []
type_references (PairType a b) = (Types, a) ∷ (Types, b) ∷ []
type_references (FunType a b) = (Types, a) ∷ (Types, b) ∷ []

abbrev pub method_references : MethodForm → List (Section × ℕ)
method_references (Abstract t) = (Types, t) ∷ []
method_references (Public t e) = (Types, t) ∷ []
method_references (Private t e) = (Types, t) ∷ []

abbrev pub term_references : TermForm → List (Section × ℕ)
term_references UnitTerm = []
term_references (Num i) = []
term_references (Var x) = (Variables, x) ∷ []
term_references (Meth m) = (Methods, m) ∷ []
term_references (Get r) = (Globals, r) ∷ []
term_references (Lam x a) = (Variables, x) ∷ (Terms, a) ∷ []
term_references (Set r a) = (Globals, r) ∷ (Terms, a) ∷ []
term_references (Op o a b) = (Terms, a) ∷ (Terms, b) ∷ []
term_references (Pair a b) = (Terms, a) ∷ (Terms, b) ∷ []
term_references (Fst a) = (Terms, a) ∷ []
term_references (Snd a) = (Terms, a) ∷ []
term_references (App f a) = (Terms, f) ∷ (Terms, a) ∷ []
term_references (If c a b) = (Terms, c) ∷ (Terms, a) ∷ (Terms, b) ∷ []
term_references (Let x a b) = (Variables, x) ∷ (Terms, a) ∷ (Terms, b) ∷ []
term_references (Assert a) = (Terms, a) ∷ []

abbrev pub references : Row → List (Section × ℕ)
references (TypeRow n f) = type_references f
references (VariableRow n t) = (Types, t) ∷ []
references (MethodRow n f) = method_references f
references (GlobalRow n t e) = (Types, t) ∷ []
references (TermRow n f) = term_references f
