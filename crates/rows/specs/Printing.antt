-- How each row is printed: one line, field by field. Assumes nothing.
use Rattle.std.specs.Prelude.{ℕ, List, [], ◌∷◌, ◌++◌, codes}
use Rattle.arithmetic.specs.Words.{operation_word}
use Rattle.text.specs.Slots.{Slot, literal, number, word, printed}
use Rattle.rows.specs.declared.forms.TypeForm.{TypeForm}
use Rattle.rows.specs.declared.forms.TypeForm.TheVariants.{Unit as UnitType, Int as IntType, Pair as PairType, Fun as FunType}
use Rattle.rows.specs.declared.forms.MethodForm.{MethodForm}
use Rattle.rows.specs.declared.forms.MethodForm.TheVariants.{Abstract, Public, Private}
use Rattle.rows.specs.declared.forms.TermForm.{TermForm}
use Rattle.rows.specs.declared.forms.TermForm.TheVariants.{Unit as UnitTerm, Num, Var, Meth, Get, Lam, Set, Op, Pair, Fst, Snd, App, If, Let, Assert}
use Rattle.rows.specs.declared.forms.Section.TheVariants.{Types, Variables, Methods, Globals, Terms}
use Rattle.rows.specs.Sections.{section_word}
use Rattle.rows.specs.declared.forms.Row.{Row}
use Rattle.rows.specs.declared.forms.Row.TheVariants.{«Type» as TypeRow, Variable as VariableRow, Method as MethodRow, Global as GlobalRow, Term as TermRow}

-- the fields of a type after its number
abbrev pub type_slots : TypeForm → List Slot
type_slots UnitType = literal (codes "unit") ∷ []
type_slots IntType = literal (codes "int") ∷ []
type_slots (PairType a b) = literal (codes "pair") ∷ number a ∷ number b ∷ []
type_slots (FunType a b) = literal (codes "fun") ∷ number a ∷ number b ∷ []

-- the fields of a method after its number
abbrev pub method_slots : MethodForm → List Slot
method_slots (Abstract t) = literal (codes "abstract") ∷ number t ∷ []
method_slots (Public t e) = literal (codes "public") ∷ number t ∷ number e ∷ []
method_slots (Private t e) = literal (codes "private") ∷ number t ∷ number e ∷ []

-- the fields of a term after its number
abbrev pub term_slots : TermForm → List Slot
term_slots UnitTerm = literal (codes "unit") ∷ []
term_slots (Num i) = literal (codes "num") ∷ word i ∷ []
term_slots (Var x) = literal (codes "var") ∷ number x ∷ []
term_slots (Meth m) = literal (codes "meth") ∷ number m ∷ []
term_slots (Get r) = literal (codes "get") ∷ number r ∷ []
term_slots (Lam x a) = literal (codes "lam") ∷ number x ∷ number a ∷ []
term_slots (Set r a) = literal (codes "set") ∷ number r ∷ number a ∷ []
term_slots (Op o a b) = literal (codes "op") ∷ literal (operation_word o) ∷ number a ∷ number b ∷ []
term_slots (Pair a b) = literal (codes "pair") ∷ number a ∷ number b ∷ []
term_slots (Fst a) = literal (codes "fst") ∷ number a ∷ []
term_slots (Snd a) = literal (codes "snd") ∷ number a ∷ []
term_slots (App f a) = literal (codes "app") ∷ number f ∷ number a ∷ []
term_slots (If c a b) = literal (codes "if") ∷ number c ∷ number a ∷ number b ∷ []
term_slots (Let x a b) = literal (codes "let") ∷ number x ∷ number a ∷ number b ∷ []
term_slots (Assert a) = literal (codes "assert") ∷ number a ∷ []

-- the fields of a row
abbrev pub slots : Row → List Slot
slots (TypeRow n f) = literal (section_word Types) ∷ number n ∷ type_slots f
slots (VariableRow n t) = literal (section_word Variables) ∷ number n ∷ number t ∷ []
slots (MethodRow n f) = literal (section_word Methods) ∷ number n ∷ method_slots f
slots (GlobalRow n t e) = literal (section_word Globals) ∷ number n ∷ number t ∷ number e ∷ []
slots (TermRow n f) = literal (section_word Terms) ∷ number n ∷ term_slots f

-- the line of a row, and the lines of rows
abbrev pub row_line : Row → List ℕ
row_line r = printed (slots r)

abbrev pub row_lines : List Row → List ℕ
row_lines [] = []
row_lines (r ∷ rs) = row_line r ++ row_lines rs
