-- The rows of a mounted library unfolded: its terms as trees, and the memory that a play starts with. Assumes nothing.
-- A number that names nothing, which mounting refuses, stands for unit here.
use Rattle.std.specs.Prelude.{ℕ, suc, List, [], ◌∷◌, ◌++◌, length, ℤ, pos, slice_index, slice_index_or}
use Rattle.rows.specs.declared.forms.MethodForm.{MethodForm}
use Rattle.rows.specs.declared.forms.MethodForm.TheVariants.{Abstract, Public, Private}
use Rattle.rows.specs.declared.forms.TermForm.{TermForm}
use Rattle.rows.specs.declared.forms.TermForm.TheVariants.{Unit as UnitForm, Num, Var, Meth, Get, Lam, Set, Op, Pair, Fst, Snd, App, If, Let, Assert}
use Rattle.rows.specs.declared.forms.Row.{Row}
use Rattle.rows.specs.declared.forms.Row.TheVariants.{«Type» as TypeRow, Variable as VariableRow, Method as MethodRow, Global as GlobalRow, Term as TermRow}
use Rattle.rows.specs.Types.{Tree, types, unit as unit_type, int as int_type, pair as pair_type, fun as function_type}
use Rattle.rules.specs.Terms.{Term, word, name}
use Rattle.rules.specs.Terms.{⟨⟩, num, var, meth, get, lam, put, op, tuple, fst, snd, app, ite, let_in, assert, ⟪◌⟫}
use Rattle.rules.specs.Memory.{Entry, host_name, library_name, Memory}

-- the type that has a number
abbrev pub listed_type : List Row → ℕ → Tree
listed_type rows t = slice_index_or (types rows) t unit_type

-- the argument and the result type of a function type
abbrev pub argument : Tree → Tree
argument unit_type = unit_type
argument int_type = unit_type
argument (pair_type θ θ') = unit_type
argument (function_type θ θ') = θ

abbrev pub result : Tree → Tree
result unit_type = unit_type
result int_type = unit_type
result (pair_type θ θ') = unit_type
result (function_type θ θ') = θ'

-- the number of each variable's type, by variable
abbrev pub variable_types : List Row → List ℕ
variable_types [] = []
variable_types (TypeRow n f ∷ rows) = variable_types rows
variable_types (VariableRow n t ∷ rows) = t ∷ variable_types rows
variable_types (MethodRow n f ∷ rows) = variable_types rows
variable_types (GlobalRow n t e ∷ rows) = variable_types rows
variable_types (TermRow n f ∷ rows) = variable_types rows

-- the type of a variable
abbrev pub variable_type : List Row → ℕ → Tree
variable_type rows x = listed_type rows (slice_index (variable_types rows) x)

-- the term of a form, over the terms before it, with a type for each variable
abbrev pub formed : (ℕ → Tree) → List Term → TermForm → Term
formed type before UnitForm = ⟨⟩
formed type before (Num i) = num i
formed type before (Var x) = var x
formed type before (Meth m) = meth m
formed type before (Get r) = get r
formed type before (Lam x a) = lam x (type x) (slice_index_or before a ⟨⟩)
formed type before (Set r a) = put r (slice_index_or before a ⟨⟩)
formed type before (Op o a b) = op o (slice_index_or before a ⟨⟩) (slice_index_or before b ⟨⟩)
formed type before (Pair a b) = tuple (slice_index_or before a ⟨⟩) (slice_index_or before b ⟨⟩)
formed type before (Fst a) = fst (slice_index_or before a ⟨⟩)
formed type before (Snd a) = snd (slice_index_or before a ⟨⟩)
formed type before (App f a) = app (slice_index_or before f ⟨⟩) (slice_index_or before a ⟨⟩)
formed type before (If c a b) = ite (slice_index_or before c ⟨⟩) (slice_index_or before a ⟨⟩) (slice_index_or before b ⟨⟩)
formed type before (Let x a b) = let_in x (slice_index_or before a ⟨⟩) (slice_index_or before b ⟨⟩)
formed type before (Assert a) = assert (slice_index_or before a ⟨⟩)

-- the terms of rows, after the terms before them
abbrev pub terms_after : (ℕ → Tree) → List Term → List Row → List Term
terms_after type before [] = before
terms_after type before (TypeRow n f ∷ rows) = terms_after type before rows
terms_after type before (VariableRow n t ∷ rows) = terms_after type before rows
terms_after type before (MethodRow n f ∷ rows) = terms_after type before rows
terms_after type before (GlobalRow n t e ∷ rows) = terms_after type before rows
terms_after type before (TermRow n f ∷ rows) = terms_after type (before ++ (formed type before f ∷ [])) rows

-- the term that has a number, unfolded into a tree
abbrev pub unfolded : List Row → ℕ → Term
unfolded rows n = slice_index_or (terms_after (variable_type rows) [] rows) n ⟨⟩

-- what a method's or a global's term gives without a step: a word, or what stands behind a new name
pub data Begins : Type 0 where
  with_word : ℤ → Begins
  with_function : Entry → Begins

-- a number gives its word and a function what stands behind its name; mounting lets no other term stand there
abbrev pub begins : Term → Begins
begins (num i) = with_word i
begins (lam x θ M) = with_function (library_name x θ M)
begins ⟨⟩ = with_word (pos 0)
begins (var x) = with_word (pos 0)
begins (meth m) = with_word (pos 0)
begins (get r) = with_word (pos 0)
begins (put r M) = with_word (pos 0)
begins (op o M N) = with_word (pos 0)
begins (tuple M N) = with_word (pos 0)
begins (fst M) = with_word (pos 0)
begins (snd M) = with_word (pos 0)
begins (app M N) = with_word (pos 0)
begins (ite M A B) = with_word (pos 0)
begins (let_in x M N) = with_word (pos 0)
begins (assert M) = with_word (pos 0)
begins ⟪ M ⟫ = with_word (pos 0)

-- what stands behind a method's name
abbrev pub method_body : Begins → Entry
method_body (with_word i) = library_name 0 unit_type ⟨⟩
method_body (with_function e) = e

-- what stands behind a method: a function of the host's where the library has none
abbrev pub method_entry : List Row → MethodForm → Entry
method_entry rows (Abstract t) = host_name (argument (listed_type rows t)) (result (listed_type rows t))
method_entry rows (Public t e) = method_body (begins (unfolded rows e))
method_entry rows (Private t e) = method_body (begins (unfolded rows e))

-- the names of the methods, in order
abbrev pub method_entries : List Row → List Row → List Entry
method_entries all [] = []
method_entries all (TypeRow n f ∷ rows) = method_entries all rows
method_entries all (VariableRow n t ∷ rows) = method_entries all rows
method_entries all (MethodRow n f ∷ rows) = method_entry all f ∷ method_entries all rows
method_entries all (GlobalRow n t e ∷ rows) = method_entries all rows
method_entries all (TermRow n f ∷ rows) = method_entries all rows

-- one global more: it holds its word, or the next name where it begins as a function
abbrev pub with_beginning : Begins → Memory → Memory
with_beginning (with_word i) μ = record { names = μ.names; globals = μ.globals ++ (word i ∷ []); depth = μ.depth }
with_beginning (with_function e) μ =
    record { names = μ.names ++ (e ∷ []); globals = μ.globals ++ (name (length μ.names) ∷ []); depth = μ.depth }

-- the globals one after another
abbrev pub with_globals : List Row → List Row → Memory → Memory
with_globals all [] μ = μ
with_globals all (TypeRow n f ∷ rows) μ = with_globals all rows μ
with_globals all (VariableRow n t ∷ rows) μ = with_globals all rows μ
with_globals all (MethodRow n f ∷ rows) μ = with_globals all rows μ
with_globals all (GlobalRow n t e ∷ rows) μ = with_globals all rows (with_beginning (begins (unfolded all e)) μ)
with_globals all (TermRow n f ∷ rows) μ = with_globals all rows μ

-- the memory at the start: the methods' names, then those of the globals that begin as functions; no body is entered
abbrev pub start_memory : List Row → Memory
start_memory rows = with_globals rows rows (record { names = method_entries rows rows; globals = []; depth = 0 })

-- the public methods by number, in order
abbrev pub public_from : ℕ → List Row → List ℕ
public_from m [] = []
public_from m (TypeRow n f ∷ rows) = public_from m rows
public_from m (VariableRow n t ∷ rows) = public_from m rows
public_from m (MethodRow n (Abstract t) ∷ rows) = public_from (suc m) rows
public_from m (MethodRow n (Public t e) ∷ rows) = m ∷ public_from (suc m) rows
public_from m (MethodRow n (Private t e) ∷ rows) = public_from (suc m) rows
public_from m (GlobalRow n t e ∷ rows) = public_from m rows
public_from m (TermRow n f ∷ rows) = public_from m rows

abbrev pub public_methods : List Row → List ℕ
public_methods rows = public_from 0 rows
