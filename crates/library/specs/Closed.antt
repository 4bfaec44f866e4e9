-- Which variables are free in a term. A function binds its variable in its body, and a `let` binds its variable in the
-- second part only. Assumes nothing.
use Rattle.std.specs.Prelude.{◌≡◌, ℕ, List, [], ◌∷◌, Some, None, Option, ◌≢◌}
use Rattle.std.specs.List.{slice_get}
use Rattle.rows.specs.declared.forms.TermForm.{TermForm}
use Rattle.rows.specs.declared.forms.TermForm.TheVariants.{Unit as UnitTerm, Num, Var, Meth, Get, Lam, Set, Op, Pair, Fst, Snd, App, If, Let, Assert}
use Rattle.rows.specs.declared.forms.Row.{Row}
use Rattle.library.specs.Typing.{TermIs}

-- the parts of a term, each with the variable that the term binds in it
abbrev pub parts : TermForm → List (ℕ × Option ℕ)
parts UnitTerm = []
parts (Num i) = []
parts (Var x) = []
parts (Meth m) = []
parts (Get r) = []
parts (Lam x a) = (a, Some x) ∷ []
parts (Set r a) = (a, None) ∷ []
parts (Op o a b) = (a, None) ∷ (b, None) ∷ []
parts (Pair a b) = (a, None) ∷ (b, None) ∷ []
parts (Fst a) = (a, None) ∷ []
parts (Snd a) = (a, None) ∷ []
parts (App f a) = (f, None) ∷ (a, None) ∷ []
parts (If c a b) = (c, None) ∷ (a, None) ∷ (b, None) ∷ []
parts (Let x a b) = (a, None) ∷ (b, Some x) ∷ []
parts (Assert a) = (a, None) ∷ []

-- variable x is free in term t: the term is the variable, or x is free in a part in which the term doesn't bind it
pub data Free (rows : List Row) (x : ℕ) : ℕ → Type 0 where
  itself : {t : ℕ} → TermIs rows t (Var x) → Free rows x t
  inside : {t : ℕ} (form : TermForm) (k a : ℕ) (bound : Option ℕ) → TermIs rows t form → slice_get (parts form) k ≡ Some (a, bound) → (bound ≢ Some x) → Free rows x a → Free rows x t

-- no variable is free in term t
abbrev pub Closed : List Row → ℕ → Type 0
Closed rows t = (x : ℕ) → Free rows x t → ⊥
