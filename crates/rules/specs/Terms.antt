-- The terms of a library as trees, the values that they come to, substitution, and evaluation contexts. Assumes nothing.
use Rattle.std.specs.Prelude.{ℕ, Bool, true, false, List, [], ◌∷◌, ℤ, ◌==◌}
use Rattle.arithmetic.specs.declared.Operation.{Operation}
use Rattle.rows.specs.Types.{Tree}

-- a term. A function carries its variable, the variable's type and its body. A name stands for a method, and for any
-- function that was given a name later. A box ⟪ M ⟫ stands around a body that was entered and not yet left.
pub data Term : Type 0 where
  ⟨⟩ : Term
  num : ℤ → Term
  var : ℕ → Term
  meth : ℕ → Term
  get : ℕ → Term
  lam : ℕ → Tree → Term → Term
  put : ℕ → Term → Term
  op : Operation → Term → Term → Term
  tuple : Term → Term → Term
  fst : Term → Term
  snd : Term → Term
  app : Term → Term → Term
  ite : Term → Term → Term → Term
  let_in : ℕ → Term → Term → Term
  assert : Term → Term
  ⟪◌⟫ : Term → Term

-- a value: unit, a word, a name, or a pair of values
pub data Value : Type 0 where
  unit : Value
  word : ℤ → Value
  name : ℕ → Value
  pair : Value → Value → Value

-- each value is a term
abbrev pub ⌊◌⌋ : Value → Term
⌊ unit ⌋ = ⟨⟩
⌊ word i ⌋ = num i
⌊ name m ⌋ = meth m
⌊ pair v w ⌋ = tuple ⌊ v ⌋ ⌊ w ⌋

-- the first where the test holds, else the second
abbrev pub choose : Bool → Term → Term → Term
choose true M N = M
choose false M N = N

-- M with the closed value v for the variable x. A function or a `let` of the same variable hides it in its body.
infixl 90 ◌⟨◌/◌⟩
abbrev pub ◌⟨◌/◌⟩ : Term → Value → ℕ → Term
⟨⟩ ⟨ v / x ⟩ = ⟨⟩
num i ⟨ v / x ⟩ = num i
var y ⟨ v / x ⟩ = choose (y == x) ⌊ v ⌋ (var y)
meth m ⟨ v / x ⟩ = meth m
get r ⟨ v / x ⟩ = get r
lam y θ M ⟨ v / x ⟩ = lam y θ (choose (y == x) M (M ⟨ v / x ⟩))
put r M ⟨ v / x ⟩ = put r (M ⟨ v / x ⟩)
op o M N ⟨ v / x ⟩ = op o (M ⟨ v / x ⟩) (N ⟨ v / x ⟩)
tuple M N ⟨ v / x ⟩ = tuple (M ⟨ v / x ⟩) (N ⟨ v / x ⟩)
fst M ⟨ v / x ⟩ = fst (M ⟨ v / x ⟩)
snd M ⟨ v / x ⟩ = snd (M ⟨ v / x ⟩)
app M N ⟨ v / x ⟩ = app (M ⟨ v / x ⟩) (N ⟨ v / x ⟩)
ite M A B ⟨ v / x ⟩ = ite (M ⟨ v / x ⟩) (A ⟨ v / x ⟩) (B ⟨ v / x ⟩)
let_in y M N ⟨ v / x ⟩ = let_in y (M ⟨ v / x ⟩) (choose (y == x) N (N ⟨ v / x ⟩))
assert M ⟨ v / x ⟩ = assert (M ⟨ v / x ⟩)
⟪ M ⟫ ⟨ v / x ⟩ = ⟪ M ⟨ v / x ⟩ ⟫

-- one layer around the place where evaluation goes on: left part before right part, function before argument, and
-- only the condition of an `if`
pub data Frame : Type 0 where
  assert• : Frame
  put• : ℕ → Frame
  op•₁ : Operation → Term → Frame
  op•₂ : Operation → Value → Frame
  tuple•₁ : Term → Frame
  tuple•₂ : Value → Frame
  fst• : Frame
  snd• : Frame
  app•₁ : Term → Frame
  app•₂ : ℕ → Frame
  let• : ℕ → Term → Frame
  ite• : Term → Term → Frame
  box• : Frame

-- a layer around a term
abbrev pub fill : Frame → Term → Term
fill assert• M = assert M
fill (put• r) M = put r M
fill (op•₁ o N) M = op o M N
fill (op•₂ o v) M = op o ⌊ v ⌋ M
fill (tuple•₁ N) M = tuple M N
fill (tuple•₂ v) M = tuple ⌊ v ⌋ M
fill fst• M = fst M
fill snd• M = snd M
fill (app•₁ N) M = app M N
fill (app•₂ m) M = app (meth m) M
fill (let• x N) M = let_in x M N
fill (ite• A B) M = ite M A B
fill box• M = ⟪ M ⟫

-- an evaluation context: layers, the outermost first
abbrev pub Context : Type 0
Context = List Frame

-- E[M], the term M in the context E
abbrev pub plug : Context → Term → Term
plug [] M = M
plug (f ∷ E) M = fill f (plug E M)
