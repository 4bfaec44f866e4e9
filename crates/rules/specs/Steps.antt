-- The steps that a library takes by itself, as rules: E[redex] becomes E[contractum]. Assumes nothing.
use Rattle.std.specs.Prelude.{◌≡◌, ℕ, true, false, length, ℤ}
use Rattle.std.proofs.Math.Option.{some}
use Rattle.arithmetic.specs.Meaning.{Meaning}
use Rattle.arithmetic.specs.declared.Operation.{Operation}
use Rattle.rows.specs.Types.{Tree}
use Rattle.rules.specs.Terms.{Term, Value, Context, plug, ⌊◌⌋, ◌⟨◌/◌⟩}
use Rattle.rules.specs.Terms.{⟨⟩, num, meth, get, lam, put, op, tuple, fst, snd, app, ite, let_in, assert, ⟪◌⟫}
use Rattle.rules.specs.Memory.{library_name, Memory, at, with_name, with_global, deeper, shallower}

-- a term with the memory that it acts on
infix 25 ◌∣◌
pub data State : Type 0 where
  ◌∣◌ : Term → Memory → State

-- A ⊢ c ⟶ d: by the meaning A of an arithmetic, c takes one step and is then d. Here E is a context, M and N are terms, v and w
-- values, i and j words, and μ is the memory.
infix 20 ◌⊢◌⟶◌
pub data ◌⊢◌⟶◌ (A : Meaning) : State → State → Type 0 where
  -- a function makes the next name
  new_name : (E : Context) (x : ℕ) (θ : Tree) (M : Term) {μ : Memory} →
      A ⊢ plug E (lam x θ M) ∣ μ ⟶ plug E (meth (length μ.names)) ∣ with_name (library_name x θ M) μ
  let_value : (E : Context) (x : ℕ) (v : Value) (M : Term) {μ : Memory} →
      A ⊢ plug E (let_in x ⌊ v ⌋ M) ∣ μ ⟶ plug E (M ⟨ v / x ⟩) ∣ μ
  operate : (E : Context) (o : Operation) (i j : ℤ) {μ : Memory} →
      A ⊢ plug E (op o (num i) (num j)) ∣ μ ⟶ plug E (num (A.result o i j)) ∣ μ
  first_part : (E : Context) (v w : Value) {μ : Memory} →
      A ⊢ plug E (fst (tuple ⌊ v ⌋ ⌊ w ⌋)) ∣ μ ⟶ plug E ⌊ v ⌋ ∣ μ
  second_part : (E : Context) (v w : Value) {μ : Memory} →
      A ⊢ plug E (snd (tuple ⌊ v ⌋ ⌊ w ⌋)) ∣ μ ⟶ plug E ⌊ w ⌋ ∣ μ
  -- an `if` is true when its word is not zero
  if_true : (E : Context) (i : ℤ) (M N : Term) {μ : Memory} → A.zero i ≡ false →
      A ⊢ plug E (ite (num i) M N) ∣ μ ⟶ plug E M ∣ μ
  if_false : (E : Context) (i : ℤ) (M N : Term) {μ : Memory} → A.zero i ≡ true →
      A ⊢ plug E (ite (num i) M N) ∣ μ ⟶ plug E N ∣ μ
  read : (E : Context) (r : ℕ) (v : Value) {μ : Memory} → at μ.globals r ≡ some v →
      A ⊢ plug E (get r) ∣ μ ⟶ plug E ⌊ v ⌋ ∣ μ
  write : (E : Context) (r : ℕ) (v : Value) {μ : Memory} →
      A ⊢ plug E (put r ⌊ v ⌋) ∣ μ ⟶ plug E ⟨⟩ ∣ with_global r v μ
  -- an assertion on a word that is not zero gives unit; there is no step on a zero word
  asserted : (E : Context) (i : ℤ) {μ : Memory} → A.zero i ≡ false →
      A ⊢ plug E (assert (num i)) ∣ μ ⟶ plug E ⟨⟩ ∣ μ
  -- the body of a library name is entered with the value for its variable, and left when it has come to a value
  enter : (E : Context) (m x : ℕ) (θ : Tree) (M : Term) (v : Value) {μ : Memory} → at μ.names m ≡ some (library_name x θ M) →
      A ⊢ plug E (app (meth m) ⌊ v ⌋) ∣ μ ⟶ plug E ⟪ M ⟨ v / x ⟩ ⟫ ∣ deeper μ
  leave : (E : Context) (v : Value) {μ : Memory} →
      A ⊢ plug E ⟪ ⌊ v ⌋ ⟫ ∣ μ ⟶ plug E ⌊ v ⌋ ∣ shallower μ
