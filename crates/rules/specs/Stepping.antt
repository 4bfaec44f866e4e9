-- The same steps as a function: a term is parted into its context and its redex, and the redex is contracted. Assumes nothing.
use Rattle.std.specs.Prelude.{◌≡◌, ℕ, Bool, true, false, [], ◌∷◌, length, ℤ}
use Rattle.std.proofs.Math.Option.{Option, none, some}
use Rattle.arithmetic.specs.Meaning.{Meaning}
use Rattle.arithmetic.specs.declared.Operation.{Operation}
use Rattle.rows.specs.Types.{Tree}
use Rattle.rules.specs.Terms.{Term, Value, Frame, Context, plug, choose, ⌊◌⌋, ◌⟨◌/◌⟩}
use Rattle.rules.specs.Terms.{⟨⟩, num, var, meth, get, lam, put, op, tuple, fst, snd, app, ite, let_in, assert, ⟪◌⟫}
use Rattle.rules.specs.Terms.{unit, word, name, pair}
use Rattle.rules.specs.Terms.{assert•, put•, op•₁, op•₂, tuple•₁, tuple•₂, fst•, snd•, app•₁, app•₂, let•, ite•, box•}
use Rattle.rules.specs.Memory.{Entry, host_name, library_name, Memory, at, with_name, with_global, deeper, shallower}
use Rattle.rules.specs.Steps.{State, ◌∣◌, ◌⊢◌⟶◌}

-- a redex: a term that takes the next step
pub data Redex : Type 0 where
  lam! : ℕ → Tree → Term → Redex
  let! : ℕ → Value → Term → Redex
  op! : Operation → ℤ → ℤ → Redex
  fst! snd! : Value → Value → Redex
  ite! : ℤ → Term → Term → Redex
  get! : ℕ → Redex
  put! : ℕ → Value → Redex
  assert! : ℤ → Redex
  call! : ℕ → Value → Redex
  leave! : Value → Redex

-- the term that a redex is
abbrev pub ⌈◌⌉ : Redex → Term
⌈ lam! x θ M ⌉ = lam x θ M
⌈ let! x v M ⌉ = let_in x ⌊ v ⌋ M
⌈ op! o i j ⌉ = op o (num i) (num j)
⌈ fst! v w ⌉ = fst (tuple ⌊ v ⌋ ⌊ w ⌋)
⌈ snd! v w ⌉ = snd (tuple ⌊ v ⌋ ⌊ w ⌋)
⌈ ite! i M N ⌉ = ite (num i) M N
⌈ get! r ⌉ = get r
⌈ put! r v ⌉ = put r ⌊ v ⌋
⌈ assert! i ⌉ = assert (num i)
⌈ call! m v ⌉ = app (meth m) ⌊ v ⌋
⌈ leave! v ⌉ = ⟪ ⌊ v ⌋ ⟫

-- a term is a value, or a redex in a context, or neither where it is open or ill typed
pub data Parts : Type 0 where
  value : Value → Parts
  redex : Context → Redex → Parts
  neither : Parts

-- a part under a layer: a value goes on to what follows, a redex has the layer around it
abbrev pub under : Frame → Parts → (Value → Parts) → Parts
under f (value v) next = next v
under f (redex E r) next = redex (f ∷ E) r
under f neither next = neither

-- goes on with a word, with a name, and with the two parts of a pair
abbrev pub on_word : (ℤ → Parts) → Value → Parts
on_word next unit = neither
on_word next (word i) = next i
on_word next (name m) = neither
on_word next (pair v w) = neither

abbrev pub on_name : (ℕ → Parts) → Value → Parts
on_name next unit = neither
on_name next (word i) = neither
on_name next (name m) = next m
on_name next (pair v w) = neither

abbrev pub on_pair : (Value → Value → Parts) → Value → Parts
on_pair next unit = neither
on_pair next (word i) = neither
on_pair next (name m) = neither
on_pair next (pair v w) = next v w

-- the parts of a term: evaluation goes into the first part that is no value
abbrev pub parts : Term → Parts
parts ⟨⟩ = value unit
parts (num i) = value (word i)
parts (var x) = neither
parts (meth m) = value (name m)
parts (get r) = redex [] (get! r)
parts (lam x θ M) = redex [] (lam! x θ M)
parts (put r M) = under (put• r) (parts M) (λ v. redex [] (put! r v))
parts (op o M N) =
    under (op•₁ o N) (parts M) (λ v. under (op•₂ o v) (parts N) (λ w. on_word (λ i. on_word (λ j. redex [] (op! o i j)) w) v))
parts (tuple M N) = under (tuple•₁ N) (parts M) (λ v. under (tuple•₂ v) (parts N) (λ w. value (pair v w)))
parts (fst M) = under fst• (parts M) (on_pair (λ v w. redex [] (fst! v w)))
parts (snd M) = under snd• (parts M) (on_pair (λ v w. redex [] (snd! v w)))
parts (app M N) = under (app•₁ N) (parts M) (on_name (λ m. under (app•₂ m) (parts N) (λ w. redex [] (call! m w))))
parts (ite M A B) = under (ite• A B) (parts M) (on_word (λ i. redex [] (ite! i A B)))
parts (let_in x M N) = under (let• x N) (parts M) (λ v. redex [] (let! x v N))
parts (assert M) = under assert• (parts M) (on_word (λ i. redex [] (assert! i)))
parts ⟪ M ⟫ = under box• (parts M) (λ v. redex [] (leave! v))

-- what becomes of a redex: a term with its memory, a failed assertion, a call of a host name, or nothing
pub data Contracted : Type 0 where
  to : Term → Memory → Contracted
  failing : Contracted
  asks : ℕ → Value → Contracted
  stuck : Contracted

-- the value that a global holds
abbrev pub reading : Option Value → Memory → Contracted
reading none μ = stuck
reading (some v) μ = to ⌊ v ⌋ μ

-- an assertion, by whether its word is zero
abbrev pub asserting : Bool → Memory → Contracted
asserting true μ = failing
asserting false μ = to ⟨⟩ μ

-- a call of the name m with v, by what stands behind the name
abbrev pub calling : Option Entry → ℕ → Value → Memory → Contracted
calling none m v μ = stuck
calling (some (host_name θ θ')) m v μ = asks m v
calling (some (library_name x θ M)) m v μ = to ⟪ M ⟨ v / x ⟩ ⟫ (deeper μ)

module _ (A : Meaning) where
  -- what becomes of each redex, with the memory that it acts on
  abbrev pub contract : Redex → Memory → Contracted
  contract (lam! x θ M) μ = to (meth (length μ.names)) (with_name (library_name x θ M) μ)
  contract (let! x v M) μ = to (M ⟨ v / x ⟩) μ
  contract (op! o i j) μ = to (num (A.result o i j)) μ
  contract (fst! v w) μ = to ⌊ v ⌋ μ
  contract (snd! v w) μ = to ⌊ w ⌋ μ
  contract (ite! i M N) μ = to (choose (A.zero i) N M) μ
  contract (get! r) μ = reading (at μ.globals r) μ
  contract (put! r v) μ = to ⟨⟩ (with_global r v μ)
  contract (assert! i) μ = asserting (A.zero i) μ
  contract (call! m v) μ = calling (at μ.names m) m v μ
  contract (leave! v) μ = to ⌊ v ⌋ (shallower μ)

  -- what the contracted redex leaves in its context, if that is a step of the library's own
  abbrev pub within : Context → Contracted → Option State
  within E (to N μ) = some (plug E N ∣ μ)
  within E failing = none
  within E (asks m v) = none
  within E stuck = none

  -- the step of a term, by its parts
  abbrev pub stepped : Parts → Memory → Option State
  stepped (value v) μ = none
  stepped (redex E r) μ = within E (contract r μ)
  stepped neither μ = none

  -- the step from a state, if there is one
  abbrev pub next : State → Option State
  next (M ∣ μ) = stepped (parts M) μ

  -- the function takes exactly the steps of the rules
  pub record TakesTheSteps : Type 0 where
    pub rule_is_taken : (c d : State) → A ⊢ c ⟶ d → next c ≡ some d
    pub taken_is_rule : (c d : State) → next c ≡ some d → A ⊢ c ⟶ d

  -- from a state there is at most one step
  abbrev pub OneStep : Type 0
  OneStep = (c d e : State) → A ⊢ c ⟶ d → A ⊢ c ⟶ e → d ≡ e
