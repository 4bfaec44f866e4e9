-- What the library does next, by the relation and by the function.
use Rattle.std.proofs.Common.{◌≡◌, ℕ, Bool, true, false, ltb, List, ◌∷◌, ℤ, refl, ltb-false, ltb-true, le-ltb, lt-ltb}
use mathlib.Core.Option.{Option, none, some}
use Rattle.rules.specs.Terms.{Term, Value, Context, plug, ⌊◌⌋, num, app, meth, assert, get}
use Rattle.rules.specs.Memory.{Entry, host_name, library_name, Memory, at}
use Rattle.rules.specs.Steps.{State, ◌∣◌, ◌⊢◌⟶◌}
use Rattle.rules.specs.Steps as step
use Rattle.rules.specs.Stepping.{Redex, ⌈◌⌉, Parts, value, redex, neither, parts, Contracted, to, contract, reading, asserting, calling, within, stepped}
use Rattle.rules.specs.Stepping.{lam!, let!, op!, fst!, snd!, ite!, get!, put!, assert!, call!, leave! }
use Rattle.rules.specs.Game.{Game, Pending, library_waits, host_waits, Position, library_runs, host_turn, Pass, ◌⊢◌─◌⟹◌, Fails, TooDeep}
use Rattle.rules.specs.Game as rule
use Rattle.rules.specs.Enumeration.{Next, goes_on, hands, fails, deep, no_step, answering, bounded, continued, next_by, library_next}
use Rattle.rules.proofs.Exact.{parts_plug, parts_value, parts_are, MadeOf, complete, by_if}

-- a step that was taken, as what the library does next
abbrev pub did : Option Pass → Position → Next
did none q = goes_on q
did (some a) q = hands a q

module _ (G : Game) where
  -- where a step of the library's own leads in the game
  led : List Pending → List ℕ → State → Next
  led K P (M ∣ μ) = bounded (ltb G.bounds.depth μ.depth) (library_runs K M μ P)

  led_on : (E : Context) (c : Contracted) (K : List Pending) (μ : Memory) (P : List ℕ) (d : State) → within G.meaning E c ≡ some d → continued G K E c μ P ≡ led K P d
  unfolding led
  led_on E (to N μ') K μ P d e = cc
  led_on E c K μ P d e = cc

  led_by : (s : Parts) (K : List Pending) (μ : Memory) (P : List ℕ) (d : State) → stepped G.meaning s μ ≡ some d → next_by G K s μ P ≡ led K P d
  led_by (redex E r) K μ P d e = led_on E (contract G.meaning r μ) K μ P d e
  led_by s K μ P d e = cc

  own_step : (K : List Pending) (P : List ℕ) (M M' : Term) (μ μ' : Memory) → G.meaning ⊢ M ∣ μ ⟶ M' ∣ μ' → library_next G K M μ P ≡ bounded (ltb G.bounds.depth μ'.depth) (library_runs K M' μ' P)
  unfolding led
  own_step K P M M' μ μ' h = led_by (parts M) K μ P (M' ∣ μ') (complete G.meaning _ _ h)

  -- what a step of the relation says of the function
  abbrev pub NextIs : Position → Next → Type 0
  NextIs (library_runs K M μ P) n = library_next G K M μ P ≡ n
  NextIs (host_turn K l μ P) n = Unit {0}

  pub step_next : (p q : Position) (b : Option Pass) → G ⊢ p ─ b ⟹ q → NextIs p (did b q)
  step_next p q b (rule.internal {K} {M} {M'} {μ} {μ'} {P} h d) = rw (own_step K P M M' μ μ' h, le-ltb G.bounds.depth μ'.depth d)
  step_next p q b (rule.library_calls E m v θ θ' h) = rw (parts_plug E (call! m v), h)
  step_next p q b (rule.library_answers m l v) = rw (parts_value v)
  step_next p q b (rule.host_calls m x l θ M v R i lt h s) = tt
  step_next p q b (rule.host_answers m l E θ θ' v R h s) = tt

  pub fails_next : (p : Position) → Fails G p → NextIs p fails
  fails_next p (rule.on_zero E i h) = rw (parts_plug E (assert! i), h)

  pub deep_next : (p : Position) → TooDeep G p → NextIs p deep
  deep_next p (rule.past_bound {K} {M} {M'} {μ} {μ'} {P} h d) = rw (own_step K P M M' μ μ' h, lt-ltb G.bounds.depth μ'.depth d)

  -- what the function says of the relation
  abbrev pub IsSo : Position → Next → Type 0
  IsSo p (goes_on q) = G ⊢ p ─ none ⟹ q
  IsSo p (hands a q) = G ⊢ p ─ some a ⟹ q
  IsSo p fails = Fails G p
  IsSo p deep = TooDeep G p
  IsSo p no_step = Unit {0}

  module _ (K : List Pending) (μ : Memory) (P : List ℕ) where
    bound_so : (M M' : Term) (μ' : Memory) (b : Bool) → ltb G.bounds.depth μ'.depth ≡ b → G.meaning ⊢ M ∣ μ ⟶ M' ∣ μ' → IsSo (library_runs K M μ P) (bounded b (library_runs K M' μ' P))
    bound_so M M' μ' true e h = rule.past_bound h (ltb-true _ _ e)
    bound_so M M' μ' false e h = rule.internal h (ltb-false _ _ e)

    get_so : (E : Context) (r : ℕ) (o : Option Value) → at μ.globals r ≡ o → IsSo (library_runs K (plug E (get r)) μ P) (continued G K E (reading o μ) μ P)
    get_so E r none e = tt
    get_so E r (some v) e = bound_so _ _ _ _ refl (step.read E r v e)

    assert_so : (E : Context) (i : ℤ) (b : Bool) → G.meaning.zero i ≡ b → IsSo (library_runs K (plug E (assert (num i))) μ P) (continued G K E (asserting b μ) μ P)
    assert_so E i true e = rule.on_zero E i e
    assert_so E i false e = bound_so _ _ _ _ refl (step.asserted E i e)

    call_so : (E : Context) (m : ℕ) (v : Value) (o : Option Entry) → at μ.names m ≡ o → IsSo (library_runs K (plug E (app (meth m) ⌊ v ⌋)) μ P) (continued G K E (calling o m v μ) μ P)
    call_so E m v none e = tt
    call_so E m v (some (host_name θ θ')) e = rule.library_calls E m v θ θ' e
    call_so E m v (some (library_name x θ M)) e = bound_so _ _ _ _ refl (step.enter E m x θ M v e)

    redex_so : (E : Context) (r : Redex) → IsSo (library_runs K (plug E ⌈ r ⌉) μ P) (continued G K E (contract G.meaning r μ) μ P)
    redex_so E (lam! x θ M) = bound_so _ _ _ _ refl (step.new_name E x θ M)
    redex_so E (let! x v M) = bound_so _ _ _ _ refl (step.let_value E x v M)
    redex_so E (op! o i j) = bound_so _ _ _ _ refl (step.operate E o i j)
    redex_so E (fst! v w) = bound_so _ _ _ _ refl (step.first_part E v w)
    redex_so E (snd! v w) = bound_so _ _ _ _ refl (step.second_part E v w)
    redex_so E (ite! i M N) = bound_so _ _ _ _ refl (by_if G.meaning E i M N μ _ refl)
    redex_so E (get! r) = get_so E r _ refl
    redex_so E (put! r v) = bound_so _ _ _ _ refl (step.write E r v)
    redex_so E (assert! i) = assert_so E i _ refl
    redex_so E (call! m v) = call_so E m v _ refl
    redex_so E (leave! v) = bound_so _ _ _ _ refl (step.leave E v)

  answer_so : (K : List Pending) (μ : Memory) (P : List ℕ) (v : Value) → IsSo (library_runs K ⌊ v ⌋ μ P) (answering K v μ P)
  answer_so (host_waits m l ∷ K) μ P v = rule.library_answers m l v
  answer_so K μ P v = tt

  parts_so : (K : List Pending) (M : Term) (μ : Memory) (P : List ℕ) (s : Parts) → MadeOf M s → IsSo (library_runs K M μ P) (next_by G K s μ P)
  parts_so K M μ P (value v) h = rw h at (answer_so K μ P v)
  parts_so K M μ P (redex E r) h = rw h at (redex_so K μ P E r)
  parts_so K M μ P neither h = tt

  pub next_so : (K : List Pending) (M : Term) (μ : Memory) (P : List ℕ) → IsSo (library_runs K M μ P) (library_next G K M μ P)
  next_so K M μ P = parts_so K M μ P (parts M) (parts_are M)
