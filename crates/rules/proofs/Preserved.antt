-- Typed positions: each step of the game keeps them typed and adds at most four names, and none is stuck.
use Rattle.std.proofs.Common.{◌≡◌, ℕ, suc, ◌+◌, ◌*◌, ◌<◌, ◌≤◌, Bool, true, false, List, [], ◌∷◌, ◌++◌, length, sym, refl, ap, ◌∙◌, subst, inl, inr, arith, length-append}
use Rattle.std.proofs.Math.Logic.{⊎_elim}
use mathlib.Core.Option.{Option, none, some}
use Rattle.std.specs.List.{AllZip}
use Rattle.std.proofs.str.Laws.{order}
use Rattle.arithmetic.specs.Meaning.{Meaning, Closed}
use Rattle.rows.specs.Types.{Tree, leaves, unit as unit_type, int as int_type, pair as pair_type, fun as function_type}
use Rattle.rules.specs.Terms.{Term, Value, Context, plug, ⌊◌⌋, ◌⟨◌/◌⟩}
use Rattle.rules.specs.Terms.{⟨⟩, num, meth, get, lam, put, op, tuple, fst, snd, app, ite, let_in, assert, ⟪◌⟫}
use Rattle.rules.specs.Memory.{Entry, host_name, library_name, Memory, at}
use Rattle.rules.specs.Steps.{State, ◌∣◌, ◌⊢◌⟶◌}
use Rattle.rules.specs.Steps as step
use Rattle.rules.specs.Stepping.{Redex, ⌈◌⌉, Parts, value, redex, neither, parts, contract, reading, asserting, calling}
use Rattle.rules.specs.Stepping.{get!, assert!, call! }
use Rattle.rules.specs.Game.{Game, Pending, library_waits, host_waits, Position, library_runs, host_turn, Pass, Says, ◌⊢◌─◌⟹◌, Fails, TooDeep}
use Rattle.rules.specs.Game as rule
use Rattle.rules.specs.Plays.{Run, Ends, Ending}
use Rattle.rules.specs.Plays as play
use Rattle.rules.specs.Enumeration.{Next, goes_on, hands, fails, deep, no_step, answering, bounded, continued, next_by, library_next}
use Rattle.rules.specs.Laws.{GoesOn, names_at}
use Rattle.rules.proofs.Exact.{parts_are, MadeOf}
use Rattle.rules.proofs.Nexts.{IsSo, next_so}
use Rattle.rules.proofs.Places.{at_here, at_more, across, back, set_at, push, as_long, weaker}
use Rattle.rules.proofs.Typed.{Typed, Grows, weaken, Takes, plugged, Functions, Fine, fine, body_replaced}

-- a type and the types in it have at most four leaves
abbrev pub Small : Tree → Type 0
Small unit_type = Unit {0}
Small int_type = Unit {0}
Small (pair_type θ θ') = (leaves θ + leaves θ' ≤ 4) × Small θ × Small θ'
Small (function_type θ θ') = Small θ × Small θ'

few_leaves : (θ : Tree) → Small θ → leaves θ ≤ 4
few_leaves unit_type h = omega arith
few_leaves int_type h = omega arith
few_leaves (pair_type θ θ') h = h.0
few_leaves (function_type θ θ') h = omega arith

module _ (V : ℕ → Tree) (Γ : List Tree) (A : Meaning) where
  abbrev pub EntryOk : List Tree → Entry → Tree → Type 0
  EntryOk Σ (host_name ρ σ) θ = (θ ≡ function_type ρ σ) × Small ρ × Small σ
  EntryOk Σ (library_name x ρ M) θ = (σ : Tree) × (θ ≡ function_type ρ σ) × (ρ ≡ V x) × Typed V Γ A Σ (x ∷ []) M σ

  -- what stands behind each name has its type, and so has the value of each global
  abbrev pub EntriesOk : List Tree → List Entry → List Tree → Type 0
  EntriesOk Σ = AllZip (EntryOk Σ)

  abbrev pub GlobalOk : List Tree → Value → Tree → Type 0
  GlobalOk Σ v θ = Typed V Γ A Σ [] ⌊ v ⌋ θ

  abbrev pub GlobalsOk : List Tree → List Value → List Tree → Type 0
  GlobalsOk Σ = AllZip (GlobalOk Σ)

  abbrev pub MemoryOk : List Tree → Memory → Type 0
  MemoryOk Σ μ = EntriesOk Σ μ.names Σ × GlobalsOk Σ μ.globals Γ

  entry_function : (Σ : List Tree) (e : Entry) (θ : Tree) → EntryOk Σ e θ → (ρ : Tree) × (σ : Tree) × (θ ≡ function_type ρ σ)
  entry_function Σ (host_name ρ σ) θ h = (ρ, σ, h.0)
  entry_function Σ (library_name x ρ M) θ h = (ρ, h.0, h.1)

  functions : (Σ : List Tree) (es : List Entry) → EntriesOk Σ es Σ → Functions V Γ A Σ
  functions Σ es h m θ d = let x = back (EntryOk Σ) es Σ m θ h d in entry_function Σ x.0 θ x.2

  pub entry_grow : (Σ Σ' : List Tree) → Grows V Γ A Σ Σ' → (e : Entry) (θ : Tree) → EntryOk Σ e θ → EntryOk Σ' e θ
  entry_grow Σ Σ' g (host_name ρ σ) θ h = h
  entry_grow Σ Σ' g (library_name x ρ M) θ h = (h.0, h.1, h.2, weaken V Γ A Σ Σ' (x ∷ []) (x ∷ []) g (λ y i. i) M h.0 h.3)

  pub globals_grow : (Σ Σ' : List Tree) → Grows V Γ A Σ Σ' → (vs : List Value) (θs : List Tree) → GlobalsOk Σ vs θs → GlobalsOk Σ' vs θs
  globals_grow Σ Σ' g = weaker (GlobalOk Σ) (GlobalOk Σ') (λ v θ h. weaken V Γ A Σ Σ' [] [] g (λ y i. i) ⌊ v ⌋ θ h)

  pub grows_push : (Σ : List Tree) (θ : Tree) → Grows V Γ A Σ (Σ ++ (θ ∷ []))
  grows_push Σ θ m ρ d = at_more Σ (θ ∷ []) m ρ d

  -- one name more
  pub with_one : (Σ : List Tree) (es : List Entry) (e : Entry) (θ : Tree) → EntriesOk Σ es Σ → EntryOk Σ e θ → EntriesOk (Σ ++ (θ ∷ [])) (es ++ (e ∷ [])) (Σ ++ (θ ∷ []))
  with_one Σ es e θ h k =
      weaker (EntryOk Σ) (EntryOk (Σ ++ (θ ∷ []))) (entry_grow Σ (Σ ++ (θ ∷ [])) (grows_push Σ θ)) (es ++ (e ∷ [])) (Σ ++ (θ ∷ [])) (push (EntryOk Σ) es Σ e θ h k)

  pub new_type : (Σ : List Tree) (es : List Entry) (θ : Tree) → EntriesOk Σ es Σ → at (Σ ++ (θ ∷ [])) (length es) ≡ some θ
  new_type Σ es θ h = rw (← as_long (EntryOk Σ) es Σ h) at (at_here Σ θ [])

  -- a step of the library's own keeps the type, and adds at most one name
  abbrev StateOk : List Tree → Tree → State → Type 0
  StateOk Σ θ (M ∣ μ) = MemoryOk Σ μ × Typed V Γ A Σ [] M θ

  abbrev names_in : State → List Entry
  names_in (M ∣ μ) = μ.names

  abbrev Kept : List Tree → Tree → State → State → Type 0
  Kept Σ θ c d = (Σ' : List Tree) × Grows V Γ A Σ Σ' × StateOk Σ' θ d × (length (names_in d) ≤ length (names_in c) + 1)

  same_memory : (Σ : List Tree) (θ : Tree) (E : Context) (R N : Term) (μ : Memory) → MemoryOk Σ μ → Typed V Γ A Σ [] (plug E R) θ → ((ρ : Tree) → Typed V Γ A Σ [] R ρ → Typed V Γ A Σ [] N ρ) → Kept Σ θ (plug E R ∣ μ) (plug E N ∣ μ)
  same_memory Σ θ E R N μ h k f =
      let p = plugged V Γ A Σ E R θ k in
      (Σ, (λ m ρ d. d), (h, p.2 Σ (λ m ρ d. d) N (f p.0 p.1)), omega arith)

  pub preserved : Closed A → (Σ : List Tree) (θ : Tree) (c d : State) → A ⊢ c ⟶ d → StateOk Σ θ c → Kept Σ θ c d
  preserved closed Σ θ c d (step.new_name E x ρ M {μ}) h =
      let p = plugged V Γ A Σ E (lam x ρ M) θ h.1 in
      let k = p.1 in
      let τ : Tree = function_type ρ k.1 in
      let ok : EntriesOk (Σ ++ (τ ∷ [])) (μ.names ++ (library_name x ρ M ∷ [])) (Σ ++ (τ ∷ [])) = with_one Σ μ.names (library_name x ρ M) τ h.0.0 (k.1, refl, k.0, k.3) in
      let named : Typed V Γ A (Σ ++ (τ ∷ [])) [] (meth (length μ.names)) p.0 = new_type Σ μ.names τ h.0.0 ∙ ap some (sym k.2) in
      (Σ ++ (τ ∷ []), grows_push Σ τ, ((ok, globals_grow Σ (Σ ++ (τ ∷ [])) (grows_push Σ τ) μ.globals Γ h.0.1), p.2 (Σ ++ (τ ∷ [])) (grows_push Σ τ) (meth (length μ.names)) named), omega (arith, length-append μ.names (library_name x ρ M ∷ [])))
  preserved closed Σ θ c d (step.let_value E x v M {μ}) h = same_memory Σ θ E (let_in x ⌊ v ⌋ M) (M ⟨ v / x ⟩) μ h.0 h.1 (λ ρ k. body_replaced V Γ A Σ v x k.0 M ρ k.1)
  preserved closed Σ θ c d (step.operate E o i j {μ}) h =
      same_memory Σ θ E (op o (num i) (num j)) (num (A.result o i j)) μ h.0 h.1 (λ ρ k. (k.0, closed.result_lawful o i j k.1.1 k.2.1))
  preserved closed Σ θ c d (step.first_part E v w {μ}) h = same_memory Σ θ E (fst (tuple ⌊ v ⌋ ⌊ w ⌋)) ⌊ v ⌋ μ h.0 h.1 (λ ρ k. left ρ k)
    where
      left : (ρ : Tree) → (σ : Tree) × ((a : Tree) × (b : Tree) × (pair_type ρ σ ≡ pair_type a b) × Typed V Γ A Σ [] ⌊ v ⌋ a × Typed V Γ A Σ [] ⌊ w ⌋ b) → Typed V Γ A Σ [] ⌊ v ⌋ ρ
      left ρ k = let same : k.1.0 ≡ ρ = cc in rw same at k.1.3
  preserved closed Σ θ c d (step.second_part E v w {μ}) h = same_memory Σ θ E (snd (tuple ⌊ v ⌋ ⌊ w ⌋)) ⌊ w ⌋ μ h.0 h.1 (λ ρ k. right ρ k)
    where
      right : (ρ : Tree) → (σ : Tree) × ((a : Tree) × (b : Tree) × (pair_type σ ρ ≡ pair_type a b) × Typed V Γ A Σ [] ⌊ v ⌋ a × Typed V Γ A Σ [] ⌊ w ⌋ b) → Typed V Γ A Σ [] ⌊ w ⌋ ρ
      right ρ k = let same : k.1.1 ≡ ρ = cc in rw same at k.1.4
  preserved closed Σ θ c d (step.if_true E i M N {μ} e) h = same_memory Σ θ E (ite (num i) M N) M μ h.0 h.1 (λ ρ k. k.1)
  preserved closed Σ θ c d (step.if_false E i M N {μ} e) h = same_memory Σ θ E (ite (num i) M N) N μ h.0 h.1 (λ ρ k. k.2)
  preserved closed Σ θ c d (step.read E r v {μ} e) h = same_memory Σ θ E (get r) ⌊ v ⌋ μ h.0 h.1 (λ ρ k. held ρ k)
    where
      held : (ρ : Tree) → at Γ r ≡ some ρ → Typed V Γ A Σ [] ⌊ v ⌋ ρ
      held ρ k =
          let g = back (GlobalOk Σ) μ.globals Γ r ρ h.0.1 k in
          let same : g.0 ≡ v = cc in
          rw same at g.2
  preserved closed Σ θ c d (step.write E r v {μ}) h =
      let p = plugged V Γ A Σ E (put r ⌊ v ⌋) θ h.1 in
      let k = p.1 in
      (Σ, (λ m ρ e. e), ((h.0.0, set_at (GlobalOk Σ) μ.globals Γ r v k.1 h.0.1 k.2 k.3), p.2 Σ (λ m ρ e. e) ⟨⟩ k.0), omega arith)
  preserved closed Σ θ c d (step.asserted E i {μ} e) h = same_memory Σ θ E (assert (num i)) ⟨⟩ μ h.0 h.1 (λ ρ k. k.0)
  preserved closed Σ θ c d (step.enter E m x ρ M v {μ} e) h =
      let p = plugged V Γ A Σ E (app (meth m) ⌊ v ⌋) θ h.1 in
      let k = p.1 in
      let f = across (EntryOk Σ) μ.names Σ m (library_name x ρ M) h.0.0 e in
      let g : some f.0 ≡ some (function_type k.0 p.0) = cc in
      let t : function_type k.0 p.0 ≡ function_type ρ f.2.0 = (let s : f.0 ≡ function_type k.0 p.0 = cc in sym s ∙ f.2.1) in
      (Σ, (λ n σ a. a), (h.0, p.2 Σ (λ n σ a. a) ⟪ M ⟨ v / x ⟩ ⟫ (inside k.0 p.0 ρ f.2.0 f.2.2 f.2.3 k.2 t)), omega arith)
    where
      inside : (a b ρ σ : Tree) → ρ ≡ V x → Typed V Γ A Σ (x ∷ []) M σ → Typed V Γ A Σ [] ⌊ v ⌋ a → function_type a b ≡ function_type ρ σ → Typed V Γ A Σ [] (M ⟨ v / x ⟩) b
      inside a b ρ σ is body arg t =
          let s : a ≡ V x = (let z : a ≡ ρ = cc in z ∙ is) in
          let u : σ ≡ b = cc in
          body_replaced V Γ A Σ v x (rw s at arg) M b (rw u at body)
  preserved closed Σ θ c d (step.leave E v {μ}) h =
      let p = plugged V Γ A Σ E ⟪ ⌊ v ⌋ ⟫ θ h.1 in
      (Σ, (λ m ρ e. e), (h.0, p.2 Σ (λ m ρ e. e) ⌊ v ⌋ p.1), omega arith)

  -- what is pending: where the library runs, a host call waits for it, and where the host has the turn, no call or a call
  -- of a host name, in a context that takes its result
  abbrev pub PendingOk : Bool → List Tree → List Pending → Type 0
  PendingOk true Σ [] = ⊥
  PendingOk false Σ [] = Unit {0}
  PendingOk true Σ (host_waits m l ∷ K) = PendingOk false Σ K
  PendingOk false Σ (host_waits m l ∷ K) = ⊥
  PendingOk true Σ (library_waits m E ∷ K) = ⊥
  PendingOk false Σ (library_waits m E ∷ K) = (ρ : Tree) × (σ : Tree) × (θ : Tree) × (at Σ m ≡ some (function_type ρ σ)) × Takes V Γ A Σ E σ θ × PendingOk true Σ K

  pending_grow : (Σ Σ' : List Tree) → Grows V Γ A Σ Σ' → (b : Bool) (K : List Pending) → PendingOk b Σ K → PendingOk b Σ' K
  pending_grow Σ Σ' g true (host_waits m l ∷ K) h = pending_grow Σ Σ' g false K h
  pending_grow Σ Σ' g false (library_waits m E ∷ K) h =
      (h.0, h.1, h.2, g m (function_type h.0 h.1) h.3, (λ Σ'' g' N k. h.4 Σ'' (λ n ρ d. g' n ρ (g n ρ d)) N k), pending_grow Σ Σ' g true K h.5)
  pending_grow Σ Σ' g b K h = h

  abbrev pub PositionOk : Position → Type 0
  PositionOk (library_runs K M μ P) = (Σ : List Tree) × (θ : Tree) × MemoryOk Σ μ × Typed V Γ A Σ [] M θ × PendingOk true Σ K
  PositionOk (host_turn K l μ P) = (Σ : List Tree) × MemoryOk Σ μ × PendingOk false Σ K

  -- what the host says has its type, and adds at most as many names as the type has leaves
  said_typed : Closed A → (θ : Tree) (R : List Entry) (v : Value) (R' : List Entry) → Says A θ R v R' → (Σ : List Tree) → Small θ → EntriesOk Σ R Σ → (Σ' : List Tree) × Grows V Γ A Σ Σ' × EntriesOk Σ' R' Σ' × Typed V Γ A Σ' [] ⌊ v ⌋ θ × (length R' ≤ length R + leaves θ)
  said_typed closed θ R v R' rule.says_unit Σ s h = (Σ, (λ m ρ d. d), h, refl, omega arith)
  said_typed closed θ R v R' (rule.says_word w d) Σ s h = (Σ, (λ m ρ e. e), h, (refl, closed.may_say_lawful w d), omega arith)
  said_typed closed θ R v R' (rule.says_pair {θ = ρ} {θ' = σ} {R' = R₁} {v = a} {w = b} x y) Σ s h =
      let p = said_typed closed ρ R a R₁ x Σ s.1 h in
      let q = said_typed closed σ R₁ b R' y p.0 s.2 p.2 in
      (q.0, (λ m τ d. q.1 m τ (p.1 m τ d)), q.2, (ρ, σ, refl, weaken V Γ A p.0 q.0 [] [] q.1 (λ z i. i) ⌊ a ⌋ ρ p.3, q.3), omega (arith, p.4, q.4))
  said_typed closed θ R v R' (rule.says_function {θ = ρ} {θ' = σ}) Σ s h =
      (Σ ++ (function_type ρ σ ∷ []), grows_push Σ (function_type ρ σ), with_one Σ R (host_name ρ σ) (function_type ρ σ) h (refl, s.0, s.1), new_type Σ R (function_type ρ σ) h, omega (arith, length-append R (host_name ρ σ ∷ [])))

  abbrev FewMore : Position → Position → Type 0
  FewMore p q = length (names_at q) ≤ length (names_at p) + 4

module _ (G : Game) (V : ℕ → Tree) (Γ : List Tree) (closed : Closed G.meaning) (small : (x : ℕ) → Small (V x)) where
  abbrev A : Meaning
  A = G.meaning

  -- each step keeps a position typed, and adds at most four names
  pub step_ok : (p q : Position) (b : Option Pass) → G ⊢ p ─ b ⟹ q → PositionOk V Γ A p → PositionOk V Γ A q × FewMore V Γ A p q
  step_ok p q b (rule.internal {K} {M} {M'} {μ} {μ'} {P} h d) ok =
      let k = preserved V Γ A closed ok.0 ok.1 (M ∣ μ) (M' ∣ μ') h (ok.2, ok.3) in
      ((k.0, ok.1, k.2.0, k.2.1, pending_grow V Γ A ok.0 k.0 k.1 true K ok.4), omega (arith, k.3))
  step_ok p q b (rule.library_calls E m v θ θ' {K} {μ} {P} h) ok =
      let k = plugged V Γ A ok.0 E (app (meth m) ⌊ v ⌋) ok.1 ok.3 in
      ((ok.0, ok.2, (k.1.0, k.0, ok.1, k.1.1, k.2, ok.4)), omega arith)
  step_ok p q b (rule.library_answers m l v) ok = ((ok.0, ok.2, ok.4), omega arith)
  step_ok p q b (rule.host_calls m x l θ M v R {K} {μ} {P} i lt h s) ok =
      let e = across (EntryOk V Γ A ok.0) μ.names ok.0 m (library_name x θ M) ok.1.0 h in
      let few : Small θ = subst Small (sym e.2.2) (small x) in
      let k = said_typed V Γ A closed θ μ.names v R s ok.0 few ok.1.0 in
      let called : Typed V Γ A k.0 [] (app (meth m) ⌊ v ⌋) e.2.0 = (θ, k.1 m (function_type θ e.2.0) (e.1 ∙ ap some e.2.1), k.3) in
      ((k.0, e.2.0, (k.2, globals_grow V Γ A ok.0 k.0 k.1 μ.globals Γ ok.1.1), called, pending_grow V Γ A ok.0 k.0 k.1 false K ok.2), omega (arith, k.4, few_leaves θ few))
  step_ok p q b (rule.host_answers m l E θ θ' v R {K} {μ} {P} h s) ok =
      let w = ok.2 in
      let e = across (EntryOk V Γ A ok.0) μ.names ok.0 m (host_name θ θ') ok.1.0 h in
      let few : Small θ' = e.2.2 in
      let k = said_typed V Γ A closed θ' μ.names v R s ok.0 few ok.1.0 in
      let r : θ' ≡ w.1 = cc in
      let goes : Typed V Γ A k.0 [] (plug E ⌊ v ⌋) w.2 = w.4 k.0 k.1 ⌊ v ⌋ (rw (← r) k.3) in
      ((k.0, w.2, (k.2, globals_grow V Γ A ok.0 k.0 k.1 μ.globals Γ ok.1.1), goes, pending_grow V Γ A ok.0 k.0 k.1 true K w.5), omega (arith, k.4, few_leaves θ' few))

  pub run_ok : (p q : Position) (t u : ℕ) (trace : List Pass) → Run G p t trace q u → PositionOk V Γ A p → PositionOk V Γ A q × (length (names_at q) + 4 * t ≤ length (names_at p) + 4 * u)
  run_ok p q t u trace play.stays ok = (ok, omega arith)
  run_ok p q t u trace (play.inside {q = r} lt h run) ok =
      let s = step_ok p r none h ok in
      let k = run_ok r q (suc t) u trace run s.0 in
      (k.0, omega (arith, k.1, s.1))
  run_ok p q t u trace (play.passes {q = r} {a = a} {trace = rest} lt h run) ok =
      let s = step_ok p r (some a) h ok in
      let k = run_ok r q (suc t) u rest run s.0 in
      (k.0, omega (arith, k.1, s.1))

  -- a typed position is not stuck
  no_stuck_answer : (K : List Pending) (Σ : List Tree) (v : Value) (μ : Memory) (P : List ℕ) → PendingOk V Γ A true Σ K → answering K v μ P ≡ no_step → ⊥
  no_stuck_answer (host_waits m l ∷ K) Σ v μ P h e = cc
  no_stuck_answer K Σ v μ P h e = h

  bounded_some : (b : Bool) (q : Position) → bounded b q ≡ no_step → ⊥
  bounded_some true q e = cc
  bounded_some false q e = cc

  module _ (K : List Pending) (E : Context) (μ : Memory) (P : List ℕ) where
    reading_some : (o : Option Value) (v : Value) → o ≡ some v → continued G K E (reading o μ) μ P ≡ no_step → ⊥
    reading_some none v d e = cc
    reading_some (some w) v d e = bounded_some _ _ e

    asserting_some : (b : Bool) → continued G K E (asserting b μ) μ P ≡ no_step → ⊥
    asserting_some true e = cc
    asserting_some false e = bounded_some _ _ e

    calling_some : (o : Option Entry) (m : ℕ) (v : Value) (x : Entry) → o ≡ some x → continued G K E (calling o m v μ) μ P ≡ no_step → ⊥
    calling_some none m v x d e = cc
    calling_some (some (host_name θ θ')) m v x d e = cc
    calling_some (some (library_name y θ M)) m v x d e = bounded_some _ _ e

    redex_some : (Σ : List Tree) (ρ : Tree) (r : Redex) → MemoryOk V Γ A Σ μ → Typed V Γ A Σ [] ⌈ r ⌉ ρ → continued G K E (contract A r μ) μ P ≡ no_step → ⊥
    redex_some Σ ρ (get! r) h k e = let g = back (GlobalOk V Γ A Σ) μ.globals Γ r ρ h.1 k in reading_some (at μ.globals r) g.0 g.1 e
    redex_some Σ ρ (assert! i) h k e = asserting_some (A.zero i) e
    redex_some Σ ρ (call! m v) h k e = let g = back (EntryOk V Γ A Σ) μ.names Σ m (function_type k.0 ρ) h.0 k.1 in calling_some (at μ.names m) m v g.0 g.1 e
    redex_some Σ ρ r h k e = bounded_some _ _ e

  parts_some : (K : List Pending) (M : Term) (μ : Memory) (P : List ℕ) (Σ : List Tree) (θ : Tree) (s : Parts) → MadeOf M s → MemoryOk V Γ A Σ μ → Typed V Γ A Σ [] M θ → Fine V Γ A Σ θ s → PendingOk V Γ A true Σ K → next_by G K s μ P ≡ no_step → ⊥
  parts_some K M μ P Σ θ (value v) is h k f w e = no_stuck_answer K Σ v μ P w e
  parts_some K M μ P Σ θ (redex E r) is h k f w e =
      let p = plugged V Γ A Σ E ⌈ r ⌉ θ (rw (← is) at k) in
      redex_some K E μ P Σ p.0 r h p.1 e
  parts_some K M μ P Σ θ neither is h k f w e = f

  next_some : (K : List Pending) (M : Term) (μ : Memory) (P : List ℕ) → PositionOk V Γ A (library_runs K M μ P) → library_next G K M μ P ≡ no_step → ⊥
  next_some K M μ P ok e =
      parts_some K M μ P ok.0 ok.1 (parts M) (parts_are M) ok.2 ok.3 (fine V Γ A ok.0 (functions V Γ A ok.0 μ.names ok.2.0) M ok.1 ok.3) ok.4 e

  next_goes : (p : Position) (t : ℕ) (n : Next) → t < G.bounds.steps → IsSo G p n → (n ≡ no_step → ⊥) → GoesOn G p t
  next_goes p t (goes_on q) lt h some_next = inr (none, q, h)
  next_goes p t (hands a q) lt h some_next = inr (some a, q, h)
  next_goes p t fails lt h some_next = inl (play.failed, suc t, play.fails lt h)
  next_goes p t deep lt h some_next = inl (play.cut_by_depth, t, play.too_deep lt h)
  next_goes p t no_step lt h some_next = absurd (some_next refl)

  within_goes : (p : Position) (t : ℕ) → t < G.bounds.steps → PositionOk V Γ A p → GoesOn G p t
  within_goes (library_runs K M μ P) t lt ok = next_goes (library_runs K M μ P) t (library_next G K M μ P) lt (next_so G K M μ P) (next_some K M μ P ok)
  within_goes (host_turn K l μ P) t lt ok = inl (play.turn, t, play.hands_over lt)

  pub typed_goes : (p : Position) (t : ℕ) → t ≤ G.bounds.steps → PositionOk V Γ A p → GoesOn G p t
  typed_goes p t le ok = ⊎_elim (λ lt. within_goes p t lt ok) (λ ge. inl (play.cut_by_steps, t, play.out_of_steps (omega arith))) (order t G.bounds.steps)
