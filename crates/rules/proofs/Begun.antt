-- A mounted library begins typed, so it is never stuck.
use Rattle.std.proofs.Common.{◌≡◌, ℕ, zero, suc, ◌+◌, ◌<◌, ◌≤◌, true, List, [], ◌∷◌, ◌++◌, length, get_or, ℤ, Some, sym, refl, ap, ◌∙◌, subst, inl, inr, append_assoc, append-nil, arith, length-append}
use Rattle.std.proofs.Math.Logic.{⊎_elim}
use mathlib.Core.List.{Memᴰ}
use mathlib.Core.Option.{some}
use Rattle.std.specs.List.{slice_get}
use Rattle.std.proofs.lemmas.Option.{get_or_from_slice_get}
use Rattle.std.proofs.str.Laws.{order}
use Rattle.arithmetic.specs.Meaning.{Meaning}
use Rattle.faults.specs.declared.TextFault.TheVariants.{Limit}
use Rattle.rows.specs.declared.forms.TypeForm.{TypeForm}
use Rattle.rows.specs.declared.forms.TypeForm.TheVariants.{Unit as UnitType, Int as IntType, Pair as PairType, Fun as FunType}
use Rattle.rows.specs.declared.forms.MethodForm.{MethodForm}
use Rattle.rows.specs.declared.forms.MethodForm.TheVariants.{Abstract, Public, Private}
use Rattle.rows.specs.declared.forms.TermForm.TheVariants.{Num, Lam}
use Rattle.rows.specs.declared.forms.Row.{Row}
use Rattle.rows.specs.declared.forms.Row.TheVariants.{«Type» as TypeRow, Variable as VariableRow, Method as MethodRow, Global as GlobalRow}
use Rattle.rows.specs.declared.forms.Section.{Section}
use Rattle.rows.specs.declared.forms.Section.TheVariants.{Variables, Methods, Globals}
use Rattle.rows.specs.Sections.{section, limit, count}
use Rattle.rows.specs.Faults.{NoneOf, RowFault, WithinLimits, row_leaves}
use Rattle.rows.specs.Types.{Tree, leaves, tree, types_after, types, unit as unit_type, int as int_type, fun as function_type}
use Rattle.rows.proofs.Admits.{count_push, types_push}
use Rattle.library.specs.Listing.{section_rows, method_type, method_type_of, global_type_of, variable_type_of}
use Rattle.library.specs.Definitions.{ClosedFunction, MethodRule, GlobalRule}
use Rattle.rules.specs.Terms.{Term, word, name, ⟨⟩, lam}
use Rattle.rules.specs.Memory.{Entry, host_name, library_name, Memory, at}
use Rattle.rules.specs.Unfolding.{listed_type, argument, result, variable_types, variable_type, unfolded, Begins, with_word, with_function, begins, method_body, method_entry, method_entries, with_beginning, with_globals, start_memory}
use Rattle.rules.specs.Game.{Game, start}
use Rattle.rules.specs.Mounted.{Mounted, LawfulNumbers}
use Rattle.rules.specs.Laws.{PlayableIsNeverStuck, PlayableHasFewNames}
use Rattle.rules.proofs.Typed.{Typed, Grows}
use Rattle.rules.proofs.Unfolded.{EachGood, good_from, form_at, tree_typed}
use Rattle.rules.proofs.Counts.{within_steps}
use Rattle.rules.proofs.Places.{push}
use Rattle.rules.proofs.Preserved.{Small, EntryOk, EntriesOk, GlobalOk, GlobalsOk, PositionOk, entry_grow, globals_grow, grows_push, with_one, new_type, run_ok, typed_goes}

-- what a row may not break
limits_stable : (b : List Row) (r : Row) → NoneOf (RowFault true b r) → (count (section r) b < limit (section r)) × (row_leaves b r ≤ 4)
limits_stable b r h = (
  ⊎_elim (λ lt. lt) (λ le. absurd (no (λ w. omega arith))) (order (count (section r) b) (limit (section r))),
  ⊎_elim (λ lt. absurd (no (λ w. omega arith))) (λ le. le) (order 4 (row_leaves b r)),
)
  where
    no : (WithinLimits b r → ⊥) → ⊥
    no f = h Limit (inl f)

-- the listed types are small
abbrev AllSmall : List Tree → Type 0
AllSmall ts = (n : ℕ) → Small (get_or ts n unit_type)

small_push : (ts : List Tree) (θ : Tree) → AllSmall ts → Small θ → AllSmall (ts ++ (θ ∷ []))
small_push [] θ h k zero = k
small_push [] θ h k (suc n) = tt
small_push (t ∷ ts) θ h k zero = h zero
small_push (t ∷ ts) θ h k (suc n) = small_push ts θ (λ m. h (suc m)) k n

tree_small : (ts : List Tree) (f : TypeForm) → AllSmall ts → leaves (tree ts f) ≤ 4 → Small (tree ts f)
tree_small ts UnitType h k = tt
tree_small ts IntType h k = tt
tree_small ts (PairType a b) h k = (k, h a, h b)
tree_small ts (FunType a b) h k = (h a, h b)

types_small : (b : List Row) (ts : List Tree) (rows : List Row) → EachGood b rows → types_after [] b ≡ ts → AllSmall ts → AllSmall (types_after ts rows)
types_small b ts [] good e h = h
types_small b ts (TypeRow n f ∷ rows) good e h =
    let few : leaves (tree ts f) ≤ 4 = rw e at (limits_stable b (TypeRow n f) good.0).1 in
    types_small (b ++ (TypeRow n f ∷ [])) (ts ++ (tree ts f ∷ [])) rows good.1 (types_push [] b (TypeRow n f) ∙ ap (λ x. x ++ (tree x f ∷ [])) e) (small_push ts (tree ts f) h (tree_small ts f h few))
types_small b ts (row ∷ rows) good e h = types_small (b ++ (row ∷ [])) ts rows good.1 (types_push [] b row ∙ e) h

-- rows of a section stay within its limit, where no row passes it
few : (s : Section) (most : ℕ) → ((b : List Row) (row : Row) → NoneOf (RowFault true b row) → count s b ≤ most → count s b + count s (row ∷ []) ≤ most) → (b rows : List Row) → EachGood b rows → count s b ≤ most → count s b + count s rows ≤ most
few s most room b [] good h = omega arith
few s most room b (row ∷ rows) good h =
    let here = room b row good.0 h in
    let k = few s most room (b ++ (row ∷ [])) rows good.1 (omega (arith, count_push s b row)) in
    omega (arith, count_push s b row)

-- at most 64 methods and 16 globals
few_methods : (b : List Row) (row : Row) → NoneOf (RowFault true b row) → count Methods b ≤ 64 → count Methods b + count Methods (row ∷ []) ≤ 64
few_methods b (MethodRow n f) good h = let low = (limits_stable b (MethodRow n f) good).0 in omega arith
few_methods b row good h = omega arith

few_globals : (b : List Row) (row : Row) → NoneOf (RowFault true b row) → count Globals b ≤ 16 → count Globals b + count Globals (row ∷ []) ≤ 16
few_globals b (GlobalRow n t x) good h = let low = (limits_stable b (GlobalRow n t x) good).0 in omega arith
few_globals b row good h = omega arith

method_count : (all rows : List Row) → length (method_entries all rows) ≡ count Methods rows
method_count all [] = refl
method_count all (MethodRow n f ∷ rows) = let k = method_count all rows in omega arith
method_count all (row ∷ rows) = let k = method_count all rows in omega arith

one_more : (g : Begins) (μ : Memory) → length (with_beginning g μ).names ≤ length μ.names + 1
one_more (with_word i) μ = omega arith
one_more (with_function e) μ = omega (arith, length-append μ.names (e ∷ []))

names_count : (all rows : List Row) (μ : Memory) → length (with_globals all rows μ).names ≤ length μ.names + count Globals rows
names_count all [] μ = omega arith
names_count all (GlobalRow n t x ∷ rows) μ =
    let k = names_count all rows (with_beginning (begins (unfolded all x)) μ) in
    let one = one_more (begins (unfolded all x)) μ in
    omega arith
names_count all (row ∷ rows) μ = let k = names_count all rows μ in omega arith

-- the types of the methods and of the globals
abbrev method_types : List Row → List Row → List Tree
method_types all [] = []
method_types all (MethodRow n f ∷ rows) = listed_type all (method_type f) ∷ method_types all rows
method_types all (row ∷ rows) = method_types all rows

abbrev global_types : List Row → List Row → List Tree
global_types all [] = []
global_types all (GlobalRow n t x ∷ rows) = listed_type all t ∷ global_types all rows
global_types all (row ∷ rows) = global_types all rows

method_known : (all rows : List Row) (m k : ℕ) → method_type_of (slice_get (section_rows Methods rows) m) ≡ Some k → at (method_types all rows) m ≡ some (listed_type all k)
method_known all [] m k e = cc
method_known all (MethodRow n f ∷ rows) zero k e = cc
method_known all (MethodRow n f ∷ rows) (suc m) k e = method_known all rows m k e
method_known all (row ∷ rows) m k e = method_known all rows m k e

global_known : (all rows : List Row) (r k : ℕ) → global_type_of (slice_get (section_rows Globals rows) r) ≡ Some k → at (global_types all rows) r ≡ some (listed_type all k)
global_known all [] r k e = cc
global_known all (GlobalRow n t x ∷ rows) zero k e = cc
global_known all (GlobalRow n t x ∷ rows) (suc r) k e = global_known all rows r k e
global_known all (row ∷ rows) r k e = global_known all rows r k e

variable_known : (rows : List Row) (x k : ℕ) → variable_type_of (slice_get (section_rows Variables rows) x) ≡ Some k → get_or (variable_types rows) x 0 ≡ k
variable_known [] x k e = cc
variable_known (VariableRow n t ∷ rows) zero k e = cc
variable_known (VariableRow n t ∷ rows) (suc x) k e = variable_known rows x k e
variable_known (row ∷ rows) x k e = variable_known rows x k e

module _ (rows : List Row) (A : Meaning) (mounted : Mounted rows) (lawful : LawfulNumbers A rows) where
  abbrev V : ℕ → Tree
  V = variable_type rows

  abbrev Γ : List Tree
  Γ = global_types rows rows

  abbrev Σ : List Tree
  Σ = method_types rows rows

  listed_small : (t : ℕ) → Small (listed_type rows t)
  listed_small t = types_small [] [] rows (good_from [] rows mounted.faultless) refl (λ n. tt) t

  -- a term that is a closed function of a type
  closed_tree : (t e : ℕ) → ClosedFunction rows t e → (x : ℕ) × (M : Term) × (unfolded rows e ≡ lam x (V x) M) × EntryOk V Γ A Σ (library_name x (V x) M) (listed_type rows t)
  closed_tree t e c =
      let w = form_at rows mounted.faultless e (Lam c.variable c.body) c.lam in
      let typed : Typed V Γ A Σ [] (unfolded rows e) (function_type c.typed_as.argument c.typed_as.result) =
      tree_typed rows mounted.faultless Γ A Σ
      (λ m θ h. method_known rows rows m h.number h.is ∙ ap some (get_or_from_slice_get (types rows) h.number θ unit_type h.named))
      (λ r θ h. global_known rows rows r h.number h.is ∙ ap some (get_or_from_slice_get (types rows) h.number θ unit_type h.named))
      (λ x θ h. sym (ap (listed_type rows) (variable_known rows x h.number h.is) ∙ get_or_from_slice_get (types rows) h.number θ unit_type h.named))
      lawful e _ c.typed [] (λ x f. absurd (c.closed x f))
      in
      let k = rw w.1 at typed in
      let is = get_or_from_slice_get (types rows) t _ unit_type c.typed_as.named in
      (c.variable, get_or w.0 c.body ⟨⟩, w.1, (k.1, rw k.2 at is, refl, k.3))

  closed_entry : (t e : ℕ) → ClosedFunction rows t e → EntryOk V Γ A Σ (method_body (begins (unfolded rows e))) (listed_type rows t)
  closed_entry t e c =
      let k = closed_tree t e c in
      rw k.2 k.3

  function_entry : (θ a r : Tree) → θ ≡ function_type a r → Small θ → EntryOk V Γ A Σ (host_name (argument θ) (result θ)) θ
  function_entry θ a r e s = subst (λ (y : Tree). Small y → EntryOk V Γ A Σ (host_name (argument y) (result y)) y) (sym e) (λ k. (refl, k.0, k.1)) s

  method_ok : (f : MethodForm) → MethodRule rows f → EntryOk V Γ A Σ (method_entry rows f) (listed_type rows (method_type f))
  method_ok (Abstract t) c = function_entry (listed_type rows t) c.argument c.result (get_or_from_slice_get (types rows) t _ unit_type c.named) (listed_small t)
  method_ok (Public t e) c = closed_entry t e c
  method_ok (Private t e) c = closed_entry t e c

  methods_ok : (rs : List Row) → ((n : ℕ) (f : MethodForm) → Memᴰ (MethodRow n f) rs → MethodRule rows f) → EntriesOk V Γ A Σ (method_entries rows rs) (method_types rows rs)
  methods_ok [] h = tt
  methods_ok (MethodRow n f ∷ rs) h = (method_ok f (h n f (Memᴰ.head refl)), methods_ok rs (λ m g i. h m g (Memᴰ.tail i)))
  methods_ok (row ∷ rs) h = methods_ok rs (λ m g i. h m g (Memᴰ.tail i))

  -- a memory whose globals have the types that are done so far
  abbrev Begun : Memory → List Tree → Type 0
  Begun μ done = (Σ' : List Tree) × Grows V Γ A Σ Σ' × EntriesOk V Γ A Σ' μ.names Σ' × GlobalsOk V Γ A Σ' μ.globals done

  word_begun : (μ : Memory) (done : List Tree) (θ : Tree) (i : ℤ) → θ ≡ int_type → A.lawful i ≡ true → Begun μ done → Begun (with_beginning (with_word i) μ) (done ++ (θ ∷ []))
  word_begun μ done θ i e l b = (b.0, b.1, b.2, push (GlobalOk V Γ A b.0) μ.globals done (word i) θ b.3 (e, l))

  function_begun : (μ : Memory) (done : List Tree) (θ : Tree) (x : Entry) → EntryOk V Γ A Σ x θ → Begun μ done → Begun (with_beginning (with_function x) μ) (done ++ (θ ∷ []))
  function_begun μ done θ x e b = (
    b.0 ++ (θ ∷ []),
    (λ m ρ d. grows_push V Γ A b.0 θ m ρ (b.1 m ρ d)),
    with_one V Γ A b.0 μ.names x θ b.2 (entry_grow V Γ A Σ b.0 b.1 x θ e),
    push (GlobalOk V Γ A (b.0 ++ (θ ∷ []))) μ.globals done (name (length μ.names)) θ (globals_grow V Γ A b.0 (b.0 ++ (θ ∷ [])) (grows_push V Γ A b.0 θ) μ.globals done b.3) (new_type V Γ A b.0 μ.names θ b.2),
  )

  global_begun : (t e : ℕ) (μ : Memory) (done : List Tree) → GlobalRule rows t e → Begun μ done → Begun (with_beginning (begins (unfolded rows e)) μ) (done ++ (listed_type rows t ∷ []))
  global_begun t e μ done (inl c) b =
      let w = form_at rows mounted.faultless e (Num c.word) c.num in
      rw w.1 (word_begun μ done (listed_type rows t) c.word (get_or_from_slice_get (types rows) t int_type unit_type c.int_type) (lawful e c.word c.num) b)
  global_begun t e μ done (inr c) b =
      let k = closed_tree t e c in
      rw k.2 (function_begun μ done (listed_type rows t) (library_name k.0 (V k.0) k.1) k.3 b)

  globals_begun : (rs : List Row) (μ : Memory) (done : List Tree) → ((n t e : ℕ) → Memᴰ (GlobalRow n t e) rs → GlobalRule rows t e) → Begun μ done → Begun (with_globals rows rs μ) (done ++ global_types rows rs)
  globals_begun [] μ done h b = rw (← append-nil done) at b
  globals_begun (GlobalRow n t e ∷ rs) μ done h b =
      rw (append_assoc done (listed_type rows t ∷ []) (global_types rows rs)) at
      (globals_begun rs (with_beginning (begins (unfolded rows e)) μ) (done ++ (listed_type rows t ∷ [])) (λ m u x i. h m u x (Memᴰ.tail i)) (global_begun t e μ done (h n t e (Memᴰ.head refl)) b))
  globals_begun (row ∷ rs) μ done h b = globals_begun rs μ done (λ m t e i. h m t e (Memᴰ.tail i)) b

  start_begun : Begun (start_memory rows) Γ
  start_begun = globals_begun rows (record { names = method_entries rows rows; globals = []; depth = 0 }) [] mounted.globals (Σ, (λ m θ d. d), methods_ok rows mounted.methods, tt)

  start_names : length (start_memory rows).names ≤ 80
  start_names =
      let good = good_from [] rows mounted.faultless in
      let m = few Methods 64 few_methods [] rows good (omega arith) in
      let g = few Globals 16 few_globals [] rows good (omega arith) in
      let c = method_count rows rows in
      let n = names_count rows rows (record { names = method_entries rows rows; globals = []; depth = 0 }) in
      omega arith

start_ok : (G : Game) → (m : Mounted G.rows) → (l : LawfulNumbers G.meaning G.rows) → PositionOk (variable_type G.rows) (global_types G.rows G.rows) G.meaning (start G)
start_ok G m l = let b = start_begun G.rows G.meaning m l in (b.0, (b.2, b.3), tt)

pub playable_is_never_stuck : PlayableIsNeverStuck
playable_is_never_stuck G playable trace p t run =
    let m = playable.mounted in
    let l = playable.lawful in
    let closed = playable.closed in
    let small : (x : ℕ) → Small (variable_type G.rows x) = λ x. listed_small G.rows G.meaning m l _ in
    let ok = run_ok G (variable_type G.rows) (global_types G.rows G.rows) closed small (start G) p 0 t trace run (start_ok G m l) in
    typed_goes G (variable_type G.rows) (global_types G.rows G.rows) closed small p t (within_steps G _ _ 0 t trace (omega arith) run) ok.0

pub playable_has_few_names : PlayableHasFewNames
playable_has_few_names G playable trace p t run =
    let m = playable.mounted in
    let l = playable.lawful in
    let closed = playable.closed in
    let small : (x : ℕ) → Small (variable_type G.rows x) = λ x. listed_small G.rows G.meaning m l _ in
    let ok = run_ok G (variable_type G.rows) (global_types G.rows G.rows) closed small (start G) p 0 t trace run (start_ok G m l) in
    let begun = start_names G.rows G.meaning m l in
    let within = within_steps G _ _ 0 t trace (omega arith) run in
    omega (arith, ok.1)
