-- The stepping function takes exactly the steps of the rules, so there is at most one.
use Rattle.std.proofs.Common.{◌≡◌, ℕ, Bool, true, false, [], ◌∷◌, ℤ, sym, refl, ap, ◌∙◌}
use mathlib.Core.Option.{Option, none, some, some-injective}
use Rattle.arithmetic.specs.Meaning.{Meaning}
use Rattle.rules.specs.Terms.{Term, Value, Context, Frame, choose, plug, fill, ⌊◌⌋}
use Rattle.rules.specs.Terms.{num, var, meth, get, put, op, tuple, fst, snd, app, ite, let_in, assert, ⟪◌⟫}
use Rattle.rules.specs.Terms.{unit, word, name, pair}
use Rattle.rules.specs.Terms.{assert•, put•, op•₁, op•₂, tuple•₁, tuple•₂, fst•, snd•, app•₁, app•₂, let•, ite•, box•}
use Rattle.rules.specs.Memory.{Entry, library_name, Memory, at}
use Rattle.rules.specs.Steps.{State, ◌∣◌, ◌⊢◌⟶◌}
use Rattle.rules.specs.Steps as rule
use Rattle.rules.specs.Stepping.{Redex, ⌈◌⌉, Parts, value, redex, neither, parts, under, on_word, on_name, on_pair, to, contract, reading, asserting, calling, within, stepped, next, TakesTheSteps, OneStep}
use Rattle.rules.specs.Stepping.{lam!, let!, op!, fst!, snd!, ite!, get!, put!, assert!, call!, leave! }

-- a value has itself for its parts
pub parts_value : (v : Value) → parts ⌊ v ⌋ ≡ value v
parts_value unit = refl
parts_value (word i) = refl
parts_value (name m) = refl
parts_value (pair v w) = rw (parts_value v, parts_value w)

-- a redex has itself for its parts
parts_redex : (r : Redex) → parts ⌈ r ⌉ ≡ redex [] r
parts_redex (let! x v M) = rw (parts_value v)
parts_redex (fst! v w) = rw (parts_value v, parts_value w)
parts_redex (snd! v w) = rw (parts_value v, parts_value w)
parts_redex (put! r v) = rw (parts_value v)
parts_redex (call! m v) = rw (parts_value v)
parts_redex (leave! v) = rw (parts_value v)
parts_redex r = refl

parts_fill : (f : Frame) (M : Term) (E : Context) (r : Redex) → parts M ≡ redex E r → parts (fill f M) ≡ redex (f ∷ E) r
parts_fill (op•₂ o v) M E r e = rw (parts_value v, e)
parts_fill (tuple•₂ v) M E r e = rw (parts_value v, e)
parts_fill f M E r e = rw e

-- E[redex] has the parts E and the redex
pub parts_plug : (E : Context) (r : Redex) → parts (plug E ⌈ r ⌉) ≡ redex E r
parts_plug [] r = parts_redex r
parts_plug (f ∷ E) r = parts_fill f (plug E ⌈ r ⌉) E r (parts_plug E r)

-- what the parts say of their term
abbrev pub MadeOf : Term → Parts → Type 0
MadeOf M (value v) = ⌊ v ⌋ ≡ M
MadeOf M (redex E r) = plug E ⌈ r ⌉ ≡ M
MadeOf M neither = Unit {0}

under_is : (f : Frame) (N : Term) (s : Parts) (k : Value → Parts) → MadeOf N s → ((v : Value) → ⌊ v ⌋ ≡ N → MadeOf (fill f N) (k v)) → MadeOf (fill f N) (under f s k)
under_is f N (value v) k h g = g v h
under_is f N (redex E r) k h g = ap (fill f) h
under_is f N neither k h g = tt

on_word_is : (M : Term) (k : ℤ → Parts) (v : Value) → ((i : ℤ) → ⌊ v ⌋ ≡ num i → MadeOf M (k i)) → MadeOf M (on_word k v)
on_word_is M k (word i) g = g i refl
on_word_is M k v g = tt

on_name_is : (M : Term) (k : ℕ → Parts) (v : Value) → ((m : ℕ) → ⌊ v ⌋ ≡ meth m → MadeOf M (k m)) → MadeOf M (on_name k v)
on_name_is M k (name m) g = g m refl
on_name_is M k v g = tt

on_pair_is : (M : Term) (k : Value → Value → Parts) (v : Value) → ((a b : Value) → ⌊ v ⌋ ≡ tuple ⌊ a ⌋ ⌊ b ⌋ → MadeOf M (k a b)) → MadeOf M (on_pair k v)
on_pair_is M k (pair a b) g = g a b refl
on_pair_is M k v g = tt

pub parts_are : (M : Term) → MadeOf M (parts M)
parts_are (var x) = tt
parts_are (put r M) = under_is (put• r) M (parts M) _ (parts_are M) (λ v e. ap (put r) e)
parts_are (op o M N) =
    under_is (op•₁ o N) M (parts M) _ (parts_are M)
    (λ v e. rw (← e)
    (under_is (op•₂ o v) N (parts N) _ (parts_are N)
    (λ w d. on_word_is _ _ v (λ i p. on_word_is _ _ w (λ j q. cc)))))
parts_are (tuple M N) =
    under_is (tuple•₁ N) M (parts M) _ (parts_are M)
    (λ v e. rw (← e) (under_is (tuple•₂ v) N (parts N) _ (parts_are N) (λ w d. cc)))
parts_are (fst M) = under_is fst• M (parts M) _ (parts_are M) (λ v e. on_pair_is _ _ v (λ a b p. cc))
parts_are (snd M) = under_is snd• M (parts M) _ (parts_are M) (λ v e. on_pair_is _ _ v (λ a b p. cc))
parts_are (app M N) =
    under_is (app•₁ N) M (parts M) _ (parts_are M)
    (λ v e. on_name_is _ _ v (λ m p.
    rw (← e, p) (under_is (app•₂ m) N (parts N) _ (parts_are N) (λ w d. cc))))
parts_are (ite M A B) = under_is (ite• A B) M (parts M) _ (parts_are M) (λ v e. on_word_is _ _ v (λ i p. cc))
parts_are (let_in x M N) = under_is (let• x N) M (parts M) _ (parts_are M) (λ v e. cc)
parts_are (assert M) = under_is assert• M (parts M) _ (parts_are M) (λ v e. on_word_is _ _ v (λ i p. cc))
parts_are ⟪ M ⟫ = under_is box• M (parts M) _ (parts_are M) (λ v e. ap ⟪◌⟫ e)
parts_are M = refl

module _ (A : Meaning) where
  taken : (E : Context) (r : Redex) (μ : Memory) (N : Term) (μ' : Memory) → contract A r μ ≡ to N μ' → next A (plug E ⌈ r ⌉ ∣ μ) ≡ some (plug E N ∣ μ')
  taken E r μ N μ' e = rw (parts_plug E r, e)

  pub complete : (c d : State) → A ⊢ c ⟶ d → next A c ≡ some d
  complete c d (rule.new_name E x θ M) = taken E (lam! x θ M) _ _ _ refl
  complete c d (rule.let_value E x v M) = taken E (let! x v M) _ _ _ refl
  complete c d (rule.operate E o i j) = taken E (op! o i j) _ _ _ refl
  complete c d (rule.first_part E v w) = taken E (fst! v w) _ _ _ refl
  complete c d (rule.second_part E v w) = taken E (snd! v w) _ _ _ refl
  complete c d (rule.if_true E i M N e) = taken E (ite! i M N) _ _ _ (rw e)
  complete c d (rule.if_false E i M N e) = taken E (ite! i M N) _ _ _ (rw e)
  complete c d (rule.read E r v e) = taken E (get! r) _ _ _ (rw e)
  complete c d (rule.write E r v) = taken E (put! r v) _ _ _ refl
  complete c d (rule.asserted E i e) = taken E (assert! i) _ _ _ (rw e)
  complete c d (rule.enter E m x θ M v e) = taken E (call! m v) _ _ _ (rw e)
  complete c d (rule.leave E v) = taken E (leave! v) _ _ _ refl

  to_other : (c : State) {d d' : State} → A ⊢ c ⟶ d → some d ≡ some d' → A ⊢ c ⟶ d'
  to_other c h e = rw (some-injective _ _ e) at h

  by_read : (E : Context) (r : ℕ) (μ : Memory) (d : State) (o : Option Value) → at μ.globals r ≡ o → within A E (reading o μ) ≡ some d → A ⊢ plug E (get r) ∣ μ ⟶ d
  by_read E r μ d none q e = cc
  by_read E r μ d (some v) q e = to_other _ (rule.read E r v q) e

  by_assert : (E : Context) (i : ℤ) (μ : Memory) (d : State) (b : Bool) → A.zero i ≡ b → within A E (asserting b μ) ≡ some d → A ⊢ plug E (assert (num i)) ∣ μ ⟶ d
  by_assert E i μ d true q e = cc
  by_assert E i μ d false q e = to_other _ (rule.asserted E i q) e

  pub by_if : (E : Context) (i : ℤ) (M N : Term) (μ : Memory) (b : Bool) → A.zero i ≡ b → A ⊢ plug E (ite (num i) M N) ∣ μ ⟶ plug E (choose b N M) ∣ μ
  by_if E i M N μ true q = rule.if_false E i M N q
  by_if E i M N μ false q = rule.if_true E i M N q

  by_call : (E : Context) (m : ℕ) (v : Value) (μ : Memory) (d : State) (o : Option Entry) → at μ.names m ≡ o → within A E (calling o m v μ) ≡ some d → A ⊢ plug E (app (meth m) ⌊ v ⌋) ∣ μ ⟶ d
  by_call E m v μ d (some (library_name x θ M)) q e = to_other _ (rule.enter E m x θ M v q) e
  by_call E m v μ d o q e = cc

  of_redex : (E : Context) (r : Redex) (μ : Memory) (d : State) → within A E (contract A r μ) ≡ some d → A ⊢ plug E ⌈ r ⌉ ∣ μ ⟶ d
  of_redex E (lam! x θ M) μ d e = to_other _ (rule.new_name E x θ M) e
  of_redex E (let! x v M) μ d e = to_other _ (rule.let_value E x v M) e
  of_redex E (op! o i j) μ d e = to_other _ (rule.operate E o i j) e
  of_redex E (fst! v w) μ d e = to_other _ (rule.first_part E v w) e
  of_redex E (snd! v w) μ d e = to_other _ (rule.second_part E v w) e
  of_redex E (ite! i M N) μ d e = to_other _ (by_if E i M N μ _ refl) e
  of_redex E (get! r) μ d e = by_read E r μ d _ refl e
  of_redex E (put! r v) μ d e = to_other _ (rule.write E r v) e
  of_redex E (assert! i) μ d e = by_assert E i μ d _ refl e
  of_redex E (call! m v) μ d e = by_call E m v μ d _ refl e
  of_redex E (leave! v) μ d e = to_other _ (rule.leave E v) e

  of_parts : (M : Term) (μ : Memory) (d : State) (s : Parts) → MadeOf M s → stepped A s μ ≡ some d → A ⊢ M ∣ μ ⟶ d
  of_parts M μ d (redex E r) h e = rw h at (of_redex E r μ d e)
  of_parts M μ d s h e = cc

  sound : (c d : State) → next A c ≡ some d → A ⊢ c ⟶ d
  sound (M ∣ μ) d e = of_parts M μ d (parts M) (parts_are M) e

  pub takes_the_steps : TakesTheSteps A
  takes_the_steps = record { rule_is_taken = complete; taken_is_rule = sound }

  pub one_step : OneStep A
  one_step c d e h k = some-injective _ _ (sym (complete c d h) ∙ complete c e k)
