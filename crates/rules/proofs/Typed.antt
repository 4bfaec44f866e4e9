-- Typed terms: weakening, substitution, contexts, and that a closed typed term is a value or has a redex.
use Rattle.std.proofs.Common.{◌≡◌, ℕ, Bool, true, false, eqb, ◌⊎◌, List, [], ◌∷◌, ℤ, sym, refl, ap, ◌∙◌, inl, inr, eqb-true}
use Rattle.std.proofs.Math.Logic.{⊎_elim}
use mathlib.Core.List.{Memᴰ}
use mathlib.Core.Option.{some}
use borrow.Author.Tests.{eqb-false}
use Rattle.arithmetic.specs.Meaning.{Meaning}
use Rattle.rows.specs.Types.{Tree, unit as unit_type, int as int_type, pair as pair_type, fun as function_type}
use Rattle.rules.specs.Terms.{Term, Value, Frame, Context, choose, plug, fill, ⌊◌⌋, ◌⟨◌/◌⟩}
use Rattle.rules.specs.Terms.{⟨⟩, num, var, meth, get, lam, put, op, tuple, fst, snd, app, ite, let_in, assert, ⟪◌⟫}
use Rattle.rules.specs.Terms.{word, name, pair}
use Rattle.rules.specs.Terms.{assert•, put•, op•₁, op•₂, tuple•₁, tuple•₂, fst•, snd•, app•₁, app•₂, let•, ite•, box•}
use Rattle.rules.specs.Memory.{at}
use Rattle.rules.specs.Stepping.{Parts, value, redex, neither, parts, under, on_word, on_name, on_pair}

-- V has the type of each variable, Γ that of each global, and A the lawful words
module _ (V : ℕ → Tree) (Γ : List Tree) (A : Meaning) where
  -- by the types Σ of the names, and with the variables Δ in scope, a term has a type
  abbrev pub Typed : List Tree → List ℕ → Term → Tree → Type 0
  Typed Σ Δ ⟨⟩ θ = θ ≡ unit_type
  Typed Σ Δ (num i) θ = (θ ≡ int_type) × (A.lawful i ≡ true)
  Typed Σ Δ (var x) θ = (θ ≡ V x) × Memᴰ x Δ
  Typed Σ Δ (meth m) θ = at Σ m ≡ some θ
  Typed Σ Δ (get r) θ = at Γ r ≡ some θ
  Typed Σ Δ (lam x ρ M) θ = (ρ ≡ V x) × (σ : Tree) × (θ ≡ function_type ρ σ) × Typed Σ (x ∷ Δ) M σ
  Typed Σ Δ (put r M) θ = (θ ≡ unit_type) × (ρ : Tree) × (at Γ r ≡ some ρ) × Typed Σ Δ M ρ
  Typed Σ Δ (op o M N) θ = (θ ≡ int_type) × Typed Σ Δ M int_type × Typed Σ Δ N int_type
  Typed Σ Δ (tuple M N) θ = (ρ : Tree) × (σ : Tree) × (θ ≡ pair_type ρ σ) × Typed Σ Δ M ρ × Typed Σ Δ N σ
  Typed Σ Δ (fst M) θ = (σ : Tree) × Typed Σ Δ M (pair_type θ σ)
  Typed Σ Δ (snd M) θ = (ρ : Tree) × Typed Σ Δ M (pair_type ρ θ)
  Typed Σ Δ (app M N) θ = (ρ : Tree) × Typed Σ Δ M (function_type ρ θ) × Typed Σ Δ N ρ
  Typed Σ Δ (ite C M N) θ = Typed Σ Δ C int_type × Typed Σ Δ M θ × Typed Σ Δ N θ
  Typed Σ Δ (let_in x M N) θ = Typed Σ Δ M (V x) × Typed Σ (x ∷ Δ) N θ
  Typed Σ Δ (assert M) θ = (θ ≡ unit_type) × Typed Σ Δ M int_type
  Typed Σ Δ ⟪ M ⟫ θ = Typed Σ Δ M θ

  -- each name of the first has the same type in the second
  abbrev pub Grows : List Tree → List Tree → Type 0
  Grows Σ Σ' = (m : ℕ) (θ : Tree) → at Σ m ≡ some θ → at Σ' m ≡ some θ

  abbrev pub Within : List ℕ → List ℕ → Type 0
  Within Δ Δ' = (x : ℕ) → Memᴰ x Δ → Memᴰ x Δ'

  within_more : (y : ℕ) (Δ Δ' : List ℕ) → Within Δ Δ' → Within (y ∷ Δ) (y ∷ Δ')
  within_more y Δ Δ' s x (Memᴰ.head e) = Memᴰ.head e
  within_more y Δ Δ' s x (Memᴰ.tail i) = Memᴰ.tail (s x i)

  pub weaken : (Σ Σ' : List Tree) (Δ Δ' : List ℕ) → Grows Σ Σ' → Within Δ Δ' → (M : Term) (θ : Tree) → Typed Σ Δ M θ → Typed Σ' Δ' M θ
  weaken Σ Σ' Δ Δ' g s (var x) θ h = (h.0, s x h.1)
  weaken Σ Σ' Δ Δ' g s (meth m) θ h = g m θ h
  weaken Σ Σ' Δ Δ' g s (lam x ρ M) θ h = (h.0, h.1, h.2, weaken Σ Σ' (x ∷ Δ) (x ∷ Δ') g (within_more x Δ Δ' s) M h.1 h.3)
  weaken Σ Σ' Δ Δ' g s (put r M) θ h = (h.0, h.1, h.2, weaken Σ Σ' Δ Δ' g s M h.1 h.3)
  weaken Σ Σ' Δ Δ' g s (op o M N) θ h = (h.0, weaken Σ Σ' Δ Δ' g s M int_type h.1, weaken Σ Σ' Δ Δ' g s N int_type h.2)
  weaken Σ Σ' Δ Δ' g s (tuple M N) θ h = (h.0, h.1, h.2, weaken Σ Σ' Δ Δ' g s M h.0 h.3, weaken Σ Σ' Δ Δ' g s N h.1 h.4)
  weaken Σ Σ' Δ Δ' g s (fst M) θ h = (h.0, weaken Σ Σ' Δ Δ' g s M (pair_type θ h.0) h.1)
  weaken Σ Σ' Δ Δ' g s (snd M) θ h = (h.0, weaken Σ Σ' Δ Δ' g s M (pair_type h.0 θ) h.1)
  weaken Σ Σ' Δ Δ' g s (app M N) θ h = (h.0, weaken Σ Σ' Δ Δ' g s M (function_type h.0 θ) h.1, weaken Σ Σ' Δ Δ' g s N h.0 h.2)
  weaken Σ Σ' Δ Δ' g s (ite C M N) θ h = (weaken Σ Σ' Δ Δ' g s C int_type h.0, weaken Σ Σ' Δ Δ' g s M θ h.1, weaken Σ Σ' Δ Δ' g s N θ h.2)
  weaken Σ Σ' Δ Δ' g s (let_in x M N) θ h = (weaken Σ Σ' Δ Δ' g s M (V x) h.0, weaken Σ Σ' (x ∷ Δ) (x ∷ Δ') g (within_more x Δ Δ' s) N θ h.1)
  weaken Σ Σ' Δ Δ' g s (assert M) θ h = (h.0, weaken Σ Σ' Δ Δ' g s M int_type h.1)
  weaken Σ Σ' Δ Δ' g s ⟪ M ⟫ θ h = weaken Σ Σ' Δ Δ' g s M θ h
  weaken Σ Σ' Δ Δ' g s M θ h = h

  pub closed_anywhere : (Σ : List Tree) (Δ : List ℕ) (M : Term) (θ : Tree) → Typed Σ [] M θ → Typed Σ Δ M θ
  closed_anywhere Σ Δ M θ h = weaken Σ Σ [] Δ (λ m ρ e. e) (λ x i. elim i [ ]) M θ h

  -- each variable in scope is x, or is in scope after x is replaced
  abbrev Leaves : ℕ → List ℕ → List ℕ → Type 0
  Leaves x Δ Δ' = (y : ℕ) → Memᴰ y Δ → (y ≡ x) ⊎ Memᴰ y Δ'

  leaves_more : (x z : ℕ) (Δ Δ' : List ℕ) → Leaves x Δ Δ' → Leaves x (z ∷ Δ) (z ∷ Δ')
  leaves_more x z Δ Δ' s y (Memᴰ.head e) = inr (Memᴰ.head e)
  leaves_more x z Δ Δ' s y (Memᴰ.tail i) = ⊎_elim (λ e. inl e) (λ j. inr (Memᴰ.tail j)) (s y i)

  -- where the binder is x itself, nothing is replaced below it
  hidden : (x z : ℕ) (Δ Δ' : List ℕ) → z ≡ x → Leaves x Δ Δ' → Within (z ∷ Δ) (z ∷ Δ')
  hidden x z Δ Δ' e s y (Memᴰ.head d) = Memᴰ.head d
  hidden x z Δ Δ' e s y (Memᴰ.tail i) = ⊎_elim (λ d. Memᴰ.head (cc)) (λ j. Memᴰ.tail j) (s y i)

  module _ (Σ : List Tree) (v : Value) (x : ℕ) (hv : Typed Σ [] ⌊ v ⌋ (V x)) where
    at_var : (Δ Δ' : List ℕ) → Leaves x Δ Δ' → (y : ℕ) (θ : Tree) (b : Bool) → eqb y x ≡ b → θ ≡ V y → Memᴰ y Δ → Typed Σ Δ' (choose b ⌊ v ⌋ (var y)) θ
    at_var Δ Δ' s y θ true e d i = closed_anywhere Σ Δ' ⌊ v ⌋ θ (rw (ap V (sym (eqb-true y x e)) ∙ sym d) at hv)
    at_var Δ Δ' s y θ false e d i = ⊎_elim (λ f. absurd (eqb-false y x e f)) (λ j. (d, j)) (s y i)

    -- below a binder z
    below : (Δ Δ' : List ℕ) → Leaves x Δ Δ' → (z : ℕ) (b : Bool) → eqb z x ≡ b → (M N : Term) (θ : Tree) → Typed Σ (z ∷ Δ) M θ → Typed Σ (z ∷ Δ') N θ → Typed Σ (z ∷ Δ') (choose b M N) θ
    below Δ Δ' s z true e M N θ h k = weaken Σ Σ (z ∷ Δ) (z ∷ Δ') (λ m ρ d. d) (hidden x z Δ Δ' (eqb-true z x e) s) M θ h
    below Δ Δ' s z false e M N θ h k = k

    pub replaced : (Δ Δ' : List ℕ) → Leaves x Δ Δ' → (M : Term) (θ : Tree) → Typed Σ Δ M θ → Typed Σ Δ' (M ⟨ v / x ⟩) θ
    replaced Δ Δ' s (var y) θ h = at_var Δ Δ' s y θ (eqb y x) refl h.0 h.1
    replaced Δ Δ' s (lam z ρ M) θ h =
        (h.0, h.1, h.2, below Δ Δ' s z (eqb z x) refl M (M ⟨ v / x ⟩) h.1 h.3 (replaced (z ∷ Δ) (z ∷ Δ') (leaves_more x z Δ Δ' s) M h.1 h.3))
    replaced Δ Δ' s (put r M) θ h = (h.0, h.1, h.2, replaced Δ Δ' s M h.1 h.3)
    replaced Δ Δ' s (op o M N) θ h = (h.0, replaced Δ Δ' s M int_type h.1, replaced Δ Δ' s N int_type h.2)
    replaced Δ Δ' s (tuple M N) θ h = (h.0, h.1, h.2, replaced Δ Δ' s M h.0 h.3, replaced Δ Δ' s N h.1 h.4)
    replaced Δ Δ' s (fst M) θ h = (h.0, replaced Δ Δ' s M (pair_type θ h.0) h.1)
    replaced Δ Δ' s (snd M) θ h = (h.0, replaced Δ Δ' s M (pair_type h.0 θ) h.1)
    replaced Δ Δ' s (app M N) θ h = (h.0, replaced Δ Δ' s M (function_type h.0 θ) h.1, replaced Δ Δ' s N h.0 h.2)
    replaced Δ Δ' s (ite C M N) θ h = (replaced Δ Δ' s C int_type h.0, replaced Δ Δ' s M θ h.1, replaced Δ Δ' s N θ h.2)
    replaced Δ Δ' s (let_in z M N) θ h =
        (replaced Δ Δ' s M (V z) h.0, below Δ Δ' s z (eqb z x) refl N (N ⟨ v / x ⟩) θ h.1 (replaced (z ∷ Δ) (z ∷ Δ') (leaves_more x z Δ Δ' s) N θ h.1))
    replaced Δ Δ' s (assert M) θ h = (h.0, replaced Δ Δ' s M int_type h.1)
    replaced Δ Δ' s ⟪ M ⟫ θ h = replaced Δ Δ' s M θ h
    replaced Δ Δ' s M θ h = h

    -- the body of a function with its one variable replaced is closed
    pub body_replaced : (M : Term) (θ : Tree) → Typed Σ (x ∷ []) M θ → Typed Σ [] (M ⟨ v / x ⟩) θ
    body_replaced M θ h = replaced (x ∷ []) [] only M θ h
      where
        only : (y : ℕ) → Memᴰ y (x ∷ []) → (y ≡ x) ⊎ Memᴰ y []
        only y (Memᴰ.head e) = inl e
        only y (Memᴰ.tail i) = elim i [ ]

  -- what a context takes to what: by the names Σ and any more
  abbrev pub Takes : List Tree → Context → Tree → Tree → Type 0
  Takes Σ E ρ θ = (Σ' : List Tree) → Grows Σ Σ' → (N : Term) → Typed Σ' [] N ρ → Typed Σ' [] (plug E N) θ

  abbrev FrameTakes : List Tree → Frame → Tree → Tree → Type 0
  FrameTakes Σ f ρ θ = (Σ' : List Tree) → Grows Σ Σ' → (N : Term) → Typed Σ' [] N ρ → Typed Σ' [] (fill f N) θ

  more : (Σ Σ' : List Tree) → Grows Σ Σ' → (Δ : List ℕ) (M : Term) (θ : Tree) → Typed Σ Δ M θ → Typed Σ' Δ M θ
  more Σ Σ' g Δ M θ h = weaken Σ Σ' Δ Δ g (λ x i. i) M θ h

  filled : (Σ : List Tree) (f : Frame) (M : Term) (θ : Tree) → Typed Σ [] (fill f M) θ → (ρ : Tree) × Typed Σ [] M ρ × FrameTakes Σ f ρ θ
  filled Σ assert• M θ h = (int_type, h.1, λ Σ' g N k. (h.0, k))
  filled Σ (put• r) M θ h = (h.1, h.3, λ Σ' g N k. (h.0, h.1, h.2, k))
  filled Σ (op•₁ o R) M θ h = (int_type, h.1, λ Σ' g N k. (h.0, k, more Σ Σ' g [] R int_type h.2))
  filled Σ (op•₂ o v) M θ h = (int_type, h.2, λ Σ' g N k. (h.0, more Σ Σ' g [] ⌊ v ⌋ int_type h.1, k))
  filled Σ (tuple•₁ R) M θ h = (h.0, h.3, λ Σ' g N k. (h.0, h.1, h.2, k, more Σ Σ' g [] R h.1 h.4))
  filled Σ (tuple•₂ v) M θ h = (h.1, h.4, λ Σ' g N k. (h.0, h.1, h.2, more Σ Σ' g [] ⌊ v ⌋ h.0 h.3, k))
  filled Σ fst• M θ h = (pair_type θ h.0, h.1, λ Σ' g N k. (h.0, k))
  filled Σ snd• M θ h = (pair_type h.0 θ, h.1, λ Σ' g N k. (h.0, k))
  filled Σ (app•₁ R) M θ h = (function_type h.0 θ, h.1, λ Σ' g N k. (h.0, k, more Σ Σ' g [] R h.0 h.2))
  filled Σ (app•₂ m) M θ h = (h.0, h.2, λ Σ' g N k. (h.0, g m (function_type h.0 θ) h.1, k))
  filled Σ (let• x R) M θ h = (V x, h.0, λ Σ' g N k. (k, more Σ Σ' g (x ∷ []) R θ h.1))
  filled Σ (ite• B C) M θ h = (int_type, h.0, λ Σ' g N k. (k, more Σ Σ' g [] B θ h.1, more Σ Σ' g [] C θ h.2))
  filled Σ box• M θ h = (θ, h, λ Σ' g N k. k)

  pub plugged : (Σ : List Tree) (E : Context) (M : Term) (θ : Tree) → Typed Σ [] (plug E M) θ → (ρ : Tree) × Typed Σ [] M ρ × Takes Σ E ρ θ
  plugged Σ [] M θ h = (θ, h, λ Σ' g N k. k)
  plugged Σ (f ∷ E) M θ h =
      let outer = filled Σ f (plug E M) θ h in
      let inner = plugged Σ E M outer.0 outer.1 in
      (inner.0, inner.1, λ Σ' g N k. outer.2 Σ' g (plug E N) (inner.2 Σ' g N k))

  -- the parts of a closed typed term: a value of its type, or a redex
  abbrev pub Fine : List Tree → Tree → Parts → Type 0
  Fine Σ θ (value v) = Typed Σ [] ⌊ v ⌋ θ
  Fine Σ θ (redex E r) = Unit {0}
  Fine Σ θ neither = ⊥

  under_fine : (Σ : List Tree) (ρ θ : Tree) (f : Frame) (s : Parts) (k : Value → Parts) → Fine Σ ρ s → ((v : Value) → Typed Σ [] ⌊ v ⌋ ρ → Fine Σ θ (k v)) → Fine Σ θ (under f s k)
  under_fine Σ ρ θ f (value v) k h g = g v h
  under_fine Σ ρ θ f (redex E r) k h g = tt
  under_fine Σ ρ θ f neither k h g = absurd h

  -- the names have function types
  abbrev pub Functions : List Tree → Type 0
  Functions Σ = (m : ℕ) (θ : Tree) → at Σ m ≡ some θ → (ρ : Tree) × (σ : Tree) × (θ ≡ function_type ρ σ)

  module _ (Σ : List Tree) (fs : Functions Σ) where
    name_no_int : (m : ℕ) → at Σ m ≡ some int_type → ⊥
    name_no_int m h = let x = fs m int_type h in cc

    name_no_pair : (m : ℕ) (ρ σ : Tree) → at Σ m ≡ some (pair_type ρ σ) → ⊥
    name_no_pair m ρ σ h = let x = fs m (pair_type ρ σ) h in cc

    on_word_fine : (θ : Tree) (k : ℤ → Parts) (v : Value) → Typed Σ [] ⌊ v ⌋ int_type → ((i : ℤ) → Fine Σ θ (k i)) → Fine Σ θ (on_word k v)
    on_word_fine θ k (word i) h g = g i
    on_word_fine θ k (name m) h g = absurd (name_no_int m h)
    on_word_fine θ k v h g = cc

    on_name_fine : (ρ σ θ : Tree) (k : ℕ → Parts) (v : Value) → Typed Σ [] ⌊ v ⌋ (function_type ρ σ) → ((m : ℕ) → Fine Σ θ (k m)) → Fine Σ θ (on_name k v)
    on_name_fine ρ σ θ k (name m) h g = g m
    on_name_fine ρ σ θ k v h g = cc

    on_pair_fine : (ρ σ θ : Tree) (k : Value → Value → Parts) (v : Value) → Typed Σ [] ⌊ v ⌋ (pair_type ρ σ) → ((a b : Value) → Fine Σ θ (k a b)) → Fine Σ θ (on_pair k v)
    on_pair_fine ρ σ θ k (name m) h g = absurd (name_no_pair m ρ σ h)
    on_pair_fine ρ σ θ k (pair v w) h g = g v w
    on_pair_fine ρ σ θ k v h g = cc

    pub fine : (M : Term) (θ : Tree) → Typed Σ [] M θ → Fine Σ θ (parts M)
    fine (var x) θ h = elim h.1 [ ]
    fine (get r) θ h = tt
    fine (lam x ρ M) θ h = tt
    fine (put r M) θ h = under_fine Σ h.1 θ (put• r) (parts M) _ (fine M h.1 h.3) (λ v k. tt)
    fine (op o M N) θ h =
        under_fine Σ int_type θ (op•₁ o N) (parts M) _ (fine M int_type h.1)
        (λ v k. under_fine Σ int_type θ (op•₂ o v) (parts N) _ (fine N int_type h.2) (λ w l. on_word_fine θ _ v k (λ i. on_word_fine θ _ w l (λ j. tt))))
    fine (tuple M N) θ h =
        under_fine Σ h.0 θ (tuple•₁ N) (parts M) _ (fine M h.0 h.3)
        (λ v k. under_fine Σ h.1 θ (tuple•₂ v) (parts N) _ (fine N h.1 h.4) (λ w l. (h.0, h.1, h.2, k, l)))
    fine (fst M) θ h = under_fine Σ (pair_type θ h.0) θ fst• (parts M) _ (fine M (pair_type θ h.0) h.1) (λ v k. on_pair_fine θ h.0 θ _ v k (λ a b. tt))
    fine (snd M) θ h = under_fine Σ (pair_type h.0 θ) θ snd• (parts M) _ (fine M (pair_type h.0 θ) h.1) (λ v k. on_pair_fine h.0 θ θ _ v k (λ a b. tt))
    fine (app M N) θ h =
        under_fine Σ (function_type h.0 θ) θ (app•₁ N) (parts M) _ (fine M (function_type h.0 θ) h.1)
        (λ v k. on_name_fine h.0 θ θ _ v k (λ m. under_fine Σ h.0 θ (app•₂ m) (parts N) _ (fine N h.0 h.2) (λ w l. tt)))
    fine (ite C M N) θ h = under_fine Σ int_type θ (ite• M N) (parts C) _ (fine C int_type h.0) (λ v k. on_word_fine θ _ v k (λ i. tt))
    fine (let_in x M N) θ h = under_fine Σ (V x) θ (let• x N) (parts M) _ (fine M (V x) h.0) (λ v k. tt)
    fine (assert M) θ h = under_fine Σ int_type θ assert• (parts M) _ (fine M int_type h.1) (λ v k. on_word_fine θ _ v k (λ i. tt))
    fine ⟪ M ⟫ θ h = under_fine Σ θ θ box• (parts M) _ (fine M θ h) (λ v k. tt)
    fine M θ h = h
