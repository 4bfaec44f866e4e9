-- The terms of a mounted library, unfolded into trees, are typed.
use Rattle.std.proofs.Common.{◌≡◌, ℕ, zero, suc, ◌+◌, ◌<◌, Bool, true, false, eqb, List, [], ◌∷◌, ◌++◌, length, get_or, take, ℤ, Some, None, sym, refl, ap, ◌∙◌, subst, append_assoc, append-nil, arith, length-append, eqb-true}
use Rattle.std.proofs.Math.Logic.{⊎_elim}
use mathlib.Core.List.{Memᴰ}
use borrow.Author.Tests.{eqb-false}
use Rattle.std.specs.List.{slice_get, AllByRecursion}
use Rattle.std.proofs.lemmas.List.{take-append-le, take_all, get_or_at, get_or_append_left}
use Rattle.std.proofs.str.Laws.{order}
use Rattle.arithmetic.specs.Meaning.{Meaning}
use Rattle.faults.specs.declared.TextFault.TheVariants.{Reference}
use Rattle.rows.specs.declared.forms.TermForm.{TermForm}
use Rattle.rows.specs.declared.forms.TermForm.TheVariants.{Unit as UnitForm, Num, Var, Meth, Get, Lam, Set, Op, Pair, Fst, Snd, App, If, Let, Assert}
use Rattle.rows.specs.declared.forms.Row.{Row}
use Rattle.rows.specs.declared.forms.Row.TheVariants.{Term as TermRow}
use Rattle.rows.specs.declared.forms.Section.{Section}
use Rattle.rows.specs.declared.forms.Section.TheVariants.{Terms}
use Rattle.rows.specs.Sections.{count, references}
use Rattle.rows.specs.Faults.{Faultless, NoneOf, RowFault, RefersBack}
use Rattle.rows.specs.Types.{Tree, int as int_type, pair as pair_type, fun as function_type}
use Rattle.rows.proofs.Admits.{count_push}
use Rattle.library.specs.Listing.{section_rows, term_of}
use Rattle.library.specs.Typing.{TermIs, HasType, Names, VariableHas, MethodHas, GlobalHas}
use Rattle.library.specs.Typing as typing
use Rattle.library.specs.Closed.{Free, parts}
use Rattle.library.specs.Closed as free
use Rattle.rules.specs.Terms.{Term}
use Rattle.rules.specs.Terms.{⟨⟩}
use Rattle.rules.specs.Memory.{at}
use mathlib.Core.Option.{some}
use Rattle.rules.specs.Unfolding.{formed, terms_after, unfolded, variable_type}
use Rattle.rules.proofs.Typed.{Typed}

-- each of the rows has no fault after the rows b and those of them before it
abbrev pub EachGood : List Row → List Row → Type 0
EachGood b [] = Unit {0}
EachGood b (r ∷ rs) = NoneOf (RowFault true b r) × EachGood (b ++ (r ∷ [])) rs

pub good_from : (b rs : List Row) → Faultless (b ++ rs) → EachGood b rs
good_from b [] h = tt
good_from b (r ∷ rs) h = (here, good_from (b ++ (r ∷ [])) rs (subst Faultless (sym (append_assoc b (r ∷ []) rs)) h))
  where
    here : NoneOf (RowFault true b r)
    here =
        let inside : length b < length (b ++ (r ∷ rs)) = omega (arith, length-append b (r ∷ rs)) in
        let before : take (length b) (b ++ (r ∷ rs)) ≡ b = take-append-le (length b) b (r ∷ rs) (omega arith) ∙ take_all (length b) b (omega arith) in
        rw before at (h (length b) r inside (get_or_at b r rs r (length b) refl))

-- what cannot fail holds, for references
all_stable : (b : List Row) (ps : List (Section × ℕ)) → ((AllByRecursion (λ p. p.1 < count p.0 b) ps → ⊥) → ⊥) → AllByRecursion (λ p. p.1 < count p.0 b) ps
all_stable b [] h = tt
all_stable b (p ∷ ps) h = (
  ⊎_elim (λ lt. lt) (λ le. absurd (h (λ both. omega arith))) (order p.1 (count p.0 b)),
  all_stable b ps (λ no. h (λ both. no both.1)),
)

refers_back : (b : List Row) (r : Row) → NoneOf (RowFault true b r) → RefersBack b r
refers_back b r h = all_stable b (references r) (h Reference)

-- the term rows, as the list of terms is made
module _ (type : ℕ → Tree) where
  -- terms stay where they are as more are made
  grown : (before : List Term) (rows : List Row) → (more : List Term) × (terms_after type before rows ≡ before ++ more)
  grown before [] = ([], sym (append-nil before))
  grown before (TermRow n f ∷ rows) =
      let h = grown (before ++ (formed type before f ∷ [])) rows in
      (formed type before f ∷ h.0, h.1 ∙ append_assoc before (formed type before f ∷ []) h.0)
  grown before (row ∷ rows) = grown before rows

  -- where the term row of a number stands: the terms before it, those behind it, and the rows before it
  abbrev Stands : List Term → List Row → ℕ → TermForm → Type 0
  Stands before rows k form =
      (pre : List Term) × (post : List Term) × (seen : List Row) × (terms_after type before rows ≡ pre ++ (formed type pre form ∷ post)) × (length pre ≡ length before + k)
      × (n : ℕ) × RefersBack seen (TermRow n form) × (count Terms seen ≡ length pre)

  stands : (b : List Row) (before : List Term) (rows : List Row) (k : ℕ) (form : TermForm) → EachGood b rows → length before ≡ count Terms b → term_of (slice_get (section_rows Terms rows) k) ≡ Some form → Stands before rows k form
  stands b before [] k form good len e = cc
  stands b before (TermRow n f ∷ rows) zero form good len e =
      let same : f ≡ form = cc in
      let h = grown (before ++ (formed type before f ∷ [])) rows in
      (before, h.0, b, h.1 ∙ append_assoc before (formed type before f ∷ []) h.0 ∙ ap (λ x. before ++ (formed type before x ∷ h.0)) same, omega arith, n, rw same at (refers_back b (TermRow n f) good.0), sym len)
  stands b before (TermRow n f ∷ rows) (suc k) form good len e =
      let w = stands (b ++ (TermRow n f ∷ [])) (before ++ (formed type before f ∷ [])) rows k form good.1 (omega (arith, count_push Terms b (TermRow n f), length-append before (formed type before f ∷ []))) e in
      (w.0, w.1, w.2, w.3, omega (arith, w.4, length-append before (formed type before f ∷ [])), w.5, w.6, w.7)
  stands b before (row ∷ rows) k form good len e = stands (b ++ (row ∷ [])) before rows k form good.1 (omega (arith, count_push Terms b row)) e

module _ (rows : List Row) (faultless : Faultless rows) where
  -- a term's tree is formed over the trees of its parts, which stand before it
  pub form_at : (t : ℕ) (form : TermForm) → TermIs rows t form → (pre : List Term) × (unfolded rows t ≡ formed (variable_type rows) pre form) × ((a : ℕ) → a < length pre → get_or pre a ⟨⟩ ≡ unfolded rows a) × (n : ℕ) × (seen : List Row) × RefersBack seen (TermRow n form) × (count Terms seen ≡ length pre)
  form_at t form is =
      let w = stands (variable_type rows) [] [] rows t form (good_from [] rows faultless) refl is in (
        w.0,
        ap (λ x. get_or x t ⟨⟩) w.3 ∙ get_or_at w.0 (formed (variable_type rows) w.0 form) w.1 ⟨⟩ t (omega (arith, w.4)),
        (λ a low. sym (ap (λ x. get_or x a ⟨⟩) w.3 ∙ get_or_append_left w.0 (formed (variable_type rows) w.0 form ∷ w.1) ⟨⟩ a low)),
        w.5,
        w.2,
        w.6,
        w.7,
      )

  module _ (Γ : List Tree) (A : Meaning) (Σ : List Tree)
      (methods_known : (m : ℕ) (θ : Tree) → MethodHas rows m θ → at Σ m ≡ some θ)
      (globals_known : (r : ℕ) (θ : Tree) → GlobalHas rows r θ → at Γ r ≡ some θ)
      (variables_known : (x : ℕ) (θ : Tree) → VariableHas rows x θ → θ ≡ variable_type rows x)
      (lawful : (t : ℕ) (i : ℤ) → TermIs rows t (Num i) → A.lawful i ≡ true) where
    abbrev T : List ℕ → Term → Tree → Type 0
    T = Typed (variable_type rows) Γ A Σ

    -- the free variables of a term are in scope
    abbrev pub InScope : List ℕ → ℕ → Type 0
    InScope Δ t = (x : ℕ) → Free rows x t → Memᴰ x Δ

    plain : (Δ : List ℕ) (t : ℕ) (form : TermForm) (k a : ℕ) → TermIs rows t form → slice_get (parts form) k ≡ Some (a, None) → InScope Δ t → InScope Δ a
    plain Δ t form k a is e s x f = s x (free.inside form k a None is e (λ same. cc) f)

    bound : (Δ : List ℕ) (t : ℕ) (form : TermForm) (k a y : ℕ) → TermIs rows t form → slice_get (parts form) k ≡ Some (a, Some y) → InScope Δ t → InScope (y ∷ Δ) a
    bound Δ t form k a y is e s x f = go (eqb x y) refl
      where
        go : (b : Bool) → eqb x y ≡ b → Memᴰ x (y ∷ Δ)
        go true d = Memᴰ.head (eqb-true x y d)
        go false d = Memᴰ.tail (s x (free.inside form k a (Some y) is e (λ same. eqb-false x y d (let z : y ≡ x = cc in sym z)) f))

    part : (pre : List Term) (a : ℕ) → get_or pre a ⟨⟩ ≡ unfolded rows a → (Δ : List ℕ) (θ : Tree) → T Δ (unfolded rows a) θ → T Δ (get_or pre a ⟨⟩) θ
    part pre a e Δ θ h = rw (← e) at h

    whole : (t : ℕ) (X : Term) → unfolded rows t ≡ X → (Δ : List ℕ) (θ : Tree) → T Δ X θ → T Δ (unfolded rows t) θ
    whole t X e Δ θ h = rw (← e) at h

    pub tree_typed : (t : ℕ) (θ : Tree) → HasType rows t θ → (Δ : List ℕ) → InScope Δ t → T Δ (unfolded rows t) θ
    tree_typed t θ (typing.unit_rule is) Δ s = let w = form_at t UnitForm is in whole t _ w.1 Δ θ refl
    tree_typed t θ (typing.num_rule {i = i} is) Δ s = let w = form_at t (Num i) is in whole t _ w.1 Δ θ (refl, lawful t i is)
    tree_typed t θ (typing.var_rule {x = x} is h) Δ s = let w = form_at t (Var x) is in whole t _ w.1 Δ θ (variables_known x θ h, s x (free.itself is))
    tree_typed t θ (typing.meth_rule {m = m} is h) Δ s = let w = form_at t (Meth m) is in whole t _ w.1 Δ θ (methods_known m θ h)
    tree_typed t θ (typing.get_rule {r = r} is h) Δ s = let w = form_at t (Get r) is in whole t _ w.1 Δ θ (globals_known r θ h)
    tree_typed t θ (typing.lam_rule {x = x} {a = a} {A = ρ} {B = σ} is h k) Δ s =
        let w = form_at t (Lam x a) is in
        let body = part w.0 a (w.2 a (omega (arith, w.5.1.0, w.6))) (x ∷ Δ) σ (tree_typed a σ k (x ∷ Δ) (bound Δ t (Lam x a) 0 a x is refl s)) in
        whole t _ w.1 Δ θ (refl, σ, ap (λ y. function_type y σ) (variables_known x ρ h), body)
    tree_typed t θ (typing.set_rule {r = r} {a = a} {A = ρ} is h k) Δ s =
        let w = form_at t (Set r a) is in
        whole t _ w.1 Δ θ (refl, ρ, globals_known r ρ h, part w.0 a (w.2 a (omega (arith, w.5.1.0, w.6))) Δ ρ (tree_typed a ρ k Δ (plain Δ t (Set r a) 0 a is refl s)))
    tree_typed t θ (typing.op_rule {a = a} {b = b} {o = o} is h k) Δ s =
        let w = form_at t (Op o a b) is in
        whole t _ w.1 Δ θ (
          refl,
          part w.0 a (w.2 a (omega (arith, w.5.0, w.6))) Δ int_type (tree_typed a int_type h Δ (plain Δ t (Op o a b) 0 a is refl s)),
          part w.0 b (w.2 b (omega (arith, w.5.1.0, w.6))) Δ int_type (tree_typed b int_type k Δ (plain Δ t (Op o a b) 1 b is refl s)),
        )
    tree_typed t θ (typing.pair_rule {a = a} {b = b} {A = ρ} {B = σ} is h k) Δ s =
        let w = form_at t (Pair a b) is in
        whole t _ w.1 Δ θ (
          ρ,
          σ,
          refl,
          part w.0 a (w.2 a (omega (arith, w.5.0, w.6))) Δ ρ (tree_typed a ρ h Δ (plain Δ t (Pair a b) 0 a is refl s)),
          part w.0 b (w.2 b (omega (arith, w.5.1.0, w.6))) Δ σ (tree_typed b σ k Δ (plain Δ t (Pair a b) 1 b is refl s)),
        )
    tree_typed t θ (typing.fst_rule {a = a} {A = ρ} {B = σ} is h) Δ s =
        let w = form_at t (Fst a) is in
        whole t _ w.1 Δ θ (σ, part w.0 a (w.2 a (omega (arith, w.5.0, w.6))) Δ (pair_type ρ σ) (tree_typed a (pair_type ρ σ) h Δ (plain Δ t (Fst a) 0 a is refl s)))
    tree_typed t θ (typing.snd_rule {a = a} {A = ρ} {B = σ} is h) Δ s =
        let w = form_at t (Snd a) is in
        whole t _ w.1 Δ θ (ρ, part w.0 a (w.2 a (omega (arith, w.5.0, w.6))) Δ (pair_type ρ σ) (tree_typed a (pair_type ρ σ) h Δ (plain Δ t (Snd a) 0 a is refl s)))
    tree_typed t θ (typing.app_rule {f = f} {a = a} {A = ρ} {B = σ} is h k) Δ s =
        let w = form_at t (App f a) is in
        whole t _ w.1 Δ θ (
          ρ,
          part w.0 f (w.2 f (omega (arith, w.5.0, w.6))) Δ (function_type ρ σ) (tree_typed f (function_type ρ σ) h Δ (plain Δ t (App f a) 0 f is refl s)),
          part w.0 a (w.2 a (omega (arith, w.5.1.0, w.6))) Δ ρ (tree_typed a ρ k Δ (plain Δ t (App f a) 1 a is refl s)),
        )
    tree_typed t θ (typing.if_rule {c = c} {a = a} {b = b} is h k l) Δ s =
        let w = form_at t (If c a b) is in
        whole t _ w.1 Δ θ (
          part w.0 c (w.2 c (omega (arith, w.5.0, w.6))) Δ int_type (tree_typed c int_type h Δ (plain Δ t (If c a b) 0 c is refl s)),
          part w.0 a (w.2 a (omega (arith, w.5.1.0, w.6))) Δ θ (tree_typed a θ k Δ (plain Δ t (If c a b) 1 a is refl s)),
          part w.0 b (w.2 b (omega (arith, w.5.1.1.0, w.6))) Δ θ (tree_typed b θ l Δ (plain Δ t (If c a b) 2 b is refl s)),
        )
    tree_typed t θ (typing.let_rule {x = x} {a = a} {b = b} {A = ρ} is h k l) Δ s =
        let w = form_at t (Let x a b) is in
        let value = part w.0 a (w.2 a (omega (arith, w.5.1.0, w.6))) Δ ρ (tree_typed a ρ k Δ (plain Δ t (Let x a b) 0 a is refl s)) in
        whole t _ w.1 Δ θ (
          rw (variables_known x ρ h) at value,
          part w.0 b (w.2 b (omega (arith, w.5.1.1.0, w.6))) (x ∷ Δ) θ (tree_typed b θ l (x ∷ Δ) (bound Δ t (Let x a b) 1 b x is refl s)),
        )
    tree_typed t θ (typing.assert_rule {a = a} is h) Δ s =
        let w = form_at t (Assert a) is in
        whole t _ w.1 Δ θ (refl, part w.0 a (w.2 a (omega (arith, w.5.0, w.6))) Δ int_type (tree_typed a int_type h Δ (plain Δ t (Assert a) 0 a is refl s)))
