-- Each term has one type. Assumes nothing.
use Rattle.std.proofs.lemmas.Option.{same_Some}
use Rattle.std.proofs.Common.{◌≡◌, ℕ, List, Option, sym, refl, ap, ◌∙◌, subst}
use Rattle.std.specs.List.{slice_get}
use Rattle.rows.specs.declared.forms.TermForm.{TermForm}
use Rattle.rows.specs.declared.forms.TermForm.TheVariants.{Unit as UnitTerm, Num, Var, Meth, Get, Lam, Set, Op, Pair, Fst, Snd, App, If, Let, Assert}
use Rattle.rows.specs.declared.forms.Row.{Row}
use Rattle.rows.specs.Types.{Tree, unit, int, pair, fun, types}
use Rattle.library.specs.Typing.{TermIs, Names, VariableHas, MethodHas, GlobalHas, HasType, unit_rule, num_rule, var_rule, meth_rule, get_rule, lam_rule, set_rule, op_rule, pair_rule, fst_rule, snd_rule, app_rule, if_rule, let_rule, assert_rule, OneType}

-- what the rule of a term's form says of its type
abbrev pub Rule : List Row → TermForm → Tree → Type 0
Rule rows UnitTerm A = A ≡ unit
Rule rows (Num i) A = A ≡ int
Rule rows (Var x) A = VariableHas rows x A
Rule rows (Meth m) A = MethodHas rows m A
Rule rows (Get r) A = GlobalHas rows r A
Rule rows (Lam x a) A = (B : Tree) × (C : Tree) × VariableHas rows x B × HasType rows a C × (A ≡ fun B C)
Rule rows (Set r a) A = (B : Tree) × GlobalHas rows r B × HasType rows a B × (A ≡ unit)
Rule rows (Op o a b) A = HasType rows a int × HasType rows b int × (A ≡ int)
Rule rows (Pair a b) A = (B : Tree) × (C : Tree) × HasType rows a B × HasType rows b C × (A ≡ pair B C)
Rule rows (Fst a) A = (B : Tree) × HasType rows a (pair A B)
Rule rows (Snd a) A = (B : Tree) × HasType rows a (pair B A)
Rule rows (App f a) A = (B : Tree) × HasType rows f (fun B A) × HasType rows a B
Rule rows (If c a b) A = HasType rows c int × HasType rows a A × HasType rows b A
Rule rows (Let x a b) A = (B : Tree) × VariableHas rows x B × HasType rows a B × HasType rows b A
Rule rows (Assert a) A = HasType rows a int × (A ≡ unit)

pub ruled : {rows : List Row} {t : ℕ} {A : Tree} → HasType rows t A → (form : TermForm) → TermIs rows t form → Rule rows form A
ruled {rows = rows} (unit_rule e) form h = subst (λ f. Rule rows f unit) (same_Some _ _ (sym e ∙ h)) refl
ruled {rows = rows} (num_rule e) form h = subst (λ f. Rule rows f int) (same_Some _ _ (sym e ∙ h)) refl
ruled {rows = rows} (var_rule {A = A} e v) form h = subst (λ f. Rule rows f A) (same_Some _ _ (sym e ∙ h)) v
ruled {rows = rows} (meth_rule {A = A} e v) form h = subst (λ f. Rule rows f A) (same_Some _ _ (sym e ∙ h)) v
ruled {rows = rows} (get_rule {A = A} e v) form h = subst (λ f. Rule rows f A) (same_Some _ _ (sym e ∙ h)) v
ruled {rows = rows} (lam_rule {A = A} {B = B} e v a) form h = subst (λ f. Rule rows f (fun A B)) (same_Some _ _ (sym e ∙ h)) (A, B, v, a, refl)
ruled {rows = rows} (set_rule {A = A} e v a) form h = subst (λ f. Rule rows f unit) (same_Some _ _ (sym e ∙ h)) (A, v, a, refl)
ruled {rows = rows} (op_rule e a b) form h = subst (λ f. Rule rows f int) (same_Some _ _ (sym e ∙ h)) (a, b, refl)
ruled {rows = rows} (pair_rule {A = A} {B = B} e a b) form h = subst (λ f. Rule rows f (pair A B)) (same_Some _ _ (sym e ∙ h)) (A, B, a, b, refl)
ruled {rows = rows} (fst_rule {A = A} {B = B} e a) form h = subst (λ f. Rule rows f A) (same_Some _ _ (sym e ∙ h)) (B, a)
ruled {rows = rows} (snd_rule {A = A} {B = B} e a) form h = subst (λ f. Rule rows f B) (same_Some _ _ (sym e ∙ h)) (A, a)
ruled {rows = rows} (app_rule {A = A} {B = B} e f a) form h = subst (λ f. Rule rows f B) (same_Some _ _ (sym e ∙ h)) (A, f, a)
ruled {rows = rows} (if_rule {A = A} e c a b) form h = subst (λ f. Rule rows f A) (same_Some _ _ (sym e ∙ h)) (c, a, b)
ruled {rows = rows} (let_rule {A = A} {B = B} e v a b) form h = subst (λ f. Rule rows f B) (same_Some _ _ (sym e ∙ h)) (A, v, a, b)
ruled {rows = rows} (assert_rule e a) form h = subst (λ f. Rule rows f unit) (same_Some _ _ (sym e ∙ h)) (a, refl)

names_one : (rows : List Row) (o : Option ℕ) (A B : Tree) → Names rows o A → Names rows o B → A ≡ B
names_one rows o A B v w =
    let same : v.number ≡ w.number = same_Some _ _ (sym v.is ∙ w.is) in
    same_Some _ _ (sym v.named ∙ ap (slice_get (types rows)) same ∙ w.named)

one : {rows : List Row} {t : ℕ} {A : Tree} → HasType rows t A → (B : Tree) → HasType rows t B → A ≡ B
one (unit_rule e) B d = sym (ruled d UnitTerm e)
one (num_rule {i = i} e) B d = sym (ruled d (Num i) e)
one {rows = rows} (var_rule {x = x} {A = A} e v) B d = names_one rows _ A B v (ruled d (Var x) e)
one {rows = rows} (meth_rule {m = m} {A = A} e v) B d = names_one rows _ A B v (ruled d (Meth m) e)
one {rows = rows} (get_rule {r = r} {A = A} e v) B d = names_one rows _ A B v (ruled d (Get r) e)
one {rows = rows} (lam_rule {x = x} {a = a} {A = A} {B = C} e v b) B d =
    let r = ruled d (Lam x a) e in
    let p = names_one rows _ A r.0 v r.2 in
    let q = one b r.1 r.3 in
    let z = r.4 in cc
one (set_rule {r = g} {a = a} e v b) B d = sym (ruled d (Set g a) e).3
one (op_rule {a = a} {b = b} {o = o} e x y) B d = sym (ruled d (Op o a b) e).2
one (pair_rule {a = a} {b = b} {A = A} {B = C} e x y) B d =
    let r = ruled d (Pair a b) e in
    let p = one x r.0 r.2 in
    let q = one y r.1 r.3 in
    let z = r.4 in cc
one (fst_rule {a = a} {A = A} {B = C} e x) B d =
    let r = ruled d (Fst a) e in
    let p : pair A C ≡ pair B r.0 = one x (pair B r.0) r.1 in cc
one (snd_rule {a = a} {A = A} {B = C} e x) B d =
    let r = ruled d (Snd a) e in
    let p : pair A C ≡ pair r.0 B = one x (pair r.0 B) r.1 in cc
one (app_rule {f = f} {a = a} {A = A} {B = C} e x y) B d =
    let r = ruled d (App f a) e in
    let p : fun A C ≡ fun r.0 B = one x (fun r.0 B) r.1 in cc
one (if_rule {c = c} {a = a} {b = b} e x y z) B d = one y B (ruled d (If c a b) e).1
one (let_rule {x = x} {a = a} {b = b} e v y z) B d = one z B (ruled d (Let x a b) e).3
one (assert_rule {a = a} e x) B d = sym (ruled d (Assert a) e).1

pub one_type : OneType
one_type rows t A B d e = one d B e
