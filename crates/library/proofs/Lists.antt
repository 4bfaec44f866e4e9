-- Lists by place, and the rows of a section. Assumes nothing.
use Rattle.std.proofs.lemmas.Option.{same_Some}
use Rattle.std.proofs.Common.{◌≡◌, ℕ, zero, suc, ◌<◌, ◌≤◌, Bool, true, false, cond, eqb, List, [], ◌∷◌, ◌++◌, length, get_or, not, take, drop, Some, None, Option, MatchOption, sym, refl, ap, ◌∙◌, subst, arith, eq-eqb, true-eqb}
use Rattle.std.specs.List.{position, position_or_len, slice_get}
use Rattle.std.proofs.lemmas.List.Sums.{fails_before_first}
use Rattle.std.proofs.lemmas.List.Quantifiers.{position-Some}
use Rattle.std.specs.Option.{option_map}
use Rattle.std.proofs.lemmas.Grind.{common_steps}
use Rattle.std.proofs.Math.Seq.{drop-cons, take-length}
use Rattle.std.proofs.lemmas.List.{take-append-drop}
use Rattle.std.proofs.lemmas.Option.{get_or_from_slice_get, gets, slice_get_within}
use Rattle.std.proofs.lemmas.Bool.{and_parts, and_from, false_from_ne_true, not-false, not-true}
use Rattle.rows.specs.declared.forms.TypeForm.{TypeForm}
use Rattle.rows.specs.declared.forms.TypeForm.TheVariants.{Unit as UnitType, Int as IntType, Pair as PairType, Fun as FunType}
use Rattle.rows.specs.declared.forms.Row.{Row}
use Rattle.library.specs.Listing.{type_form_of}
use Rattle.library.specs.Inference.{same_form, is_form, first_of_form}

pub nth_inside : {X : Type 0} (xs : List X) (i : ℕ) (x : X) → slice_get xs i ≡ Some x → i < length xs
nth_inside xs i x e = slice_get_within xs i x e

pub nth_there : {X : Type 0} (xs : List X) (i : ℕ) → i < length xs → (x : X) × (slice_get xs i ≡ Some x)
nth_there [] i lt = absurd (omega arith)
nth_there (x ∷ xs) zero lt = (x, refl)
nth_there (x ∷ xs) (suc i) lt = nth_there xs i (omega arith)

pub nth_left : {X : Type 0} (xs ys : List X) (i : ℕ) → i < length xs → slice_get (xs ++ ys) i ≡ slice_get xs i
nth_left xs ys i lt = grind (arith, common_steps, gets)

pub nth_end : {X : Type 0} (xs : List X) (y : X) (ys : List X) → slice_get (xs ++ (y ∷ ys)) (length xs) ≡ Some y
nth_end xs y ys = grind (arith, common_steps, gets)

pub nth_take : {X : Type 0} (xs : List X) (i k : ℕ) → i < k → slice_get (take k xs) i ≡ slice_get xs i
nth_take xs i k lt = grind (arith, common_steps, gets)

pub take_all : {X : Type 0} (xs : List X) → take (length xs) xs ≡ xs
take_all xs = take-length xs

pub parted : {X : Type 0} (xs : List X) (i : ℕ) (x : X) → slice_get xs i ≡ Some x → xs ≡ take i xs ++ (x ∷ drop (suc i) xs)
parted xs i x e =
    let rest = drop-cons xs i x (slice_get_within xs i x e) in
    sym (take-append-drop i xs) ∙ ap (λ ys. take i xs ++ ys) rest ∙ ap (λ y. take i xs ++ (y ∷ drop (suc i) xs)) (get_or_from_slice_get xs i x x e)

-- whether two forms are the same
pub same_refl : (f : TypeForm) → same_form f f ≡ true
same_refl UnitType = refl
same_refl IntType = refl
same_refl (PairType a b) = and_from _ _ (eq-eqb a a refl) (eq-eqb b b refl)
same_refl (FunType a b) = and_from _ _ (eq-eqb a a refl) (eq-eqb b b refl)

pub same_true : (f g : TypeForm) → same_form f g ≡ true → f ≡ g
same_true UnitType UnitType e = refl
same_true UnitType IntType e = cc
same_true UnitType (PairType a b) e = cc
same_true UnitType (FunType a b) e = cc
same_true IntType UnitType e = cc
same_true IntType IntType e = refl
same_true IntType (PairType a b) e = cc
same_true IntType (FunType a b) e = cc
same_true (PairType a b) UnitType e = cc
same_true (PairType a b) IntType e = cc
same_true (PairType a b) (PairType c d) e = let p = and_parts (eqb a c) (eqb b d) e in let x = true-eqb a c (sym p.0) in let y = true-eqb b d (sym p.1) in cc
same_true (PairType a b) (FunType c d) e = cc
same_true (FunType a b) UnitType e = cc
same_true (FunType a b) IntType e = cc
same_true (FunType a b) (PairType c d) e = cc
same_true (FunType a b) (FunType c d) e = let p = and_parts (eqb a c) (eqb b d) e in let x = true-eqb a c (sym p.0) in let y = true-eqb b d (sym p.1) in cc

pub is_form_true : (form : TypeForm) (o : Option TypeForm) → is_form form o ≡ true → o ≡ Some form
is_form_true form None e = cc
is_form_true form (Some g) e = ap Some (sym (same_true form g e))

pub is_form_told : (form : TypeForm) (o : Option TypeForm) → o ≡ Some form → is_form form o ≡ true
is_form_told form o e = ap (is_form form) e ∙ same_refl form

-- the first type of a form
pub first_found : (form : TypeForm) (rs : List Row) (n : ℕ) → ((k : ℕ) → k < n → type_form_of (slice_get rs k) ≡ Some form → ⊥) → type_form_of (slice_get rs n) ≡ Some form → first_of_form form rs ≡ Some n
first_found form [] n below here = cc
first_found form (r ∷ rs) zero below here = ap (λ b. cond b (Some 0) (option_map suc (first_of_form form rs))) (is_form_told form _ here)
first_found form (r ∷ rs) (suc n) below here =
    ap (λ b. cond b (Some 0) (option_map suc (first_of_form form rs))) (false_from_ne_true _ (λ e. below 0 (omega arith) (is_form_true form _ e)))
    ∙ ap (option_map suc) (first_found form rs n (λ k lt. below (suc k) (omega arith)) here)

pub none_found : (form : TypeForm) (rs : List Row) (n : ℕ) → length rs ≤ n → ((k : ℕ) → k < n → type_form_of (slice_get rs k) ≡ Some form → ⊥) → first_of_form form rs ≡ None
none_found form [] n all below = refl
none_found form (r ∷ rs) zero all below = absurd (omega arith)
none_found form (r ∷ rs) (suc n) all below =
    ap (λ b. cond b (Some 0) (option_map suc (first_of_form form rs))) (false_from_ne_true _ (λ e. below 0 (omega arith) (is_form_true form _ e)))
    ∙ ap (option_map suc) (none_found form rs n (omega arith) (λ k lt. below (suc k) (omega arith)))

-- the first of the numbers that are tried, where all are
pub first_of_section : (form : TypeForm) (rs : List Row) (most : ℕ) (found : Option ℕ) → length rs ≤ most → MatchOption found ((k : ℕ) → 0 ≤ k → k < most → type_form_of (slice_get rs k) ≡ Some form → ⊥) (λ n. (0 ≤ n) × (n < most) × (type_form_of (slice_get rs n) ≡ Some form) × ((k : ℕ) → 0 ≤ k → k < n → type_form_of (slice_get rs k) ≡ Some form → ⊥)) → found ≡ first_of_form form rs
first_of_section form rs most None all none = sym (none_found form rs most all (λ k lt. none k (omega arith) lt))
first_of_section form rs most (Some n) all first = sym (first_found form rs n (λ k lt. first.3 k (omega arith) lt) first.2)

-- a type found has its form
pub found_form : (form : TypeForm) (rs : List Row) (n : ℕ) → first_of_form form rs ≡ Some n → type_form_of (slice_get rs n) ≡ Some form
found_form form [] n e = cc
found_form form (r ∷ rs) n e = step (λ m. found_form form rs m) (is_form form (type_form_of (Some r))) refl e
  where
    later : ((m : ℕ) → first_of_form form rs ≡ Some m → type_form_of (slice_get rs m) ≡ Some form) → (o : Option ℕ) → first_of_form form rs ≡ o → option_map suc o ≡ Some n → type_form_of (slice_get (r ∷ rs) n) ≡ Some form
    later again None z g = cc
    later again (Some m) z g = subst (λ x. type_form_of (slice_get (r ∷ rs) x) ≡ Some form) (same_Some _ _ g) (again m z)

    step : ((m : ℕ) → first_of_form form rs ≡ Some m → type_form_of (slice_get rs m) ≡ Some form) → (b : Bool) → is_form form (type_form_of (Some r)) ≡ b → cond b (Some 0) (option_map suc (first_of_form form rs)) ≡ Some n → type_form_of (slice_get (r ∷ rs) n) ≡ Some form
    step again true q h = subst (λ j. type_form_of (slice_get (r ∷ rs) j) ≡ Some form) (same_Some _ _ h) (is_form_true form _ q)
    step again false q h = later again (first_of_form form rs) refl h

pub not_found : (form : TypeForm) (rs : List Row) (n : ℕ) → first_of_form form rs ≡ None → type_form_of (slice_get rs n) ≡ Some form → ⊥
not_found form [] n e here = cc
not_found form (r ∷ rs) n e here = step (λ k. not_found form rs k) (is_form form (type_form_of (Some r))) refl n e here
  where
    later : (o : Option ℕ) → option_map suc o ≡ None → o ≡ None
    later None g = refl
    later (Some m) g = cc

    step : ((k : ℕ) → first_of_form form rs ≡ None → type_form_of (slice_get rs k) ≡ Some form → ⊥) → (b : Bool) → is_form form (type_form_of (Some r)) ≡ b → (k : ℕ) → cond b (Some 0) (option_map suc (first_of_form form rs)) ≡ None → type_form_of (slice_get (r ∷ rs) k) ≡ Some form → ⊥
    step again true q k h there = cc
    step again false q zero h there = let told = is_form_told form _ there in cc
    step again false q (suc k) h there = again k (later (first_of_form form rs) h) there

pub take_take : {X : Type 0} (j i : ℕ) (xs : List X) → j ≤ i → take j (take i xs) ≡ take j xs
take_take j i xs le = grind (arith, common_steps)

-- where no place is found at which a test fails, each item passes it
pub all_pass : {X : Type 0} (passes : X → Bool) (xs : List X) → position (λ x. not (passes x)) xs ≡ None → (i : ℕ) (x : X) → slice_get xs i ≡ Some x → passes x ≡ true
all_pass passes xs none i x e =
    let past : length xs ≤ position_or_len (λ y. not (passes y)) xs = grind (arith, common_steps) in
    let inside = nth_inside xs i x e in
    let here = not-false _ (fails_before_first (λ y. not (passes y)) xs i x (omega arith)) in
    subst (λ y. passes y ≡ true) (get_or_from_slice_get xs i x x e) here

-- where a place is found, each item before it passes, and the one there fails
pub first_fails : {X : Type 0} (passes : X → Bool) (xs : List X) (n : ℕ) → position (λ x. not (passes x)) xs ≡ Some n → ((i : ℕ) (x : X) → i < n → slice_get xs i ≡ Some x → passes x ≡ true) × ((x : X) × (slice_get xs n ≡ Some x) × (passes x ≡ false))
first_fails passes xs n e =
    let inside : n < length xs = grind (arith, common_steps) in
    let there = nth_there xs n inside in
    let found = position-Some (λ y. not (passes y)) xs n there.0 e in
    let failing = not-true (passes (get_or xs n there.0)) found.1 in
    let read : get_or xs n there.0 ≡ there.0 = get_or_from_slice_get xs n there.0 there.0 there.1 in (
      λ i x before at. ap passes (sym (get_or_from_slice_get xs i x x at)) ∙ not-false _ ((position-Some (λ y. not (passes y)) xs n x e).2 i before),
      (there.0, there.1, ap passes (sym read) ∙ failing),
    )
