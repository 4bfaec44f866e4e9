-- The free variables that are found for a term are those that it has. Assumes nothing.
use Rattle.std.proofs.lemmas.Option.{none-some, same_Some}
use Rattle.std.proofs.Common.{◌≡◌, ℕ, zero, suc, ◌^◌, ◌<◌, ◌⊎◌, List, take, Some, None, Option, unwrap_or, sym, refl, ap, ◌∙◌, subst, inl, inr, ⊎_elim, arith}
use Rattle.std.specs.List.{slice_get}
use Rattle.rows.specs.declared.forms.TermForm.{TermForm}
use Rattle.rows.specs.declared.forms.TermForm.TheVariants.{Unit as UnitTerm, Num, Var, Meth, Get, Lam, Set, Op, Pair, Fst, Snd, App, If, Let, Assert}
use Rattle.rows.specs.declared.forms.Row.{Row}
use Rattle.rows.specs.Faults.{Faultless}
use Rattle.library.specs.Typing.{TermIs}
use Rattle.library.proofs.Lists.{nth_inside, nth_there}
use lib.Bits.{bit_or}
use Rattle.rows.specs.declared.forms.Section.TheVariants.{Variables}
use Rattle.library.specs.Closed.{Closed, Free, inside, itself, parts}
use Rattle.library.specs.Scopes.{ScopedBy, free_in, without}
use Rattle.library.proofs.Lists.{nth_take}
use Rattle.library.proofs.Sorted.{few, term_back, term_inside, term_there}
use Rattle.library.proofs.Bits.{In, empty_set, in_only, in_without, nothing_in, or_left, or_out, or_right, out_only, out_without}

same_part : {q a : ℕ} {bound other : Option ℕ} → ◌≡◌ {A = Option (ℕ × Option ℕ)} (Some (a, other)) (Some (q, bound)) → a ≡ q
same_part e = ap (λ p. p.0) (same_Some _ _ e)

same_bound : {q a : ℕ} {bound other : Option ℕ} → ◌≡◌ {A = Option (ℕ × Option ℕ)} (Some (a, other)) (Some (q, bound)) → bound ≡ other
same_bound e = ap (λ p. p.1) (sym (same_Some _ _ e))

-- a part of a term in which the variable isn't bound
record Inside (known : List ℕ) (x : ℕ) (form : TermForm) : Type 0 where
  pub k : ℕ
  pub part : ℕ
  pub bound : Option ℕ
  pub is : slice_get (parts form) k ≡ Some (part, bound)
  pub unbound : bound ≡ Some x → ⊥
  pub there : In x (unwrap_or (slice_get known part) 0)

moved : (known : List ℕ) (x q a : ℕ) → a ≡ q → In x (unwrap_or (slice_get known q) 0) → In x (unwrap_or (slice_get known a) 0)
moved known x q a e i = subst (λ p. In x (unwrap_or (slice_get known p) 0)) (sym e) i

part_in : (known : List ℕ) (x : ℕ) (form : TermForm) (k q : ℕ) (bound : Option ℕ) → slice_get (parts form) k ≡ Some (q, bound) → (bound ≡ Some x → ⊥) → In x (unwrap_or (slice_get known q) 0) → In x (free_in known form)
part_in known x UnitTerm k q bound e free i = cc
part_in known x (Num z) k q bound e free i = cc
part_in known x (Var y) k q bound e free i = cc
part_in known x (Meth m) k q bound e free i = cc
part_in known x (Get r) k q bound e free i = cc
part_in known x (Lam y a) zero q bound e free i = in_without x y (unwrap_or (slice_get known a) 0) (λ s. free (same_bound e ∙ ap Some s)) (moved known x q a (same_part e) i)
part_in known x (Lam y a) (suc k) q bound e free i = cc
part_in known x (Set r a) zero q bound e free i = moved known x q a (same_part e) i
part_in known x (Set r a) (suc k) q bound e free i = cc
part_in known x (Op o a b) zero q bound e free i = or_left x (unwrap_or (slice_get known a) 0) (unwrap_or (slice_get known b) 0) (moved known x q a (same_part e) i)
part_in known x (Op o a b) (suc zero) q bound e free i = or_right x (unwrap_or (slice_get known a) 0) (unwrap_or (slice_get known b) 0) (moved known x q b (same_part e) i)
part_in known x (Op o a b) (suc (suc k)) q bound e free i = cc
part_in known x (Pair a b) zero q bound e free i = or_left x (unwrap_or (slice_get known a) 0) (unwrap_or (slice_get known b) 0) (moved known x q a (same_part e) i)
part_in known x (Pair a b) (suc zero) q bound e free i = or_right x (unwrap_or (slice_get known a) 0) (unwrap_or (slice_get known b) 0) (moved known x q b (same_part e) i)
part_in known x (Pair a b) (suc (suc k)) q bound e free i = cc
part_in known x (Fst a) zero q bound e free i = moved known x q a (same_part e) i
part_in known x (Fst a) (suc k) q bound e free i = cc
part_in known x (Snd a) zero q bound e free i = moved known x q a (same_part e) i
part_in known x (Snd a) (suc k) q bound e free i = cc
part_in known x (App f a) zero q bound e free i = or_left x (unwrap_or (slice_get known f) 0) (unwrap_or (slice_get known a) 0) (moved known x q f (same_part e) i)
part_in known x (App f a) (suc zero) q bound e free i = or_right x (unwrap_or (slice_get known f) 0) (unwrap_or (slice_get known a) 0) (moved known x q a (same_part e) i)
part_in known x (App f a) (suc (suc k)) q bound e free i = cc
part_in known x (If c a b) zero q bound e free i = or_left x (unwrap_or (slice_get known c) 0) (bit_or (unwrap_or (slice_get known a) 0) (unwrap_or (slice_get known b) 0)) (moved known x q c (same_part e) i)
part_in known x (If c a b) (suc zero) q bound e free i = or_right x (unwrap_or (slice_get known c) 0) (bit_or (unwrap_or (slice_get known a) 0) (unwrap_or (slice_get known b) 0)) (or_left x (unwrap_or (slice_get known a) 0) (unwrap_or (slice_get known b) 0) (moved known x q a (same_part e) i))
part_in known x (If c a b) (suc (suc zero)) q bound e free i = or_right x (unwrap_or (slice_get known c) 0) (bit_or (unwrap_or (slice_get known a) 0) (unwrap_or (slice_get known b) 0)) (or_right x (unwrap_or (slice_get known a) 0) (unwrap_or (slice_get known b) 0) (moved known x q b (same_part e) i))
part_in known x (If c a b) (suc (suc (suc k))) q bound e free i = cc
part_in known x (Let y a b) zero q bound e free i = or_left x (unwrap_or (slice_get known a) 0) (without (unwrap_or (slice_get known b) 0) y) (moved known x q a (same_part e) i)
part_in known x (Let y a b) (suc zero) q bound e free i = or_right x (unwrap_or (slice_get known a) 0) (without (unwrap_or (slice_get known b) 0) y) (in_without x y (unwrap_or (slice_get known b) 0) (λ s. free (same_bound e ∙ ap Some s)) (moved known x q b (same_part e) i))
part_in known x (Let y a b) (suc (suc k)) q bound e free i = cc
part_in known x (Assert a) zero q bound e free i = moved known x q a (same_part e) i
part_in known x (Assert a) (suc k) q bound e free i = cc

in_part : (known : List ℕ) (x : ℕ) → x < 64 → (form : TermForm) → In x (free_in known form) → (form ≡ Var x) ⊎ Inside known x form
in_part known x small UnitTerm i = absurd (nothing_in x i)
in_part known x small (Num z) i = absurd (nothing_in x i)
in_part known x small (Var y) i = inl (ap Var (out_only x y i))
in_part known x small (Meth m) i = absurd (nothing_in x i)
in_part known x small (Get r) i = absurd (nothing_in x i)
in_part known x small (Lam y a) i = (let w = out_without x y (unwrap_or (slice_get known a) 0) small (i) in inr (record { k = 0; part = a; bound = Some y; is = refl; unbound = λ e. w.0 (same_Some _ _ e); there = w.1 }))
in_part known x small (Set r a) i = (inr (record { k = 0; part = a; bound = None; is = refl; unbound = none-some _; there = i }))
in_part known x small (Op o a b) i = ⊎_elim (λ h. (inr (record { k = 0; part = a; bound = None; is = refl; unbound = none-some _; there = h }))) (λ h. (inr (record { k = 1; part = b; bound = None; is = refl; unbound = none-some _; there = h }))) (or_out x (unwrap_or (slice_get known a) 0) (unwrap_or (slice_get known b) 0) i)
in_part known x small (Pair a b) i = ⊎_elim (λ h. (inr (record { k = 0; part = a; bound = None; is = refl; unbound = none-some _; there = h }))) (λ h. (inr (record { k = 1; part = b; bound = None; is = refl; unbound = none-some _; there = h }))) (or_out x (unwrap_or (slice_get known a) 0) (unwrap_or (slice_get known b) 0) i)
in_part known x small (Fst a) i = (inr (record { k = 0; part = a; bound = None; is = refl; unbound = none-some _; there = i }))
in_part known x small (Snd a) i = (inr (record { k = 0; part = a; bound = None; is = refl; unbound = none-some _; there = i }))
in_part known x small (App f a) i = ⊎_elim (λ h. (inr (record { k = 0; part = f; bound = None; is = refl; unbound = none-some _; there = h }))) (λ h. (inr (record { k = 1; part = a; bound = None; is = refl; unbound = none-some _; there = h }))) (or_out x (unwrap_or (slice_get known f) 0) (unwrap_or (slice_get known a) 0) i)
in_part known x small (If c a b) i = ⊎_elim (λ h. (inr (record { k = 0; part = c; bound = None; is = refl; unbound = none-some _; there = h }))) (λ g. ⊎_elim (λ h. (inr (record { k = 1; part = a; bound = None; is = refl; unbound = none-some _; there = h }))) (λ h. (inr (record { k = 2; part = b; bound = None; is = refl; unbound = none-some _; there = h }))) (or_out x (unwrap_or (slice_get known a) 0) (unwrap_or (slice_get known b) 0) g)) (or_out x (unwrap_or (slice_get known c) 0) (bit_or (unwrap_or (slice_get known a) 0) (unwrap_or (slice_get known b) 0)) i)
in_part known x small (Let y a b) i = ⊎_elim (λ h. (inr (record { k = 0; part = a; bound = None; is = refl; unbound = none-some _; there = h }))) (λ h. (let w = out_without x y (unwrap_or (slice_get known b) 0) small (h) in inr (record { k = 1; part = b; bound = Some y; is = refl; unbound = λ e. w.0 (same_Some _ _ e); there = w.1 }))) (or_out x (unwrap_or (slice_get known a) 0) (without (unwrap_or (slice_get known b) 0) y) i)
in_part known x small (Assert a) i = (inr (record { k = 0; part = a; bound = None; is = refl; unbound = none-some _; there = i }))

module _ (rows : List Row) (fine : Faultless rows) where
  -- variables have numbers below 64
  var_small : (t x : ℕ) → TermIs rows t (Var x) → x < 64
  var_small t x h = let b = term_back rows fine t (Var x) h in omega (arith, b.1.0, b.3 Variables, few rows fine Variables)

  free_small : (x : ℕ) {t : ℕ} → Free rows x t → x < 64
  free_small x {t = t} (itself h) = var_small t x h
  free_small x (inside form k a bound h p nb d) = free_small x d

  -- the parts of a term come before it
  below : (form : TermForm) (k a t : ℕ) (bound : Option ℕ) → TermIs rows t form → slice_get (parts form) k ≡ Some (a, bound) → a < t
  below UnitTerm k q t bound h e = cc
  below (Num z) k q t bound h e = cc
  below (Var y) k q t bound h e = cc
  below (Meth m) k q t bound h e = cc
  below (Get r) k q t bound h e = cc
  below (Lam y a) zero q t bound h e = let back = term_back rows fine t (Lam y a) h in let s : a ≡ q = same_part e in omega (arith, back.1.1.0, back.2)
  below (Lam y a) (suc k) q t bound h e = cc
  below (Set r a) zero q t bound h e = let back = term_back rows fine t (Set r a) h in let s : a ≡ q = same_part e in omega (arith, back.1.1.0, back.2)
  below (Set r a) (suc k) q t bound h e = cc
  below (Op o a b) zero q t bound h e = let back = term_back rows fine t (Op o a b) h in let s : a ≡ q = same_part e in omega (arith, back.1.0, back.2)
  below (Op o a b) (suc zero) q t bound h e = let back = term_back rows fine t (Op o a b) h in let s : b ≡ q = same_part e in omega (arith, back.1.1.0, back.2)
  below (Op o a b) (suc (suc k)) q t bound h e = cc
  below (Pair a b) zero q t bound h e = let back = term_back rows fine t (Pair a b) h in let s : a ≡ q = same_part e in omega (arith, back.1.0, back.2)
  below (Pair a b) (suc zero) q t bound h e = let back = term_back rows fine t (Pair a b) h in let s : b ≡ q = same_part e in omega (arith, back.1.1.0, back.2)
  below (Pair a b) (suc (suc k)) q t bound h e = cc
  below (Fst a) zero q t bound h e = let back = term_back rows fine t (Fst a) h in let s : a ≡ q = same_part e in omega (arith, back.1.0, back.2)
  below (Fst a) (suc k) q t bound h e = cc
  below (Snd a) zero q t bound h e = let back = term_back rows fine t (Snd a) h in let s : a ≡ q = same_part e in omega (arith, back.1.0, back.2)
  below (Snd a) (suc k) q t bound h e = cc
  below (App f a) zero q t bound h e = let back = term_back rows fine t (App f a) h in let s : f ≡ q = same_part e in omega (arith, back.1.0, back.2)
  below (App f a) (suc zero) q t bound h e = let back = term_back rows fine t (App f a) h in let s : a ≡ q = same_part e in omega (arith, back.1.1.0, back.2)
  below (App f a) (suc (suc k)) q t bound h e = cc
  below (If c a b) zero q t bound h e = let back = term_back rows fine t (If c a b) h in let s : c ≡ q = same_part e in omega (arith, back.1.0, back.2)
  below (If c a b) (suc zero) q t bound h e = let back = term_back rows fine t (If c a b) h in let s : a ≡ q = same_part e in omega (arith, back.1.1.0, back.2)
  below (If c a b) (suc (suc zero)) q t bound h e = let back = term_back rows fine t (If c a b) h in let s : b ≡ q = same_part e in omega (arith, back.1.1.1.0, back.2)
  below (If c a b) (suc (suc (suc k))) q t bound h e = cc
  below (Let y a b) zero q t bound h e = let back = term_back rows fine t (Let y a b) h in let s : a ≡ q = same_part e in omega (arith, back.1.1.0, back.2)
  below (Let y a b) (suc zero) q t bound h e = let back = term_back rows fine t (Let y a b) h in let s : b ≡ q = same_part e in omega (arith, back.1.1.1.0, back.2)
  below (Let y a b) (suc (suc k)) q t bound h e = cc
  below (Assert a) zero q t bound h e = let back = term_back rows fine t (Assert a) h in let s : a ≡ q = same_part e in omega (arith, back.1.0, back.2)
  below (Assert a) (suc k) q t bound h e = cc

  module _ (sets : List ℕ) (scoped : ScopedBy rows sets) where
    earlier : (t a s : ℕ) → a < t → slice_get sets t ≡ Some s → (u : ℕ) × (slice_get sets a ≡ Some u) × (unwrap_or (slice_get (take t sets) a) 0 ≡ u)
    earlier t a s lt e =
        let u = nth_there sets a (omega (arith, nth_inside sets t s e)) in
        (u.0, u.1, ap (λ o. unwrap_or o 0) (nth_take sets a t lt ∙ u.1))

    pub free_found : (x : ℕ) {t : ℕ} → Free rows x t → (s : ℕ) → slice_get sets t ≡ Some s → In x s
    free_found x {t = t} (itself h) s e = subst (In x) (sym (scoped t s (Var x) e h)) (in_only x (var_small t x h))
    free_found x {t = t} (inside form k a bound h p nb d) s e =
        let lt = below form k a t bound h p in
        let u = earlier t a s lt e in
        let i = free_found x d u.0 u.1 in
        subst (In x) (sym (scoped t s form e h)) (part_in (take t sets) x form k a bound p nb (subst (In x) (sym u.2) i))

    found_free : (fuel t x : ℕ) → t < fuel → x < 64 → (form : TermForm) (s : ℕ) → TermIs rows t form → slice_get sets t ≡ Some s → In x s → Free rows x t
    found_free zero t x lt small form s h e i = absurd (omega arith)
    found_free (suc fuel) t x lt small form s h e i =
        ⊎_elim (λ same. itself (h ∙ ap Some same))
        (λ p.
        let before = below form p.k p.part t p.bound h p.is in
        let u = earlier t p.part s before e in
        let there : In x u.0 = subst (In x) u.2 p.there in
        let g = term_there rows fine p.part (omega (arith, before, term_inside rows fine t form h)) in
        inside form p.k p.part p.bound h p.is p.unbound (found_free fuel p.part x (omega arith) small g.0 u.0 g.1 u.1 there))
        (in_part (take t sets) x small form (subst (In x) (scoped t s form e h) i))

    pub closed_empty : (t : ℕ) → slice_get sets t ≡ Some 0 → Closed rows t
    closed_empty t e x f = nothing_in x (free_found x f 0 e)

    pub closed_told : (t s : ℕ) (form : TermForm) → s < 2 ^ 64 → TermIs rows t form → slice_get sets t ≡ Some s → Closed rows t → s ≡ 0
    closed_told t s form lt h e closed = empty_set 64 s lt (λ x small i. closed x (found_free (suc t) t x (omega arith) small form s h e i))
