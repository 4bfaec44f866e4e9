-- What is cut off a text up to and with its first line feed. Assumes nothing.
use Rattle.std.proofs.Common.{◌≡◌, ℕ, zero, suc, ◌+◌, ◌-◌, ◌<◌, min, Bool, true, false, eqb, ◌⊎◌, List, [], ◌∷◌, ◌++◌, length, take, drop, None, Some, sym, refl, ap, ◌∙◌, subst, inl, inr, ⊎_elim, append_assoc, arith}
use denote.Param.Members.{Mut}
use denote.Ref.{Bor}
use Rattle.std.specs.Fn.{Called, ComputesKey}
use Rattle.std.specs.List.{IsFirstMatchOrLen}
use Rattle.std.proofs.lemmas.Fn.{always_returns_same}
use Rattle.std.proofs.lemmas.List.{append_cancel_right}
use Rattle.std.proofs.lemmas.Bool.{eqb-true, eqb-false}
use Rattle.std.proofs.lemmas.Bool.Decides.{Decides-eqb}
use Rattle.std.proofs.lemmas.Slice.Eq.{strip_suffix_is}
use Rattle.std.specs.Cmp.Lexicographic.{pointwise}
use Rattle.text.specs.Slots.{Lacks}
use Rattle.reader.specs.Text.{FirstLine}
use Rattle.reader.proofs.Unique.{has_feed}

-- a line ends in its only line feed, or is all that is left and has none
abbrev Ends : List ℕ → List ℕ → Type 0
Ends line after = ((body : List ℕ) × (line ≡ body ++ (10 ∷ [])) × Lacks 10 body) ⊎ (Lacks 10 line × (0 < length line) × (after ≡ []))

cut_ends : (b : ℕ) (line after : List ℕ) (i : ℕ) → length line + 1 ≡ min (i + 1) (length (line ++ after) + 1) → IsFirstMatchOrLen (λ x. eqb x 10) (b ∷ (line ++ after)) i → Ends (b ∷ line) after
cut_ends b [] after zero n h = inl ([], ap (λ x. x ∷ []) (eqb-true b 10 (h.1 (omega arith) 0)), tt)
cut_ends b (x ∷ line) after zero n h = absurd (omega arith)
cut_ends b [] [] (suc i) n h = inr ((eqb-false b 10 (h.0 0 0 (omega arith) (omega arith)), tt), omega arith, refl)
cut_ends b [] (x ∷ after) (suc i) n h = absurd (omega arith)
cut_ends b (x ∷ line) after (suc i) n h =
    let other : b ≡ 10 → ⊥ = eqb-false b 10 (h.0 0 0 (omega arith) (omega arith)) in
    ⊎_elim (λ p. inl (b ∷ p.0, ap (λ l. b ∷ l) p.1, (other, p.2))) (λ p. inr ((other, p.0), omega arith, p.2))
    (cut_ends x line after i (omega arith) (λ k d low high. h.0 (suc k) d (omega arith) (omega arith), λ inside d. h.1 (omega arith) d))

-- line is cut off rest after the first element that a closure tells, or is all of it
abbrev Cut : {F : Type 0} → Mut F (Bor ℕ × Unit {0}) Bool → F → F → List ℕ → List ℕ → List ℕ → Type 0
Cut g f f' rest line after = (rest ≡ line ++ after) × ((i : ℕ) × (length line ≡ min (i + 1) (length rest)) × ((p : ℕ → Bool) → ComputesKey g p f → ComputesKey g p f' × IsFirstMatchOrLen p rest i)) × (0 < length rest)

-- the closure tells line feeds
abbrev Tests : {F : Type 0} → Mut F (Bor ℕ × Unit {0}) Bool → F → Type 0
Tests {F = F} g f = (a : Bor ℕ × Unit {0}) (r : Bool) (q : F) → Called g f a r q → (r ≡ eqb a.0.now 10) × (q ≡ f)

-- what is cut off is the first line
first_cut : {F : Type 0} {g : Mut F (Bor ℕ × Unit {0}) Bool} {f f' : F} {rest line after : List ℕ} → Cut g f f' rest line after → Tests g f → FirstLine rest line after
first_cut {g = g} {f = f} {line = []} s tests = absurd (omega (arith, ap length s.0))
first_cut {g = g} {f = f} {line = b ∷ line} {after = after} s tests =
    let found = (s.1.2 (λ x. eqb x 10) (always_returns_same g (λ a r. r ≡ eqb a.0.now 10) f tests)).1 in
    record {
      parts = s.0;
      ends = cut_ends b line after s.1.0 (let m = ap length s.0 in omega (arith, s.1.1)) (subst (λ bs. IsFirstMatchOrLen (λ x. eqb x 10) bs s.1.0) s.0 found);
    }

-- what is cut off, where it ends in a line feed: the body before it
pub ended_line : {F : Type 0} {g : Mut F (Bor ℕ × Unit {0}) Bool} {f f' : F} {rest after : List ℕ} (line : List ℕ) (body : Bor (List ℕ)) → Cut g f f' rest line after → Tests g f → (pointwise eqb (drop (length line - 1) line) (10 ∷ []) ≡ true) × (body.now ≡ take (length line - 1) line) × (length body.now + 1 ≡ length line) → FirstLine rest (body.now ++ (10 ∷ [])) after × (rest ≡ body.now ++ (10 ∷ after)) × Lacks 10 body.now
ended_line {after = after} line body s tests stripped =
    let whole : line ≡ body.now ++ (10 ∷ []) = strip_suffix_is Decides-eqb line (10 ∷ []) (Some body) stripped in
    let first = rw whole at (first_cut s tests) in (
      first,
      first.parts ∙ append_assoc body.now (10 ∷ []) after,
      ⊎_elim (λ p. subst (Lacks 10) (append_cancel_right p.0 body.now (10 ∷ []) (sym p.1)) p.2) (λ p. absurd (has_feed body.now [] p.0)) first.ends,
    )

-- and where it does not
pub unended_line : {F : Type 0} {g : Mut F (Bor ℕ × Unit {0}) Bool} {f f' : F} {rest after : List ℕ} (line : List ℕ) → Cut g f f' rest line after → Tests g f → (pointwise eqb (drop (length line - 1) line) (10 ∷ []) ≡ false) → FirstLine rest line after × Lacks 10 line
unended_line line s tests kept =
    let none : (body : List ℕ) → line ≡ body ++ (10 ∷ []) → ⊥ = strip_suffix_is Decides-eqb line (10 ∷ []) None kept in
    let first = first_cut s tests in
    (first, ⊎_elim (λ p. absurd (none p.0 p.1)) (λ p. p.0) first.ends)
