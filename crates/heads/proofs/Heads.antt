-- The laws of a head line, from the reading of what it may name and from its faults. Assumes nothing.
use Rattle.std.proofs.Common.{◌≡◌, ℕ, Bool, List, [], ◌∷◌, ◌++◌, Some, Ok, Err, ◌⊎◌, ⊎_elim, Option, Result, sym, ap, subst, arith}
use Rattle.faults.specs.declared.TextFault.{TextFault}
use Rattle.faults.specs.declared.TextFault.TheVariants.{Form, Number}
use Rattle.faults.specs.declared.PlayFault.{PlayFault}
use Rattle.faults.specs.declared.PlayFault.TheVariants.{Text}
use Rattle.faults.specs.Numbers.{play_number}
use Rattle.text.specs.Slots.{Slot}
use Rattle.text.specs.Lines.{Spells}
use Rattle.text.specs.Reading.{cut}
use Rattle.heads.specs.Heads.{ByFields}
use Rattle.heads.specs.Lines.{SpellsWithin, HasTextFault, SpellsOutside, Answers, Least, Only}
use Rattle.heads.proofs.Lines.{Reading, formed_line, spells_read, spells_once, text_faultless, formed_fields, spells_none}
use Rattle.heads.proofs.Answering.{least_form, least_number, one_answer}

-- the faults of a line that may name a thing: those of its text, and one that is told where the thing is outside its limits
pub record Faults {X : Type 0} (slots : X → List Slot) (Within : X → Type 0) (outside : PlayFault) (holds : List ℕ → PlayFault → Type 0) : Type 0 where
  pub of_text : (line : List ℕ) (fault : TextFault) → HasTextFault slots line fault → holds line (Text fault)
  pub text_of : (line : List ℕ) (fault : TextFault) → holds line (Text fault) → HasTextFault slots line fault
  pub of_outside : (line : List ℕ) → SpellsOutside slots Within line → holds line outside
  pub kinds : (line : List ℕ) (fault : PlayFault) → holds line fault → ((f : TextFault) × (fault ≡ Text f)) ⊎ ((fault ≡ outside) × SpellsOutside slots Within line)

-- a value of just this thing where it is within its limits, and else the fault
abbrev pub MadeWithin : {X Y : Type 0} → (X → Type 0) → PlayFault → (Y → X) → X → Result Y PlayFault → Type 0
MadeWithin Within outside of x (Ok y) = Within x × (of y ≡ x)
MadeWithin Within outside of x (Err fault) = (Within x → ⊥) × (fault ≡ outside)

module _ {X Y : Type 0} {slots : X → List Slot} {formed : List (List ℕ) → Bool} {read : List (List ℕ) → Option X} {Within : X → Type 0} {outside : PlayFault} {holds : List ℕ → PlayFault → Type 0} (reading : Reading slots formed read) (faults : Faults slots Within outside holds) (of : Y → X) (same : (y z : Y) → of y ≡ of z → y ≡ z) where
  abbrev line : List ℕ → List ℕ
  line body = body ++ (10 ∷ [])

  -- the answers to a line that are allowed, with the line's bytes before its line feed
  abbrev pub Allowed : List ℕ → Result Y PlayFault → Type 0
  Allowed body = Answers (λ y. SpellsWithin slots Within (line body) (of y)) (holds (line body))

  module _ (body : List ℕ) where
    -- a fault of a line that spells a thing tells that it is outside its limits
    spelled_fault : (x : X) → Spells slots (line body) x → (fault : PlayFault) → holds (line body) fault → (fault ≡ outside) × (Within x → ⊥)
    spelled_fault x h fault k =
        ⊎_elim (λ t. absurd (text_faultless _ _ _ reading body x h t.0 (faults.text_of (line body) t.0 (subst (holds (line body)) t.1 k))))
        (λ o. (o.0, λ within. o.1.2 (subst Within (spells_once _ _ _ reading body x o.1.0 h o.1.1) within))) (faults.kinds (line body) fault k)

    outside_least : (x : X) → Spells slots (line body) x → (Within x → ⊥) → Least (holds (line body)) outside
    outside_least x h out = record {
      here = faults.of_outside (line body) (x, h, out);
      none_smaller = λ other less k. let e = ap play_number (spelled_fault x h other k).0 in omega arith;
    }

    made : (x : X) (r : Result Y PlayFault) → read (cut body) ≡ Some x → MadeWithin Within outside of x r → Allowed body r
    made x (Ok y) e h = record { spelled = subst (Spells slots (line body)) (sym h.1) (spells_read _ _ _ reading body x e); within = subst Within (sym h.1) h.0 }
    made x (Err fault) e h = subst (Least (holds (line body))) (sym h.1) (outside_least x (spells_read _ _ _ reading body x e) h.0)

  -- there is one allowed answer at most
  pub only_allowed : (body : List ℕ) (r : Result Y PlayFault) → Allowed body r → Only (Allowed body) r
  only_allowed body =
      one_answer (λ y. SpellsWithin slots Within (line body) (of y)) (holds (line body))
      (λ y z h k. same y z (spells_once _ _ _ reading body (of y) (of z) h.spelled k.spelled))
      (λ y fault h k. (spelled_fault body (of y) h.spelled fault k).1 h.within)

  -- the answer by the fields is allowed
  pub fields_allowed : (Made : X → Result Y PlayFault → Type 0) → ((x : X) (r : Result Y PlayFault) → Made x r → MadeWithin Within outside of x r) → (body : List ℕ) (r : Result Y PlayFault) → ByFields formed read Made body r → Allowed body r
  fields_allowed Made makes body r =
      ⊎_elim (λ t. subst (Allowed body) (sym t.1) (least_form (holds (line body)) (faults.of_text (line body) Form (λ h. t.0 (formed_fields _ _ _ reading body h)))))
      (⊎_elim
      (λ t.
      subst (Allowed body) (sym t.2)
      (least_number (holds (line body)) (faults.of_text (line body) Number (spells_none _ _ _ reading body t.1))
      (λ unformed. faults.text_of (line body) Form unformed (formed_line _ _ _ reading body t.0))))
      (λ t. made body t.0 r t.1 (makes t.0 r t.2)))
