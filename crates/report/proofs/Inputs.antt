-- An input has one answer. Assumes nothing.
use Rattle.std.proofs.Common.{◌≡◌, ℕ, ◌<◌, List, [], ◌∷◌, ◌++◌, length, Ok, Err, Result, sym, ap, ◌∙◌, subst, inl, inr, ⊎_elim, arith, length-append}
use Rattle.faults.specs.declared.Placed.{Placed}
use Rattle.faults.specs.declared.PlayFault.{PlayFault}
use Rattle.rows.specs.declared.tally.Counts.{Counts}
use Rattle.text.specs.Slots.{Lacks}
use Rattle.reader.proofs.Unique.{first_feed, has_feed}
use Rattle.heads.specs.Lines as heads
use Rattle.heads.specs.Arithmetics.{ArithmeticAnswer}
use Rattle.heads.specs.Plays.{PlayAnswer}
use Rattle.heads.proofs.Arithmetics.{only_arithmetic}
use Rattle.heads.proofs.Plays.{only_play}
use Rattle.report.specs.declared.refusal.InputFault.{InputFault}
use Rattle.report.specs.declared.refusal.InputFault.TheVariants.{Refused as InputRefused, Memory as InputMemory}
use Rattle.report.specs.Input.{Answer, FirstCut, HeadAnswer, InputAnswer, LibraryAnswer, Only, PlayAndLibrary, refused_at}
use Rattle.report.specs.Results.{HeadPassed, HeadRefused, IfAnswered}
use Rattle.report.proofs.Libraries.{only_library}

-- a text that is cut after its first line is not empty, and has a line feed
cut_some : (text line rest : List ℕ) → FirstCut text line rest → text ≡ [] → ⊥
cut_some text line rest cut none = omega (arith, ap length cut.parts, length-append line (10 ∷ rest), ap length none)

cut_feed : (text line rest : List ℕ) → FirstCut text line rest → Lacks 10 text → ⊥
cut_feed text line rest cut lacks = has_feed line rest (subst (Lacks 10) cut.parts lacks)

some_bytes : (text : List ℕ) → 0 < length text → text ≡ [] → ⊥
some_bytes text some none = omega (arith, ap length none)

-- a head line and what follows it have one answer, where each of both has one
module _ {Value : Type 0} (line_answer : List ℕ → Result Value PlayFault → Type 0) (place : ℕ) (after : List ℕ → Answer → Type 0) (only_line : (line : List ℕ) (r : Result Value PlayFault) → line_answer (line ++ (10 ∷ [])) r → heads.Only (line_answer (line ++ (10 ∷ []))) r) (only_after : (rest : List ℕ) (answer : Answer) → after rest answer → Only (after rest) answer) (text : List ℕ) where
  -- the first line is one, and has one answer
  same_line : (line rest other more : List ℕ) (r s : Result Value PlayFault) → FirstCut text line rest → FirstCut text other more → line_answer (line ++ (10 ∷ [])) r → line_answer (other ++ (10 ∷ [])) s → (rest ≡ more) × (s ≡ r)
  same_line line rest other more r s f g h k =
      let same = first_feed line other rest more f.one_line g.one_line (sym f.parts ∙ g.parts) in
      (same.1, only_line line r h s (subst (λ l. line_answer (l ++ (10 ∷ [])) s) (sym same.0) k))

  pub only_head : (answer : Answer) → HeadAnswer line_answer place after text answer → Only (HeadAnswer line_answer place after text) answer
  only_head answer (inl h) other (inl k) = k.1 ∙ sym h.1
  only_head answer (inl h) other (inr (inl k)) = absurd (some_bytes text k.0 h.0)
  only_head answer (inl h) other (inr (inr (inl k))) = absurd (cut_some text k.0 k.1 k.3 h.0)
  only_head answer (inl h) other (inr (inr (inr k))) = absurd (cut_some text k.0 k.1 k.3 h.0)
  only_head answer (inr (inl h)) other (inl k) = absurd (some_bytes text h.0 k.0)
  only_head answer (inr (inl h)) other (inr (inl k)) = k.2 ∙ sym h.2
  only_head answer (inr (inl h)) other (inr (inr (inl k))) = absurd (cut_feed text k.0 k.1 k.3 h.1)
  only_head answer (inr (inl h)) other (inr (inr (inr k))) = absurd (cut_feed text k.0 k.1 k.3 h.1)
  only_head answer (inr (inr (inl h))) other (inl k) = absurd (cut_some text h.0 h.1 h.3 k.0)
  only_head answer (inr (inr (inl h))) other (inr (inl k)) = absurd (cut_feed text h.0 h.1 h.3 k.1)
  only_head answer (inr (inr (inl h))) other (inr (inr (inl k))) =
      let same = (same_line h.0 h.1 k.0 k.1 (Err h.2) (Err k.2) h.3 k.3 h.4 k.4).1 in
      let one : k.2 ≡ h.2 = cc in
      k.5 ∙ ap (refused_at place) one ∙ sym h.5
  only_head answer (inr (inr (inl h))) other (inr (inr (inr k))) = let same = (same_line h.0 h.1 k.0 k.1 (Err h.2) (Ok k.2) h.3 k.3 h.4 k.4).1 in cc
  only_head answer (inr (inr (inr h))) other (inl k) = absurd (cut_some text h.0 h.1 h.3 k.0)
  only_head answer (inr (inr (inr h))) other (inr (inl k)) = absurd (cut_feed text h.0 h.1 h.3 k.1)
  only_head answer (inr (inr (inr h))) other (inr (inr (inl k))) = let same = (same_line h.0 h.1 k.0 k.1 (Ok h.2) (Err k.2) h.3 k.3 h.4 k.4).1 in cc
  only_head answer (inr (inr (inr h))) other (inr (inr (inr k))) =
      only_after h.1 answer h.5 other (subst (λ r. after r other) (sym (same_line h.0 h.1 k.0 k.1 (Ok h.2) (Ok k.2) h.3 k.3 h.4 k.4).0) k.5)

only_play_and_library : (text : List ℕ) (answer : Answer) → PlayAndLibrary text answer → Only (PlayAndLibrary text) answer
only_play_and_library = only_head PlayAnswer 2 LibraryAnswer only_play only_library

pub only_input : (text : List ℕ) (answer : Answer) → InputAnswer text answer → Only (InputAnswer text) answer
only_input = only_head ArithmeticAnswer 1 PlayAndLibrary only_arithmetic only_play_and_library

-- the answer to a head line and what follows it, from what comes after the head line alone
module _ {Value : Type 0} (line_answer : List ℕ → Result Value PlayFault → Type 0) (place : ℕ) (after : List ℕ → Answer → Type 0) (says : List ℕ → Result Value PlayFault → Type 0) (text : List ℕ) where
  pub head_refused : (placed : Placed PlayFault) → HeadRefused says place text placed → ((line : List ℕ) (r : Result Value PlayFault) → says line r → line_answer (line ++ (10 ∷ [])) r) → HeadAnswer line_answer place after text (Err placed)
  head_refused placed refused means =
      ⊎_elim (λ h. inl (h.0, ap Err h.1))
      (⊎_elim (λ h. inr (inl (h.0, h.1, ap Err h.2))) (λ h. inr (inr (inl (h.0, h.1, h.2, h.3, means h.0 (Err h.2) h.4, ap Err h.5))))) refused.reason

  pub head_passed : (rest : List ℕ) (answer : Answer) → HeadPassed says text rest → ((line : List ℕ) (r : Result Value PlayFault) → says line r → line_answer (line ++ (10 ∷ [])) r) → after rest answer → HeadAnswer line_answer place after text answer
  head_passed rest answer h means next = inr (inr (inr (h.line, rest, h.value, h.cut, means h.line (Ok h.value) h.said, next)))

-- what holds of the answer of a result
pub if_answered : (result : Result Counts InputFault) (P Q : Answer → Type 0) → ((answer : Answer) → P answer → Q answer) → IfAnswered result P → IfAnswered result Q
if_answered (Ok counts) P Q means h = means (Ok counts) h
if_answered (Err (InputRefused placed)) P Q means h = means (Err placed) h
if_answered (Err InputMemory) P Q means h = tt
