-- Two plays with the same listing are the same play.
use Rattle.std.proofs.Common.{◌≡◌, ℕ, suc, ◌≤◌, true, List, [], ◌∷◌, ◌++◌, length, ℤ, Some, codes, decimal, sym, refl, ap, ◌∙◌, subst, append_assoc, arith, length-append, w32, SFits}
use mathlib.Core.Option.{some}
use Rattle.std.specs.Fmt.{signed_decimal}
use Rattle.std.specs.List.{AllByRecursion}
use Rattle.std.proofs.ByRecursion.{All-append}
use Rattle.std.proofs.lemmas.List.{append_cancel_left}
use Rattle.text.specs.Slots
use Rattle.text.specs.Slots.{Lacks, Free, commas, line_of}
use Rattle.text.specs.Reading.{number_of, word_of}
use Rattle.text.proofs.Forms.{commas_lack}
use Rattle.text.proofs.Laws.{commas_same, written_free, number_written, word_written}
use Rattle.arithmetic.specs.Meaning.{Meaning, Closed}
use Rattle.reader.proofs.Unique.{first_feed}
use Rattle.rows.specs.Types.{Tree}
use Rattle.rules.specs.Terms.{Value}
use Rattle.rules.specs.Memory.{Entry, host_name, Memory}
use Rattle.rules.specs.Game.{Game, Pending, library_waits, host_waits, Position, library_runs, host_turn, start, Pass, host_call, host_answer, library_call, library_answer, Says, ◌⊢◌─◌⟹◌}
use Rattle.rules.specs.Game as rule
use Rattle.rules.specs.Plays.{Run, Ending, Ends, Move, host_moves, Play}
use Rattle.rules.specs.Plays as play
use Rattle.rules.specs.Listings.{name_field, leaf_fields, pass_fields, listing}
use Rattle.rules.specs.Laws.{names_at, ListingsTellPlays}
use Rattle.rules.proofs.Nexts.{step_next}
use Rattle.rules.proofs.Places.{inside}
use Rattle.rules.proofs.Begun.{playable_has_few_names}
use Rattle.rules.proofs.Determined.{Said, said, value_told, HostStep, CallStep, AnswerStep, calling, answering, host_step, one_inside, inside_no_pass, ended_no_inside, one_pass}

-- lines with the same bytes have the same fields, and so has what follows
line_tells : (f g : List ℕ) (fs gs : List (List ℕ)) (x y : List ℕ) → AllByRecursion Free (f ∷ fs) → AllByRecursion Free (g ∷ gs) → line_of (f ∷ fs) ++ x ≡ line_of (g ∷ gs) ++ y → (◌≡◌ {A = List (List ℕ)} (f ∷ fs) (g ∷ gs)) × (x ≡ y)
line_tells f g fs gs x y h k e =
    let d : commas (f ∷ fs) ++ (10 ∷ x) ≡ commas (g ∷ gs) ++ (10 ∷ y) = sym (append_assoc (commas (f ∷ fs)) (10 ∷ []) x) ∙ e ∙ append_assoc (commas (g ∷ gs)) (10 ∷ []) y in
    let p = first_feed (commas (f ∷ fs)) (commas (g ∷ gs)) x y (commas_lack (f ∷ fs) h) (commas_lack (g ∷ gs) k) d in
    (commas_same f g fs gs h k p.0, p.1)

-- a decimal tells its number, and the text of a word the word
same_decimal : (m n : ℕ) → m ≤ 65535 → n ≤ 65535 → decimal m ≡ decimal n → m ≡ n
same_decimal m n h k e =
    let d : Some m ≡ Some n = sym (number_written m h) ∙ ap number_of e ∙ number_written n k in
    cc

same_signed : (v w : ℤ) → SFits w32 v → SFits w32 w → signed_decimal v ≡ signed_decimal w → v ≡ w
same_signed v w h k e =
    let d : Some v ≡ Some w = sym (word_written v h) ∙ ap word_of e ∙ word_written w k in
    cc

-- a name's field has no comma and no line feed
name_free : (n : ℕ) → n ≤ 65535 → Free (name_field n)
name_free n h = let d = written_free (Slots.number n) h (λ bs e. cc) in (((λ e. omega arith), d.0), ((λ e. omega arith), d.1))

grows : (A : Meaning) (θ : Tree) (R : List Entry) (v : Value) (R' : List Entry) → Says A θ R v R' → length R ≤ length R'
grows A θ R v R' rule.says_unit = omega arith
grows A θ R v R' (rule.says_word w h) = omega arith
grows A θ R v R' (rule.says_pair {θ = ρ} {θ' = σ} {R' = R₁} {v = a} {w = b} h k) = let x = grows A ρ R a R₁ h in let y = grows A σ R₁ b R' k in omega arith
grows A θ R v R' (rule.says_function {θ = ρ} {θ' = σ}) = omega (arith, length-append R (host_name ρ σ ∷ []))

module _ (A : Meaning) (closed : Closed A) where
  fits : (w : ℤ) → A.may_say w ≡ true → SFits w32 w
  fits w h = closed.lawful_fits w (closed.may_say_lawful w h)

  -- the leaves of a value that the host says have no comma and no line feed
  leaves_free : (θ : Tree) (R : List Entry) (v : Value) (R' : List Entry) → Says A θ R v R' → length R' ≤ 65535 → AllByRecursion Free (leaf_fields v)
  leaves_free θ R v R' rule.says_unit few = omega arith
  leaves_free θ R v R' (rule.says_word w h) few = (written_free (Slots.word w) (fits w h) (λ bs e. cc), tt)
  leaves_free θ R v R' (rule.says_pair {θ = ρ} {θ' = σ} {R' = R₁} {v = a} {w = b} h k) few =
      All-append Free (leaf_fields a) (leaf_fields b) (leaves_free ρ R a R₁ h (let x = grows A σ R₁ b R' k in omega arith)) (leaves_free σ R₁ b R' k few)
  leaves_free θ R v R' (rule.says_function {θ = ρ} {θ' = σ}) few = (name_free (length R) (omega (arith, length-append R (host_name ρ σ ∷ []))), tt)

  -- the leaves tell the value at a type
  leaves_tell : (θ : Tree) (R : List Entry) (v w : Value) (R' R'' : List Entry) (x y : List (List ℕ)) → Said A θ R v R' → Said A θ R w R'' → leaf_fields v ++ x ≡ leaf_fields w ++ y → (v ≡ w) × (R' ≡ R'') × (x ≡ y)
  leaves_tell = value_told A leaf_fields (λ v w. refl) (λ i j x y h k e. same_signed i j (fits i h) (fits j k) (cc))

host_free : Free (codes "H")
host_free = omega arith

call_free : Free (codes "call")
call_free = omega arith

ret_free : Free (codes "ret")
ret_free = omega arith

module _ (G : Game) (closed : Closed G.meaning) where
  abbrev Few : Position → Type 0
  Few p = length (names_at p) ≤ 65535

  module _ (K : List Pending) (l : ℕ) (μ : Memory) (P : List ℕ) where
    call_fields_free : (a : Pass) (q : Position) → Few (host_turn K l μ P) → Few q → (c : CallStep G K l μ P a q) → AllByRecursion Free (pass_fields (host_call c.0 c.4))
    call_fields_free a q few few' c =
        let low = inside _ μ.names c.0 c.6 in
        let few'' : length c.5 ≤ 65535 = subst Few c.9 few' in
        (host_free, (call_free, (name_free c.0 (omega arith), leaves_free G.meaning closed c.2 μ.names c.4 c.5 c.7 few'')))

    answer_fields_free : (a : Pass) (q : Position) → Few (host_turn K l μ P) → Few q → (c : AnswerStep G K l μ P a q) → AllByRecursion Free (pass_fields (host_answer c.0 c.4))
    answer_fields_free a q few few' c =
        let low = inside _ μ.names c.0 c.7 in
        let few'' : length c.5 ≤ 65535 = subst Few c.11 few' in
        (host_free, (ret_free, (name_free c.0 (omega arith), leaves_free G.meaning closed c.3 μ.names c.4 c.5 c.8 few'')))

    call_told : (a b : Pass) (q r : Position) (x y : List ℕ) → Few (host_turn K l μ P) → Few q → Few r → CallStep G K l μ P a q → CallStep G K l μ P b r → line_of (pass_fields a) ++ x ≡ line_of (pass_fields b) ++ y → (a ≡ b) × (x ≡ y)
    call_told a b q r x y few fq fr c d e =
        let lines : line_of (pass_fields (host_call c.0 c.4)) ++ x ≡ line_of (pass_fields (host_call d.0 d.4)) ++ y = cc in
        let told = line_tells (codes "H") (codes "H") (codes "call" ∷ name_field c.0 ∷ leaf_fields c.4) (codes "call" ∷ name_field d.0 ∷ leaf_fields d.4) x y (call_fields_free a q few fq c) (call_fields_free b r few fr d) lines in
        let names : decimal c.0 ≡ decimal d.0 = cc in
        let lc = inside _ μ.names c.0 c.6 in
        let ld = inside _ μ.names d.0 d.6 in
        let m : c.0 ≡ d.0 = same_decimal c.0 d.0 (omega arith) (omega arith) names in
        let θ : c.2 ≡ d.2 = cc in
        let says : Says G.meaning c.2 μ.names d.4 d.5 = rw (← θ) at d.7 in
        let v = leaves_tell G.meaning closed c.2 μ.names c.4 d.4 c.5 d.5 [] [] (said _ _ _ _ _ c.7) (said _ _ _ _ _ says) (cc) in
        (cc, told.1)

    answer_told : (a b : Pass) (q r : Position) (x y : List ℕ) → Few (host_turn K l μ P) → Few q → Few r → AnswerStep G K l μ P a q → AnswerStep G K l μ P b r → line_of (pass_fields a) ++ x ≡ line_of (pass_fields b) ++ y → (a ≡ b) × (x ≡ y)
    answer_told a b q r x y few fq fr c d e =
        let lines : line_of (pass_fields (host_answer c.0 c.4)) ++ x ≡ line_of (pass_fields (host_answer d.0 d.4)) ++ y = cc in
        let told = line_tells (codes "H") (codes "H") (codes "ret" ∷ name_field c.0 ∷ leaf_fields c.4) (codes "ret" ∷ name_field d.0 ∷ leaf_fields d.4) x y (answer_fields_free a q few fq c) (answer_fields_free b r few fr d) lines in
        let θ : c.3 ≡ d.3 = cc in
        let says : Says G.meaning c.3 μ.names d.4 d.5 = rw (← θ) at d.8 in
        let v = leaves_tell G.meaning closed c.3 μ.names c.4 d.4 c.5 d.5 [] [] (said _ _ _ _ _ c.8) (said _ _ _ _ _ says) (cc) in
        (cc, told.1)

    -- a call's line is not an answer's
    not_told : (a b : Pass) (q r : Position) (x y : List ℕ) → Few (host_turn K l μ P) → Few q → Few r → CallStep G K l μ P a q → AnswerStep G K l μ P b r → line_of (pass_fields a) ++ x ≡ line_of (pass_fields b) ++ y → ⊥
    not_told a b q r x y few fq fr c d e =
        let lines : line_of (pass_fields (host_call c.0 c.4)) ++ x ≡ line_of (pass_fields (host_answer d.0 d.4)) ++ y = cc in
        let told = line_tells (codes "H") (codes "H") (codes "call" ∷ name_field c.0 ∷ leaf_fields c.4) (codes "ret" ∷ name_field d.0 ∷ leaf_fields d.4) x y (call_fields_free a q few fq c) (answer_fields_free b r few fr d) lines in
        cc

    host_told : (a b : Pass) (q r : Position) (x y : List ℕ) → Few (host_turn K l μ P) → Few q → Few r → HostStep G K l μ P a q → HostStep G K l μ P b r → line_of (pass_fields a) ++ x ≡ line_of (pass_fields b) ++ y → (a ≡ b) × (x ≡ y)
    host_told a b q r x y few fq fr (calling c) (calling d) e = call_told a b q r x y few fq fr c d e
    host_told a b q r x y few fq fr (calling c) (answering d) e = absurd (not_told a b q r x y few fq fr c d e)
    host_told a b q r x y few fq fr (answering c) (calling d) e = absurd (not_told b a r q y x few fr fq d c (sym e))
    host_told a b q r x y few fq fr (answering c) (answering d) e = answer_told a b q r x y few fq fr c d e

  -- two passes from a position whose lines begin the same text
  pass_told : (p q r : Position) (a b : Pass) (x y : List ℕ) → Few p → Few q → Few r → G ⊢ p ─ some a ⟹ q → G ⊢ p ─ some b ⟹ r → line_of (pass_fields a) ++ x ≡ line_of (pass_fields b) ++ y → (a ≡ b) × (q ≡ r) × (x ≡ y)
  pass_told (library_runs K M μ P) q r a b x y few fq fr h k e =
      let s = step_next G (library_runs K M μ P) q (some a) h in
      let s' = step_next G (library_runs K M μ P) r (some b) k in
      let same : a ≡ b = cc in
      (same, cc, append_cancel_left (line_of (pass_fields a)) x y (cc))
  pass_told (host_turn K l μ P) q r a b x y few fq fr h k e =
      let c = host_step G (host_turn K l μ P) q (some a) h in
      let d = host_step G (host_turn K l μ P) r (some b) k in
      let i : c.0 ≡ a = cc in
      let j : d.0 ≡ b = cc in
      let told = host_told K l μ P a b q r x y few fq fr (rw i at c.2) (rw j at d.2) e in
      let one = one_pass G (host_turn K l μ P) q r a b [] [] h k (cc) in
      (told.0, one.1, told.1)

  -- the line of an end is no move's
  end_apart : (a : Pass) (x : List Pass) (e e' : Ending) (s s' : ℕ) → listing [] e s ≡ listing (a ∷ x) e' s' → ⊥
  end_apart (host_call m v) x e e' s s' d = let letter : ◌≡◌ {A = ℕ} 101 72 = cc in omega arith
  end_apart (host_answer m v) x e e' s s' d = let letter : ◌≡◌ {A = ℕ} 101 72 = cc in omega arith
  end_apart (library_call m v) x e e' s s' d = let letter : ◌≡◌ {A = ℕ} 101 76 = cc in omega arith
  end_apart (library_answer m v) x e e' s s' d = let letter : ◌≡◌ {A = ℕ} 101 76 = cc in omega arith

  abbrev FewFrom : Position → ℕ → Type 0
  FewFrom p t = (trace : List Pass) (q : Position) (u : ℕ) → Run G p t trace q u → Few q

  same_trace : (p q q' : Position) (t u u' : ℕ) (x x' : List Pass) (e e' : Ending) (s s' : ℕ) → FewFrom p t → Run G p t x q u → Ends G q u e s → Run G p t x' q' u' → Ends G q' u' e' s' → listing x e s ≡ listing x' e' s' → x ≡ x'
  same_trace p q q' t u u' x x' e e' s s' few play.stays h play.stays k d = refl
  same_trace p q q' t u u' x x' e e' s s' few play.stays h (play.inside {q = r} lt g run) k d = absurd (ended_no_inside G p r t e s h lt g)
  same_trace p q q' t u u' x x' e e' s s' few play.stays h (play.passes {a = a} {trace = y} lt g run) k d = absurd (end_apart a y e e' s s' d)
  same_trace p q q' t u u' x x' e e' s s' few (play.inside {q = r} lt g run) h play.stays k d = absurd (ended_no_inside G p r t e' s' k lt g)
  same_trace p q q' t u u' x x' e e' s s' few (play.inside {q = r} lt g run) h (play.inside {q = r'} lt' g' run') k d =
      same_trace r q q' (suc t) u u' x x' e e' s s' (λ tr z w m. few tr z w (play.inside lt g m)) run h (rw (one_inside G p r' r g' g) at run') k d
  same_trace p q q' t u u' x x' e e' s s' few (play.inside {q = r} lt g run) h (play.passes {q = r'} {a = a} lt' g' run') k d = absurd (inside_no_pass G p r r' a g g')
  same_trace p q q' t u u' x x' e e' s s' few (play.passes {a = a} {trace = y} lt g run) h play.stays k d = absurd (end_apart a y e' e s' s (sym d))
  same_trace p q q' t u u' x x' e e' s s' few (play.passes {q = r} {a = a} lt g run) h (play.inside {q = r'} lt' g' run') k d = absurd (inside_no_pass G p r' r a g' g)
  same_trace p q q' t u u' x x' e e' s s' few (play.passes {q = r} {a = a} {trace = y} lt g run) h (play.passes {q = r'} {a = a'} {trace = y'} lt' g' run') k d =
      let told = pass_told p r r' a a' _ _ (few [] p t play.stays) (few (a ∷ []) r (suc t) (play.passes lt g play.stays)) (few (a' ∷ []) r' (suc t) (play.passes lt' g' play.stays)) g g' d in
      let more = same_trace r q q' (suc t) u u' y y' e e' s s' (λ tr z w m. few (a ∷ tr) z w (play.passes lt g m)) run h (rw (← told.1) at run') k told.2 in
      cc

pub listings_tell_plays : ListingsTellPlays
listings_tell_plays G playable moves others x y d =
    let same = same_trace G playable.closed _ _ _ 0 _ _ x.trace y.trace x.ending y.ending x.steps y.steps (playable_has_few_names G playable) x.play.run x.play.ends y.play.run y.play.ends d in
    cc
