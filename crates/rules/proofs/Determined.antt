-- A play's moves determine the play.
use Rattle.std.proofs.Common.{◌≡◌, ℕ, suc, ◌<◌, true, List, [], ◌∷◌, ◌++◌, length, ℤ, sym, refl, ap, ◌∙◌, append_assoc, arith}
use mathlib.Core.Option.{Option, none, some}
use Rattle.std.proofs.lemmas.List.{append_cancel_left}
use Rattle.arithmetic.specs.Meaning.{Meaning}
use Rattle.rows.specs.Types.{Tree, unit as unit_type, int as int_type, pair as pair_type, fun as function_type}
use Rattle.rules.specs.Terms.{Term, Value, Context, plug, ⌊◌⌋, app, meth, unit, word, name, pair}
use Rattle.rules.specs.Memory.{Entry, host_name, library_name, Memory, at, with_names}
use Rattle.rules.specs.Game.{Game, Pending, library_waits, host_waits, Position, library_runs, host_turn, Pass, host_call, host_answer, library_call, library_answer, Says, ◌⊢◌─◌⟹◌, Fails, TooDeep}
use Rattle.rules.specs.Game as rule
use Rattle.rules.specs.Plays.{Run, Ending, failed, cut_by_depth, cut_by_steps, turn, Ends, Move, call, answer, words, four, host_moves, Play, PlayFrom}
use Rattle.rules.specs.Plays as play
use Rattle.rules.specs.Enumeration.{Next, goes_on, hands, fails, deep}
use Rattle.rules.specs.Laws.{MovesDetermineThePlay}
use Rattle.rules.proofs.Nexts.{NextIs, step_next, fails_next, deep_next}

-- what a value that the host says at a type is
abbrev pub Said : Meaning → Tree → List Entry → Value → List Entry → Type 0
Said A unit_type R v R' = (v ≡ unit) × (R' ≡ R)
Said A int_type R v R' = (w : ℤ) × (A.may_say w ≡ true) × (v ≡ word w) × (R' ≡ R)
Said A (pair_type θ θ') R v R' = (a : Value) × (b : Value) × (R₁ : List Entry) × Says A θ R a R₁ × Says A θ' R₁ b R' × (v ≡ pair a b)
Said A (function_type θ θ') R v R' = (v ≡ name (length R)) × (R' ≡ R ++ (host_name θ θ' ∷ []))

pub said : (A : Meaning) (θ : Tree) (R : List Entry) (v : Value) (R' : List Entry) → Says A θ R v R' → Said A θ R v R'
said A θ R v R' rule.says_unit = (refl, refl)
said A θ R v R' (rule.says_word w h) = (w, h, refl, refl)
said A θ R v R' (rule.says_pair {R' = R₁} {v = a} {w = b} h k) = (a, b, R₁, h, k, refl)
said A θ R v R' rule.says_function = (refl, refl)

-- what is written of a value's leaves, one after another, tells the value at a type, where it tells the words that may be said
module _ {W : Type 0} (A : Meaning) (written : Value → List W) (pairs : (v w : Value) → written (pair v w) ≡ written v ++ written w)
    (word_told : (i j : ℤ) (x y : List W) → A.may_say i ≡ true → A.may_say j ≡ true → written (word i) ++ x ≡ written (word j) ++ y → i ≡ j) where
  same_rest : (v w : Value) (x y : List W) → v ≡ w → written v ++ x ≡ written w ++ y → x ≡ y
  same_rest v w x y same e = append_cancel_left (written v) x y (cc)

  pub value_told : (θ : Tree) (R : List Entry) (v w : Value) (R' R'' : List Entry) (x y : List W) → Said A θ R v R' → Said A θ R w R'' → written v ++ x ≡ written w ++ y → (v ≡ w) × (R' ≡ R'') × (x ≡ y)
  value_told int_type R v w R' R'' x y h k e =
      let i = word_told h.0 k.0 x y h.1 k.1 (rw (h.2, k.2) at e) in
      (cc, cc, same_rest v w x y (cc) e)
  value_told (pair_type θ θ') R v w R' R'' x y h k e =
      let d = simp append_assoc at (rw (h.5, k.5, pairs h.0 h.1, pairs k.0 k.1) at e) in
      let first = value_told θ R h.0 k.0 h.2 k.2 _ _ (said A θ R _ _ h.3) (said A θ R _ _ k.3) d in
      let right : Says A θ' h.2 k.1 R'' = rw (← first.1) at k.4 in
      let second = value_told θ' h.2 h.1 k.1 R' R'' x y (said A θ' h.2 _ _ h.4) (said A θ' h.2 _ _ right) first.2 in
      (cc, second.1, second.2)
  value_told θ R v w R' R'' x y h k e = (cc, cc, same_rest v w x y (cc) e)

-- the words that begin a list tell the value at a type
words_tell : (A : Meaning) (θ : Tree) (R : List Entry) (v w : Value) (R' R'' : List Entry) (x y : List ℤ) → Said A θ R v R' → Said A θ R w R'' → words v ++ x ≡ words w ++ y → (v ≡ w) × (R' ≡ R'') × (x ≡ y)
words_tell A = value_told A words (λ v w. refl) (λ i j x y h k e. cc)

-- a host move as a pass
abbrev pub first_moves : Pass → List Move
first_moves (host_call m v) = call m (four (words v)) ∷ []
first_moves (host_answer m v) = answer m (four (words v)) ∷ []
first_moves (library_call m v) = []
first_moves (library_answer m v) = []

pub moves_first : (a : Pass) (trace : List Pass) → host_moves (a ∷ trace) ≡ first_moves a ++ host_moves trace
moves_first (host_call m v) trace = refl
moves_first (host_answer m v) trace = refl
moves_first (library_call m v) trace = refl
moves_first (library_answer m v) trace = refl

-- two traces with the same first pass and the same host moves go on with the same host moves
pub cancel : (a : Pass) (x y : List Pass) → host_moves (a ∷ x) ≡ host_moves (a ∷ y) → host_moves x ≡ host_moves y
cancel (host_call m v) x y e = cc
cancel (host_answer m v) x y e = cc
cancel (library_call m v) x y e = e
cancel (library_answer m v) x y e = e

module _ (G : Game) where
  -- a step at the host's turn is a call or an answer
  abbrev pub CallStep : List Pending → ℕ → Memory → List ℕ → Pass → Position → Type 0
  CallStep K l μ P a q =
      (m : ℕ) × (x : ℕ) × (θ : Tree) × (M : Term) × (v : Value) × (R : List Entry) × (at μ.names m ≡ some (library_name x θ M)) × Says G.meaning θ μ.names v R
      × (a ≡ host_call m v) × (q ≡ library_runs (host_waits m (suc l) ∷ K) (app (meth m) ⌊ v ⌋) (with_names R μ) P)

  abbrev pub AnswerStep : List Pending → ℕ → Memory → List ℕ → Pass → Position → Type 0
  AnswerStep K l μ P a q =
      (m : ℕ) × (E : Context) × (θ : Tree) × (θ' : Tree) × (v : Value) × (R : List Entry) × (L : List Pending) × (at μ.names m ≡ some (host_name θ θ')) × Says G.meaning θ' μ.names v R
      × (K ≡ library_waits m E ∷ L) × (a ≡ host_answer m v) × (q ≡ library_runs L (plug E ⌊ v ⌋) (with_names R μ) P)

  pub data HostStep (K : List Pending) (l : ℕ) (μ : Memory) (P : List ℕ) (a : Pass) (q : Position) : Type 0 where
    calling : CallStep K l μ P a q → HostStep K l μ P a q
    answering : AnswerStep K l μ P a q → HostStep K l μ P a q

  abbrev pub AtHost : Position → Option Pass → Position → Type 0
  AtHost (library_runs K M μ P) b q = Unit {0}
  AtHost (host_turn K l μ P) b q = (a : Pass) × (b ≡ some a) × HostStep K l μ P a q

  pub host_step : (p q : Position) (b : Option Pass) → G ⊢ p ─ b ⟹ q → AtHost p b q
  host_step p q b (rule.host_calls m x l θ M v R i lt h s) = (host_call m v, refl, calling (m, x, θ, M, v, R, h, s, refl, refl))
  host_step p q b (rule.host_answers m l E θ θ' v R {K} h s) = (host_answer m v, refl, answering (m, E, θ, θ', v, R, K, h, s, refl, refl, refl))
  host_step p q b h = tt

  -- the host's turn has a host move at each step
  one_move : (K : List Pending) (l : ℕ) (μ : Memory) (P : List ℕ) (a : Pass) (q : Position) → HostStep K l μ P a q → (mv : Move) × (first_moves a ≡ mv ∷ [])
  one_move K l μ P a q (calling c) = (call c.0 (four (words c.4)), ap first_moves c.8)
  one_move K l μ P a q (answering c) = (answer c.0 (four (words c.4)), ap first_moves c.10)

  same_call : (K : List Pending) (l : ℕ) (μ : Memory) (P : List ℕ) (a b : Pass) (q r : Position) → CallStep K l μ P a q → CallStep K l μ P b r → first_moves a ≡ first_moves b → (a ≡ b) × (q ≡ r)
  same_call K l μ P a b q r c d e =
      let m : c.0 ≡ d.0 = cc in
      let ws : four (words c.4) ≡ four (words d.4) = cc in
      let θ : c.2 ≡ d.2 = cc in
      let says : Says G.meaning c.2 μ.names d.4 d.5 = rw (← θ) at d.7 in
      let t = words_tell G.meaning c.2 μ.names c.4 d.4 c.5 d.5 _ _ (said _ _ _ _ _ c.7) (said _ _ _ _ _ says) ws in
      let R = t.1 in
      (cc, cc)

  same_answer : (K : List Pending) (l : ℕ) (μ : Memory) (P : List ℕ) (a b : Pass) (q r : Position) → AnswerStep K l μ P a q → AnswerStep K l μ P b r → first_moves a ≡ first_moves b → (a ≡ b) × (q ≡ r)
  same_answer K l μ P a b q r c d e =
      let m : c.0 ≡ d.0 = cc in
      let ws : four (words c.4) ≡ four (words d.4) = cc in
      let L : c.6 ≡ d.6 = cc in
      let θ : c.3 ≡ d.3 = cc in
      let says : Says G.meaning c.3 μ.names d.4 d.5 = rw (← θ) at d.8 in
      let t = words_tell G.meaning c.3 μ.names c.4 d.4 c.5 d.5 _ _ (said _ _ _ _ _ c.8) (said _ _ _ _ _ says) ws in
      let R = t.1 in
      (cc, cc)

  same_step : (K : List Pending) (l : ℕ) (μ : Memory) (P : List ℕ) (a b : Pass) (q r : Position) → HostStep K l μ P a q → HostStep K l μ P b r → first_moves a ≡ first_moves b → (a ≡ b) × (q ≡ r)
  same_step K l μ P a b q r (calling c) (calling d) e = same_call K l μ P a b q r c d e
  same_step K l μ P a b q r (calling c) (answering d) e = cc
  same_step K l μ P a b q r (answering c) (calling d) e = cc
  same_step K l μ P a b q r (answering c) (answering d) e = same_answer K l μ P a b q r c d e

  -- two passes from a position that make the same host moves, with what follows, are the same
  pub one_pass : (p q r : Position) (a b : Pass) (x y : List Pass) → G ⊢ p ─ some a ⟹ q → G ⊢ p ─ some b ⟹ r → host_moves (a ∷ x) ≡ host_moves (b ∷ y) → (a ≡ b) × (q ≡ r)
  one_pass (library_runs K M μ P) q r a b x y h k e =
      let s = step_next G (library_runs K M μ P) q (some a) h in
      let s' = step_next G (library_runs K M μ P) r (some b) k in
      (cc, cc)
  one_pass (host_turn K l μ P) q r a b x y h k e =
      let c = host_step (host_turn K l μ P) q (some a) h in
      let d = host_step (host_turn K l μ P) r (some b) k in
      let i : c.0 ≡ a = cc in
      let j : d.0 ≡ b = cc in
      let c' : HostStep K l μ P a q = rw i at c.2 in
      let d' : HostStep K l μ P b r = rw j at d.2 in
      let v = one_move K l μ P a q c' in
      let w = one_move K l μ P b r d' in
      let all : v.0 ∷ host_moves x ≡ w.0 ∷ host_moves y =
      ap (λ z. z ++ host_moves x) (sym v.1) ∙ sym (moves_first a x) ∙ e ∙ moves_first b y ∙ ap (λ z. z ++ host_moves y) w.1
      in
      same_step K l μ P a b q r c' d' (cc)

  -- a step inside the library is the only one
  pub one_inside : (p q r : Position) → G ⊢ p ─ none ⟹ q → G ⊢ p ─ none ⟹ r → q ≡ r
  one_inside (library_runs K M μ P) q r h k =
      let s = step_next G (library_runs K M μ P) q none h in
      let s' = step_next G (library_runs K M μ P) r none k in
      cc
  one_inside (host_turn K l μ P) q r h k = elim h [ ]

  pub inside_no_pass : (p q r : Position) (a : Pass) → G ⊢ p ─ none ⟹ q → G ⊢ p ─ some a ⟹ r → ⊥
  inside_no_pass (library_runs K M μ P) q r a h k =
      let s = step_next G (library_runs K M μ P) q none h in
      let s' = step_next G (library_runs K M μ P) r (some a) k in
      cc
  inside_no_pass (host_turn K l μ P) q r a h k = elim h [ ]

  -- what is over goes on neither inside nor by a pass of the library
  fails_over : (p : Position) (n : Next) → Fails G p → NextIs G p n → n ≡ fails
  fails_over (library_runs K M μ P) n h k = sym k ∙ fails_next G (library_runs K M μ P) h
  fails_over (host_turn K l μ P) n h k = elim h [ ]

  deep_over : (p : Position) (n : Next) → TooDeep G p → NextIs G p n → n ≡ deep
  deep_over (library_runs K M μ P) n h k = sym k ∙ deep_next G (library_runs K M μ P) h
  deep_over (host_turn K l μ P) n h k = elim h [ ]

  pub ended_no_inside : (p q : Position) (t : ℕ) (e : Ending) (s : ℕ) → Ends G p t e s → t < G.bounds.steps → G ⊢ p ─ none ⟹ q → ⊥
  ended_no_inside p q t e s (play.out_of_steps d) lt h = omega arith
  ended_no_inside p q t e s (play.fails _ f) lt h = let x = fails_over p (goes_on q) f (step_next G p q none h) in cc
  ended_no_inside p q t e s (play.too_deep _ f) lt h = let x = deep_over p (goes_on q) f (step_next G p q none h) in cc
  ended_no_inside p q t e s (play.hands_over _) lt h = elim h [ ]

  -- a pass at the host's turn makes a host move
  pub pass_moves : (K : List Pending) (l : ℕ) (μ : Memory) (P : List ℕ) (q : Position) (a : Pass) (x : List Pass) → G ⊢ host_turn K l μ P ─ some a ⟹ q → [] ≡ host_moves (a ∷ x) → ⊥
  pass_moves K l μ P q a x h none_made =
      let c = host_step (host_turn K l μ P) q (some a) h in
      let i : c.0 ≡ a = cc in
      let v = one_move K l μ P c.0 q c.2 in
      let all : [] ≡ v.0 ∷ host_moves x = none_made ∙ moves_first a x ∙ ap (λ y. first_moves y ++ host_moves x) (sym i) ∙ ap (λ y. y ++ host_moves x) v.1 in
      cc

  -- from where a play ends only a host move leads on
  ended_pass : (p q : Position) (t : ℕ) (e : Ending) (s : ℕ) (a : Pass) (x : List Pass) → Ends G p t e s → t < G.bounds.steps → G ⊢ p ─ some a ⟹ q → [] ≡ host_moves (a ∷ x) → ⊥
  ended_pass p q t e s a x (play.out_of_steps d) lt h none_made = omega arith
  ended_pass p q t e s a x (play.fails _ f) lt h none_made = let y = fails_over p (hands a q) f (step_next G p q (some a) h) in cc
  ended_pass p q t e s a x (play.too_deep _ f) lt h none_made = let y = deep_over p (hands a q) f (step_next G p q (some a) h) in cc
  ended_pass p q t e s a x (play.hands_over {K} {l} {t = u} {μ} {P} _) lt h none_made = pass_moves K l μ P q a x h none_made

  -- a play ends in one way
  ends_same : (p : Position) (t : ℕ) (e e' : Ending) (s s' : ℕ) → Ends G p t e s → Ends G p t e' s' → (e ≡ e') × (s ≡ s')
  ends_same p t e e' s s' (play.out_of_steps d) (play.out_of_steps d') = (refl, refl)
  ends_same p t e e' s s' (play.out_of_steps d) (play.fails lt f) = absurd (omega arith)
  ends_same p t e e' s s' (play.out_of_steps d) (play.too_deep lt f) = absurd (omega arith)
  ends_same p t e e' s s' (play.out_of_steps d) (play.hands_over lt) = absurd (omega arith)
  ends_same p t e e' s s' (play.fails lt f) (play.out_of_steps d) = absurd (omega arith)
  ends_same p t e e' s s' (play.fails lt f) (play.fails lt' f') = (refl, refl)
  ends_same (library_runs K M μ P) t e e' s s' (play.fails lt f) (play.too_deep lt' f') =
      let y = deep_over (library_runs K M μ P) fails f' (fails_next G (library_runs K M μ P) f) in cc
  ends_same (host_turn K l μ P) t e e' s s' (play.fails lt f) (play.too_deep lt' f') = elim f [ ]
  ends_same p t e e' s s' (play.fails lt f) (play.hands_over lt') = elim f [ ]
  ends_same p t e e' s s' (play.too_deep lt f) (play.out_of_steps d) = absurd (omega arith)
  ends_same (library_runs K M μ P) t e e' s s' (play.too_deep lt f) (play.fails lt' f') =
      let y = deep_over (library_runs K M μ P) fails f (fails_next G (library_runs K M μ P) f') in cc
  ends_same (host_turn K l μ P) t e e' s s' (play.too_deep lt f) (play.fails lt' f') = elim f [ ]
  ends_same p t e e' s s' (play.too_deep lt f) (play.too_deep lt' f') = (refl, refl)
  ends_same p t e e' s s' (play.too_deep lt f) (play.hands_over lt') = elim f [ ]
  ends_same p t e e' s s' (play.hands_over lt) (play.out_of_steps d) = absurd (omega arith)
  ends_same p t e e' s s' (play.hands_over lt) (play.fails lt' f) = elim f [ ]
  ends_same p t e e' s s' (play.hands_over lt) (play.too_deep lt' f) = elim f [ ]
  ends_same p t e e' s s' (play.hands_over lt) (play.hands_over lt') = (refl, refl)

  -- two plays from a position with the same host moves
  abbrev pub Alike : List Pass → Ending → ℕ → List Pass → Ending → ℕ → Type 0
  Alike x e s x' e' s' = (x ≡ x') × (e ≡ e') × (s ≡ s')

  pub alike : (p q q' : Position) (t u u' : ℕ) (x x' : List Pass) (e e' : Ending) (s s' : ℕ) → Run G p t x q u → Ends G q u e s → Run G p t x' q' u' → Ends G q' u' e' s' → host_moves x ≡ host_moves x' → Alike x e s x' e' s'
  alike p q q' t u u' x x' e e' s s' play.stays h play.stays k d = let y = ends_same p t e e' s s' h k in (refl, y.0, y.1)
  alike p q q' t u u' x x' e e' s s' play.stays h (play.inside {q = r} lt g run) k d = absurd (ended_no_inside p r t e s h lt g)
  alike p q q' t u u' x x' e e' s s' play.stays h (play.passes {q = r} {a = a} {trace = y} lt g run) k d = absurd (ended_pass p r t e s a y h lt g d)
  alike p q q' t u u' x x' e e' s s' (play.inside {q = r} lt g run) h play.stays k d = absurd (ended_no_inside p r t e' s' k lt g)
  alike p q q' t u u' x x' e e' s s' (play.inside {q = r} lt g run) h (play.inside {q = r'} lt' g' run') k d =
      alike r q q' (suc t) u u' x x' e e' s s' run h (rw (one_inside p r' r g' g) at run') k d
  alike p q q' t u u' x x' e e' s s' (play.inside {q = r} lt g run) h (play.passes {q = r'} {a = a} lt' g' run') k d = absurd (inside_no_pass p r r' a g g')
  alike p q q' t u u' x x' e e' s s' (play.passes {q = r} {a = a} {trace = y} lt g run) h play.stays k d = absurd (ended_pass p r t e' s' a y k lt g (sym d))
  alike p q q' t u u' x x' e e' s s' (play.passes {q = r} {a = a} lt g run) h (play.inside {q = r'} lt' g' run') k d = absurd (inside_no_pass p r' r a g' g)
  alike p q q' t u u' x x' e e' s s' (play.passes {q = r} {a = a} {trace = y} lt g run) h (play.passes {q = r'} {a = a'} {trace = y'} lt' g' run') k d =
      let one = one_pass p r r' a a' y y' g g' d in
      let moves : host_moves y ≡ host_moves y' = cancel a y y' (d ∙ ap (λ z. host_moves (z ∷ y')) (sym one.0)) in
      let more = alike r q q' (suc t) u u' y y' e e' s s' run h (rw (← one.1) at run') k moves in
      (cc, more.1, more.2)

pub moves_determine_the_play : MovesDetermineThePlay
moves_determine_the_play G moves x y =
    let a = alike G _ _ _ 0 _ _ x.trace y.trace x.ending y.ending x.steps y.steps x.play.run x.play.ends y.play.run y.play.ends (cc) in
    record { same_trace = a.0; same_ending = a.1; same_steps = a.2 }
