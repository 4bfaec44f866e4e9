-- The host's moves at a position are exactly those of the list.
use Rattle.std.proofs.Common.{◌≡◌, ℕ, zero, suc, ◌<◌, Bool, true, false, ltb, List, [], ◌∷◌, ◌++◌, length, ℤ, sym, refl, subst, arith, ltb-true, lt-ltb}
use Rattle.std.proofs.Math.Logic.{⊎_elim}
use mathlib.Core.List.Memᴰ
use mathlib.Core.List.{Memᴰ}
use mathlib.Core.Option.{Option, some}
use Rattle.arithmetic.specs.Meaning.{Meaning, WordList, Listed}
use Rattle.rows.specs.Types.{Tree, unit as unit_type, int as int_type, pair as pair_type, fun as function_type}
use Rattle.rules.specs.Terms.{Term, Value, Context, plug, ⌊◌⌋, app, meth, unit, word, name, pair}
use Rattle.rules.specs.Memory.{Entry, host_name, library_name, Memory, at, with_names}
use Rattle.rules.specs.Game.{Game, Pending, library_waits, host_waits, Position, library_runs, host_turn, Pass, host_call, host_answer, Says, ◌⊢◌─◌⟹◌}
use Rattle.rules.specs.Game as rule
use Rattle.rules.specs.Enumeration.{Saying, saying, in_order, each_word, with_left, both_parts, reply, calls_with, answers_with, where_true, sayings, calls_of, calls, answers_of, answers, replies}

-- the words in order are those at the places
pub word_listed : (n : ℕ) (f : ℕ → ℤ) (p : ℕ) → p < n → Memᴰ (f p) (in_order n f)
word_listed zero f p h = absurd (omega arith)
word_listed (suc n) f zero h = Memᴰ.head refl
word_listed (suc n) f (suc p) h = Memᴰ.tail (word_listed n (λ q. f (suc q)) p (omega arith))

pub listed_word : (n : ℕ) (f : ℕ → ℤ) (w : ℤ) → Memᴰ w (in_order n f) → (p : ℕ) × (p < n) × (f p ≡ w)
listed_word zero f w i = elim i [ ]
listed_word (suc n) f w (Memᴰ.head e) = (zero, omega arith, sym e)
listed_word (suc n) f w (Memᴰ.tail i) = let x = listed_word n (λ q. f (suc q)) w i in (suc x.0, omega (arith, x.1), x.2)

each_in : (R : List Entry) (w : ℤ) (ws : List ℤ) → Memᴰ w ws → Memᴰ (saying (word w) R) (each_word R ws)
each_in R w [] i = elim i [ ]
each_in R w (v ∷ ws) (Memᴰ.head e) = Memᴰ.head (cc)
each_in R w (v ∷ ws) (Memᴰ.tail i) = Memᴰ.tail (each_in R w ws i)

pub in_each : (R R' : List Entry) (v : Value) (ws : List ℤ) → Memᴰ (saying v R') (each_word R ws) → (w : ℤ) × Memᴰ w ws × (v ≡ word w) × (R' ≡ R)
in_each R R' v [] i = elim i [ ]
in_each R R' v (w ∷ ws) (Memᴰ.head e) = (w, Memᴰ.head refl, cc, cc)
in_each R R' v (w ∷ ws) (Memᴰ.tail i) = let x = in_each R R' v ws i in (x.0, Memᴰ.tail x.1, x.2, x.3)

left_in : (v w : Value) (R : List Entry) (ss : List Saying) → Memᴰ (saying w R) ss → Memᴰ (saying (pair v w) R) (with_left v ss)
left_in v w R [] i = elim i [ ]
left_in v w R (saying w' R' ∷ ss) (Memᴰ.head e) =
    let a : w ≡ w' = cc in
    let b : R ≡ R' = cc in
    Memᴰ.head (rw (a, b))
left_in v w R (saying w' R' ∷ ss) (Memᴰ.tail i) = Memᴰ.tail (left_in v w R ss i)

pub in_left : (v u : Value) (R : List Entry) (ss : List Saying) → Memᴰ (saying u R) (with_left v ss) → (w : Value) × Memᴰ (saying w R) ss × (u ≡ pair v w)
in_left v u R [] i = elim i [ ]
in_left v u R (saying w R' ∷ ss) (Memᴰ.head e) =
    let b : R ≡ R' = cc in
    (w, Memᴰ.head (rw b), cc)
in_left v u R (saying w R' ∷ ss) (Memᴰ.tail i) = let x = in_left v u R ss i in (x.0, Memᴰ.tail x.1, x.2)

both_in : (right : List Entry → List Saying) (v w : Value) (R R' : List Entry) (ss : List Saying) → Memᴰ (saying v R) ss → Memᴰ (saying w R') (right R) → Memᴰ (saying (pair v w) R') (both_parts right ss)
both_in right v w R R' [] i j = elim i [ ]
both_in right v w R R' (saying v' R₁ ∷ ss) (Memᴰ.head e) j =
    let a : v ≡ v' = cc in
    let b : R ≡ R₁ = cc in
    Memᴰ.append_left _ (subst (λ (x : Value). Memᴰ (saying (pair v w) R') (with_left x (right R₁))) a (left_in v w R' (right R₁) (rw b at j)))
both_in right v w R R' (saying v' R₁ ∷ ss) (Memᴰ.tail i) j = Memᴰ.append_right (with_left v' (right R₁)) (both_in right v w R R' ss i j)

pub in_both : (right : List Entry → List Saying) (u : Value) (R' : List Entry) (ss : List Saying) → Memᴰ (saying u R') (both_parts right ss) → (v : Value) × (w : Value) × (R : List Entry) × Memᴰ (saying v R) ss × Memᴰ (saying w R') (right R) × (u ≡ pair v w)
in_both right u R' [] i = elim i [ ]
in_both right u R' (saying v R ∷ ss) i =
    ⊎_elim (λ j. let x = in_left v u R' (right R) j in (v, x.0, R, Memᴰ.head refl, x.1, x.2))
    (λ j. let x = in_both right u R' ss j in (x.0, x.1, x.2, Memᴰ.tail x.3, x.4, x.5)) (Memᴰ.append_cases (with_left v (right R)) i)

-- the same with equal ends
says_as : (A : Meaning) (θ : Tree) (R R' R'' : List Entry) (v w : Value) → v ≡ w → R' ≡ R'' → Says A θ R w R'' → Says A θ R v R'
says_as A θ R R' R'' v w e d h = rw (e, d) h

move_as : (G : Game) (p q r : Position) (a b : Pass) → a ≡ b → q ≡ r → G ⊢ p ─ some b ⟹ r → G ⊢ p ─ some a ⟹ q
move_as G p q r a b e d h = rw (e, d) h

module _ (G : Game) (list : WordList) (law : Listed G.meaning list) where
  -- what the host may say is listed
  pub says_listed : (θ : Tree) (R : List Entry) (v : Value) (R' : List Entry) → Says G.meaning θ R v R' → Memᴰ (saying v R') (sayings G list θ R)
  says_listed θ R v R' rule.says_unit = Memᴰ.head refl
  says_listed θ R v R' (rule.says_word w h) =
      let x = law.stands w h in
      let listed : Memᴰ w (in_order list.length list.word) = Memᴰ.cast (sym x.2) (word_listed list.length list.word x.0 x.1) in
      each_in R w _ listed
  says_listed θ R v R' (rule.says_pair {θ = ρ} {θ' = σ} {R' = R₁} {v = a} {w = b} h k) =
      both_in (sayings G list σ) a b R₁ R' (sayings G list ρ R) (says_listed ρ R a R₁ h) (says_listed σ R₁ b R' k)
  says_listed θ R v R' rule.says_function = Memᴰ.head refl

  -- what is listed the host may say
  pub listed_says : (θ : Tree) (R : List Entry) (v : Value) (R' : List Entry) → Memᴰ (saying v R') (sayings G list θ R) → Says G.meaning θ R v R'
  listed_says unit_type R v R' i =
      let e = Memᴰ.eq_of_singleton i in
      let a : v ≡ unit = cc in
      let b : R' ≡ R = cc in
      rw (a, b) rule.says_unit
  listed_says int_type R v R' i =
      let x = in_each R R' v _ i in
      let y = listed_word list.length list.word x.0 x.1 in
      let may : G.meaning.may_say x.0 ≡ true = rw y.2 at (law.only y.0 y.1) in
      says_as _ _ _ _ _ _ _ x.2 x.3 (rule.says_word x.0 may)
  listed_says (pair_type θ θ') R v R' i =
      let x = in_both (sayings G list θ') v R' (sayings G list θ R) i in
      rw x.5 (rule.says_pair (listed_says θ R x.0 x.2 x.3) (listed_says θ' x.2 x.1 R' x.4))
  listed_says (function_type θ θ') R v R' i =
      let e = Memᴰ.eq_of_singleton i in
      let a : v ≡ name (length R) = cc in
      let b : R' ≡ R ++ (host_name θ θ' ∷ []) = cc in
      rw (a, b) rule.says_function

  module _ (K : List Pending) (l : ℕ) (μ : Memory) (P : List ℕ) where
    abbrev pub called : ℕ → Value → List Entry → Position
    called m v R = library_runs (host_waits m (suc l) ∷ K) (app (meth m) ⌊ v ⌋) (with_names R μ) P

    with_in : (m : ℕ) (v : Value) (R : List Entry) (ss : List Saying) → Memᴰ (saying v R) ss → Memᴰ (reply (host_call m v) (called m v R)) (calls_with m ss K l μ P)
    with_in m v R [] i = elim i [ ]
    with_in m v R (saying v' R' ∷ ss) (Memᴰ.head e) =
        let a : v ≡ v' = cc in
        let b : R ≡ R' = cc in
        Memᴰ.head (rw (a, b))
    with_in m v R (saying v' R' ∷ ss) (Memᴰ.tail i) = Memᴰ.tail (with_in m v R ss i)

    pub in_with : (m : ℕ) (a : Pass) (q : Position) (ss : List Saying) → Memᴰ (reply a q) (calls_with m ss K l μ P) → (v : Value) × (R : List Entry) × Memᴰ (saying v R) ss × (a ≡ host_call m v) × (q ≡ called m v R)
    in_with m a q [] i = elim i [ ]
    in_with m a q (saying v R ∷ ss) (Memᴰ.head e) = (v, R, Memᴰ.head refl, cc, cc)
    in_with m a q (saying v R ∷ ss) (Memᴰ.tail i) = let x = in_with m a q ss i in (x.0, x.1, Memᴰ.tail x.2, x.3, x.4)

    calls_in : (ms : List ℕ) (m x : ℕ) (θ : Tree) (M : Term) (v : Value) (R : List Entry) → Memᴰ m ms → at μ.names m ≡ some (library_name x θ M) → Says G.meaning θ μ.names v R → Memᴰ (reply (host_call m v) (called m v R)) (calls G list ms K l μ P)
    calls_in [] m x θ M v R i e h = elim i [ ]
    calls_in (n ∷ ms) m x θ M v R (Memᴰ.head d) e h =
        let here : Memᴰ (reply (host_call m v) (called m v R)) (calls_of G list (at μ.names m) m K l μ P) = rw e (with_in m v R (sayings G list θ μ.names) (says_listed θ μ.names v R h)) in
        Memᴰ.append_left (calls G list ms K l μ P) (rw (← d) here)
    calls_in (n ∷ ms) m x θ M v R (Memᴰ.tail i) e h = Memᴰ.append_right (calls_of G list (at μ.names n) n K l μ P) (calls_in ms m x θ M v R i e h)

    in_calls_of : (o : Option Entry) (m : ℕ) (a : Pass) (q : Position) → at μ.names m ≡ o → Memᴰ m P → l < G.bounds.insistence → Memᴰ (reply a q) (calls_of G list o m K l μ P) → G ⊢ host_turn K l μ P ─ some a ⟹ q
    in_calls_of (some (library_name x θ M)) m a q e j b i =
        let w = in_with m a q (sayings G list θ μ.names) i in
        move_as G _ _ _ _ _ w.3 w.4 (rule.host_calls m x l θ M w.0 w.1 j b e (listed_says θ μ.names w.0 w.1 w.2))
    in_calls_of o m a q e j b i = elim i [ ]

    in_calls : (ms : List ℕ) (a : Pass) (q : Position) → ((m : ℕ) → Memᴰ m ms → Memᴰ m P) → l < G.bounds.insistence → Memᴰ (reply a q) (calls G list ms K l μ P) → G ⊢ host_turn K l μ P ─ some a ⟹ q
    in_calls [] a q sub b i = elim i [ ]
    in_calls (m ∷ ms) a q sub b i =
        ⊎_elim (λ j. in_calls_of (at μ.names m) m a q refl (sub m (Memᴰ.head refl)) b j) (λ j. in_calls ms a q (λ n k. sub n (Memᴰ.tail k)) b j)
        (Memᴰ.append_cases (calls_of G list (at μ.names m) m K l μ P) i)

    in_allowed : (b : Bool) → ltb l G.bounds.insistence ≡ b → (a : Pass) (q : Position) → Memᴰ (reply a q) (where_true b (calls G list P K l μ P)) → G ⊢ host_turn K l μ P ─ some a ⟹ q
    in_allowed true e a q i = in_calls P a q (λ m j. j) (ltb-true _ _ e) i
    in_allowed false e a q i = elim i [ ]

  module _ (m : ℕ) (E : Context) (K : List Pending) (μ : Memory) (P : List ℕ) where
    abbrev pub answered : Value → List Entry → Position
    answered v R = library_runs K (plug E ⌊ v ⌋) (with_names R μ) P

    answer_in : (v : Value) (R : List Entry) (ss : List Saying) → Memᴰ (saying v R) ss → Memᴰ (reply (host_answer m v) (answered v R)) (answers_with m E ss K μ P)
    answer_in v R [] i = elim i [ ]
    answer_in v R (saying v' R' ∷ ss) (Memᴰ.head e) =
        let a : v ≡ v' = cc in
        let b : R ≡ R' = cc in
        Memᴰ.head (rw (a, b))
    answer_in v R (saying v' R' ∷ ss) (Memᴰ.tail i) = Memᴰ.tail (answer_in v R ss i)

    pub in_answer : (a : Pass) (q : Position) (ss : List Saying) → Memᴰ (reply a q) (answers_with m E ss K μ P) → (v : Value) × (R : List Entry) × Memᴰ (saying v R) ss × (a ≡ host_answer m v) × (q ≡ answered v R)
    in_answer a q [] i = elim i [ ]
    in_answer a q (saying v R ∷ ss) (Memᴰ.head e) = (v, R, Memᴰ.head refl, cc, cc)
    in_answer a q (saying v R ∷ ss) (Memᴰ.tail i) = let x = in_answer a q ss i in (x.0, x.1, Memᴰ.tail x.2, x.3, x.4)

    in_answers_of : (l : ℕ) (o : Option Entry) (a : Pass) (q : Position) → at μ.names m ≡ o → Memᴰ (reply a q) (answers_of G list o m E K μ P) → G ⊢ host_turn (library_waits m E ∷ K) l μ P ─ some a ⟹ q
    in_answers_of l (some (host_name θ θ')) a q e i =
        let w = in_answer a q (sayings G list θ' μ.names) i in
        move_as G _ _ _ _ _ w.3 w.4 (rule.host_answers m l E θ θ' w.0 w.1 e (listed_says θ' μ.names w.0 w.1 w.2))
    in_answers_of l o a q e i = elim i [ ]

    answers_in : (θ θ' : Tree) (v : Value) (R : List Entry) → at μ.names m ≡ some (host_name θ θ') → Says G.meaning θ' μ.names v R → Memᴰ (reply (host_answer m v) (answered v R)) (answers G list (library_waits m E ∷ K) μ P)
    answers_in θ θ' v R e h = rw e (answer_in v R (sayings G list θ' μ.names) (says_listed θ' μ.names v R h))

  in_answers : (K : List Pending) (l : ℕ) (μ : Memory) (P : List ℕ) (a : Pass) (q : Position) → Memᴰ (reply a q) (answers G list K μ P) → G ⊢ host_turn K l μ P ─ some a ⟹ q
  in_answers (library_waits m E ∷ K) l μ P a q i = in_answers_of m E K μ P l (at μ.names m) a q refl i
  in_answers K l μ P a q i = elim i [ ]

  -- each reply of the list is a move that the host may make
  pub replies_are : (K : List Pending) (l : ℕ) (μ : Memory) (P : List ℕ) (a : Pass) (q : Position) → Memᴰ (reply a q) (replies G list K l μ P) → G ⊢ host_turn K l μ P ─ some a ⟹ q
  replies_are K l μ P a q i =
      ⊎_elim (λ j. in_allowed K l μ P _ refl a q j) (λ j. in_answers K l μ P a q j)
      (Memᴰ.append_cases (where_true (ltb l G.bounds.insistence) (calls G list P K l μ P)) i)

  abbrev FromHost : Position → Pass → Position → Type 0
  FromHost (library_runs K M μ P) a q = Unit {0}
  FromHost (host_turn K l μ P) a q = Memᴰ (reply a q) (replies G list K l μ P)

  -- each move that the host may make is in the list
  pub move_listed : (p q : Position) (b : Option Pass) (a : Pass) → G ⊢ p ─ b ⟹ q → b ≡ some a → FromHost p a q
  move_listed p q b a (rule.host_calls m x l θ M v R {K} {μ} {P} i lt h s) e =
      let listed : Memᴰ (reply (host_call m v) q) (replies G list K l μ P) = rw (lt-ltb l G.bounds.insistence lt) (Memᴰ.append_left _ (calls_in K l μ P P m x θ M v R i h s)) in
      Memᴰ.cast (cc) listed
  move_listed p q b a (rule.host_answers m l E θ θ' v R {K} {μ} {P} h s) e =
      Memᴰ.cast (cc) (Memᴰ.append_right (where_true (ltb l G.bounds.insistence) (calls G list P (library_waits m E ∷ K) l μ P)) (answers_in m E K μ P θ θ' v R h s))
  move_listed p q b a h e = tt
