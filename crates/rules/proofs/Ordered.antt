-- The list of full plays is in order.
use Rattle.std.proofs.Common.{◌≡◌, ℕ, zero, suc, ◌+◌, ◌<◌, Bool, true, false, ltb, List, [], ◌∷◌, ◌++◌, map, ℤ, sym, refl, ap, ◌∙◌, subst, append_assoc, arith}
use Rattle.std.proofs.Math.Logic.{⊎_elim}
use mathlib.Core.List.Memᴰ
use mathlib.Core.List.{Memᴰ}
use mathlib.Core.Option.{Option, none, some}
use Rattle.arithmetic.specs.Meaning.{WordList, Listed}
use Rattle.rows.specs.Types.{Tree, unit as unit_type, int as int_type, pair as pair_type, fun as function_type}
use Rattle.rules.specs.Terms.{Value, Context, word, pair}
use Rattle.rules.specs.Memory.{Entry, host_name, library_name, Memory, at}
use Rattle.rules.specs.Game.{Game, Pending, library_waits, host_waits, Position, library_runs, host_turn, start, Pass, host_call, host_answer, library_call, library_answer, ◌⊢◌─◌⟹◌}
use Rattle.rules.specs.Game as rule
use Rattle.rules.specs.Plays.{Run, Move, call, answer, words, four, host_moves}
use Rattle.rules.specs.Plays as play
use Rattle.rules.specs.Enumeration.{Next, goes_on, hands, fails, deep, no_step, library_next, Saying, saying, in_order, each_word, with_left, both_parts, Reply, reply, calls_with, answers_with, where_true, sayings, calls_of, calls, answers_of, answers, replies, Played, played, after, moves_of, after_each, after_next, at_turn, plays_from, full_plays}
use Rattle.rules.specs.Order.{StandsBefore, WordsBefore, Ahead, BeforeFrom, Before, Ascending}
use Rattle.rules.specs.Order as order
use Rattle.rules.specs.Ranges.{AllPlays, FullPlaysHaveAList}
use Rattle.rules.proofs.Listed.{full_plays_are_listed}
use Rattle.rules.proofs.Sayings.{listed_word, in_each, in_left, in_both, in_with, in_answer, replies_are}
use Rattle.rules.proofs.Nexts.{IsSo, next_so}
use Rattle.rules.proofs.Determined.{first_moves, moves_first}

module _ {X : Type 0} where
  ascending_append : (R : X → X → Type 0) (xs ys : List X) → Ascending R xs → Ascending R ys → ((x y : X) → Memᴰ x xs → Memᴰ y ys → R x y) → Ascending R (xs ++ ys)
  ascending_append R [] ys h k c = k
  ascending_append R (x ∷ xs) ys h k c = (first, ascending_append R xs ys h.1 k (λ a b i j. c a b (Memᴰ.tail i) j))
    where
      first : (y : X) → Memᴰ y (xs ++ ys) → R x y
      first y i = ⊎_elim (λ j. h.0 y j) (λ j. c x y (Memᴰ.head refl) j) (Memᴰ.append_cases xs i)

  ascending_weaker : (R S : X → X → Type 0) (xs : List X) → ((x y : X) → R x y → S x y) → Ascending R xs → Ascending S xs
  ascending_weaker R S [] f h = tt
  ascending_weaker R S (x ∷ xs) f h = ((λ y i. f x y (h.0 y i)), ascending_weaker R S xs f h.1)

module _ {X : Type 0} {Y : Type 0} where
  pub ascending_map : (R : X → X → Type 0) (S : Y → Y → Type 0) (g : X → Y) (xs : List X) → ((x y : X) → R x y → S (g x) (g y)) → Ascending R xs → Ascending S (map g xs)
  ascending_map R S g [] f h = tt
  ascending_map R S g (x ∷ xs) f h = ((λ y i. first y (Memᴰ.of_map g xs i)), ascending_map R S g xs f h.1)
    where
      first : (y : Y) → (z : X) × Memᴰ z xs × (g z ≡ y) → S (g x) y
      first y w = subst (S (g x)) w.2 (f x w.0 (h.0 w.0 w.1))

-- words before others stay so with more behind them, and with the same in front
words_extend : (list : WordList) (vs ws xs ys : List ℤ) → WordsBefore list vs ws → WordsBefore list (vs ++ xs) (ws ++ ys)
words_extend list vs ws xs ys (order.differ p q lt b d e) = order.differ p q lt b d e
words_extend list vs ws xs ys (order.agree {vs = a} {ws = b} d h) = order.agree d (words_extend list a b xs ys h)

words_prefix : (list : WordList) (us vs ws : List ℤ) → WordsBefore list vs ws → WordsBefore list (us ++ vs) (us ++ ws)
words_prefix list [] vs ws h = h
words_prefix list (u ∷ us) vs ws h = order.agree refl (words_prefix list us vs ws h)

-- the move that a pass of the host's is
abbrev pub move_of : Pass → Move
move_of (host_call m v) = call m (four (words v))
move_of (host_answer m v) = answer m (four (words v))
move_of (library_call m v) = call m []
move_of (library_answer m v) = answer m []

abbrev said_words : Saying → List ℤ
said_words (saying v R) = words v

abbrev passed : Reply → Pass
passed (reply a q) = a

-- a step at the host's turn is a host move
abbrev MovesAt : Position → Option Pass → Type 0
MovesAt (library_runs K M μ P) b = Unit {0}
MovesAt (host_turn K l μ P) b = (a : Pass) × (b ≡ some a) × (first_moves a ≡ move_of a ∷ [])

moves_at : (G : Game) (p q : Position) (b : Option Pass) → G ⊢ p ─ b ⟹ q → MovesAt p b
moves_at G p q b (rule.internal h d) = tt
moves_at G p q b (rule.library_calls E m v θ θ' h) = tt
moves_at G p q b (rule.library_answers m l v) = tt
moves_at G p q b (rule.host_calls m x l θ M v R i lt h s) = (host_call m v, refl, refl)
moves_at G p q b (rule.host_answers m l E θ θ' v R h s) = (host_answer m v, refl, refl)

module _ (list : WordList) where
  abbrev WordBefore : ℤ → ℤ → Type 0
  WordBefore v w = (p : ℕ) × (q : ℕ) × (p < q) × (q < list.length) × (v ≡ list.word p) × (w ≡ list.word q)

  abbrev SaidBefore : Saying → Saying → Type 0
  SaidBefore x y = WordsBefore list (said_words x) (said_words y)

  -- the words in order, where f is the list's word at the places g, which ascend
  words_ascend : (n : ℕ) (f : ℕ → ℤ) (g : ℕ → ℕ) → ((p : ℕ) → f p ≡ list.word (g p)) → ((p q : ℕ) → p < q → q < n → g p < g q) → ((p : ℕ) → p < n → g p < list.length) → Ascending WordBefore (in_order n f)
  words_ascend zero f g is up low = tt
  words_ascend (suc n) f g is up low = (
    (λ w i. let x = listed_word n (λ p. f (suc p)) w i in
        (g 0, g (suc x.0), up 0 (suc x.0) (omega arith) (omega (arith, x.1)), low (suc x.0) (omega (arith, x.1)), is 0, sym x.2 ∙ is (suc x.0))),
    words_ascend n (λ p. f (suc p)) (λ p. g (suc p)) (λ p. is (suc p)) (λ p q a b. up (suc p) (suc q) (omega arith) (omega arith)) (λ p a. low (suc p) (omega arith)),
  )

  each_ascend : (R : List Entry) (ws : List ℤ) → Ascending WordBefore ws → Ascending SaidBefore (each_word R ws)
  each_ascend R [] h = tt
  each_ascend R (w ∷ ws) h = (first, each_ascend R ws h.1)
    where
      first : (y : Saying) → Memᴰ y (each_word R ws) → SaidBefore (saying (word w) R) y
      first (saying v R') i =
          let x = in_each R R' v ws i in
          let b = h.0 x.0 x.1 in
          rw x.2 (order.differ b.0 b.1 b.2 b.3 b.4 b.5)

  left_ascend : (v : Value) (ss : List Saying) → Ascending SaidBefore ss → Ascending SaidBefore (with_left v ss)
  left_ascend v [] h = tt
  left_ascend v (saying w R ∷ ss) h = (first, left_ascend v ss h.1)
    where
      first : (y : Saying) → Memᴰ y (with_left v ss) → SaidBefore (saying (pair v w) R) y
      first (saying u R') i =
          let x = in_left v u R' ss i in
          rw x.2 (words_prefix list (words v) (words w) (words x.0) (h.0 (saying x.0 R') x.1))

  both_ascend : (right : List Entry → List Saying) (ss : List Saying) → ((R : List Entry) → Ascending SaidBefore (right R)) → Ascending SaidBefore ss → Ascending SaidBefore (both_parts right ss)
  both_ascend right [] k h = tt
  both_ascend right (saying v R ∷ ss) k h =
      ascending_append SaidBefore (with_left v (right R)) (both_parts right ss) (left_ascend v (right R) (k R)) (both_ascend right ss k h.1) across
    where
      across : (x y : Saying) → Memᴰ x (with_left v (right R)) → Memᴰ y (both_parts right ss) → SaidBefore x y
      across (saying u S) (saying z T) i j =
          let a = in_left v u S (right R) i in
          let b = in_both right z T ss j in
          let lead = words_extend list (words v) (words b.0) (words a.0) (words b.1) (h.0 (saying b.0 b.2) b.3) in
          rw (b.5, a.2) lead

  module _ (G : Game) where
    sayings_ascend : (θ : Tree) (R : List Entry) → Ascending SaidBefore (sayings G list θ R)
    sayings_ascend unit_type R = ((λ y i. elim i [ ]), tt)
    sayings_ascend int_type R = each_ascend R _ (words_ascend list.length list.word (λ p. p) (λ p. refl) (λ p q a b. a) (λ p a. a))
    sayings_ascend (pair_type θ θ') R = both_ascend (sayings G list θ') (sayings G list θ R) (sayings_ascend θ') (sayings_ascend θ R)
    sayings_ascend (function_type θ θ') R = ((λ y i. elim i [ ]), tt)

    module _ (P : List ℕ) where
      abbrev ReplyBefore : Reply → Reply → Type 0
      ReplyBefore x y = Ahead list P (move_of (passed x)) (move_of (passed y))

      module _ (law : Listed G.meaning list) (K : List Pending) (l : ℕ) (μ : Memory) where
        calls_with_ascend : (m : ℕ) (ss : List Saying) → Ascending SaidBefore ss → Ascending ReplyBefore (calls_with m ss K l μ P)
        calls_with_ascend m [] h = tt
        calls_with_ascend m (saying v R ∷ ss) h = (first, calls_with_ascend m ss h.1)
          where
            first : (y : Reply) → Memᴰ y (calls_with m ss K l μ P) → Ahead list P (call m (four (words v))) (move_of (passed y))
            first (reply b r) i =
                let x = in_with G list law K l μ P m b r ss i in
                rw x.3 (order.called_with refl (words_extend list (words v) (words x.0) _ _ (h.0 (saying x.0 x.1) x.2)))

        calls_of_ascend : (o : Option Entry) (m : ℕ) → Ascending ReplyBefore (calls_of G list o m K l μ P)
        calls_of_ascend (some (library_name x θ M)) m = calls_with_ascend m (sayings G list θ μ.names) (sayings_ascend θ μ.names)
        calls_of_ascend o m = tt

        -- a call of one name, and of one of several
        calls_one : (o : Option Entry) (m : ℕ) (b : Pass) (r : Position) → Memᴰ (reply b r) (calls_of G list o m K l μ P) → (v : Value) × (b ≡ host_call m v)
        calls_one (some (library_name x θ M)) m b r i = let w = in_with G list law K l μ P m b r (sayings G list θ μ.names) i in (w.0, w.3)
        calls_one o m b r i = elim i [ ]

        calls_some : (ms : List ℕ) (b : Pass) (r : Position) → Memᴰ (reply b r) (calls G list ms K l μ P) → (n : ℕ) × (v : Value) × Memᴰ n ms × (b ≡ host_call n v)
        calls_some [] b r i = elim i [ ]
        calls_some (m ∷ ms) b r i =
            ⊎_elim (λ j. let w = calls_one (at μ.names m) m b r j in (m, w.0, Memᴰ.head refl, w.1)) (λ j. let w = calls_some ms b r j in (w.0, w.1, Memᴰ.tail w.2, w.3))
            (Memᴰ.append_cases (calls_of G list (at μ.names m) m K l μ P) i)

        calls_ascend : (ms : List ℕ) → ((m n : ℕ) → StandsBefore m n ms → StandsBefore m n P) → Ascending ReplyBefore (calls G list ms K l μ P)
        calls_ascend [] sub = tt
        calls_ascend (m ∷ ms) sub =
            ascending_append ReplyBefore (calls_of G list (at μ.names m) m K l μ P) (calls G list ms K l μ P) (calls_of_ascend (at μ.names m) m) (calls_ascend ms (λ a b s. sub a b (order.later s))) across
          where
            across : (x y : Reply) → Memᴰ x (calls_of G list (at μ.names m) m K l μ P) → Memᴰ y (calls G list ms K l μ P) → ReplyBefore x y
            across (reply a q) (reply b r) i j =
                let v = calls_one (at μ.names m) m a q i in
                let w = calls_some ms b r j in
                rw (w.3, v.1) (order.shown_first (sub m w.0 (order.here refl w.2)))

        allowed_ascend : (b : Bool) → Ascending ReplyBefore (where_true b (calls G list P K l μ P))
        allowed_ascend true = calls_ascend P (λ m n s. s)
        allowed_ascend false = tt

        allowed_call : (c : Bool) (b : Pass) (r : Position) → Memᴰ (reply b r) (where_true c (calls G list P K l μ P)) → (n : ℕ) × (v : Value) × (b ≡ host_call n v)
        allowed_call true b r i = let w = calls_some P b r i in (w.0, w.1, w.3)
        allowed_call false b r i = elim i [ ]

      module _ (law : Listed G.meaning list) (μ : Memory) where
        answers_with_ascend : (m : ℕ) (E : Context) (K : List Pending) (ss : List Saying) → Ascending SaidBefore ss → Ascending ReplyBefore (answers_with m E ss K μ P)
        answers_with_ascend m E K [] h = tt
        answers_with_ascend m E K (saying v R ∷ ss) h = (first, answers_with_ascend m E K ss h.1)
          where
            first : (y : Reply) → Memᴰ y (answers_with m E ss K μ P) → Ahead list P (answer m (four (words v))) (move_of (passed y))
            first (reply b r) i =
                let x = in_answer G list law m E K μ P b r ss i in
                rw x.3 (order.answered_with refl (words_extend list (words v) (words x.0) _ _ (h.0 (saying x.0 x.1) x.2)))

        answers_of_ascend : (o : Option Entry) (m : ℕ) (E : Context) (K : List Pending) → Ascending ReplyBefore (answers_of G list o m E K μ P)
        answers_of_ascend (some (host_name θ θ')) m E K = answers_with_ascend m E K (sayings G list θ' μ.names) (sayings_ascend θ' μ.names)
        answers_of_ascend o m E K = tt

        answers_ascend : (K : List Pending) → Ascending ReplyBefore (answers G list K μ P)
        answers_ascend (library_waits m E ∷ K) = answers_of_ascend (at μ.names m) m E K
        answers_ascend K = tt

        answers_one : (o : Option Entry) (m : ℕ) (E : Context) (K : List Pending) (b : Pass) (r : Position) → Memᴰ (reply b r) (answers_of G list o m E K μ P) → (v : Value) × (b ≡ host_answer m v)
        answers_one (some (host_name θ θ')) m E K b r i = let w = in_answer G list law m E K μ P b r (sayings G list θ' μ.names) i in (w.0, w.3)
        answers_one o m E K b r i = elim i [ ]

        answers_some : (K : List Pending) (b : Pass) (r : Position) → Memᴰ (reply b r) (answers G list K μ P) → (n : ℕ) × (v : Value) × (b ≡ host_answer n v)
        answers_some (library_waits m E ∷ K) b r i = let w = answers_one (at μ.names m) m E K b r i in (m, w.0, w.1)
        answers_some K b r i = elim i [ ]

    replies_ascend : (law : Listed G.meaning list) (K : List Pending) (l : ℕ) (μ : Memory) (P : List ℕ) → Ascending (ReplyBefore P) (replies G list K l μ P)
    replies_ascend law K l μ P =
        ascending_append (ReplyBefore P) (where_true (ltb l G.bounds.insistence) (calls G list P K l μ P)) (answers G list K μ P) (allowed_ascend P law K l μ _) (answers_ascend P law μ K) across
      where
        across : (x y : Reply) → Memᴰ x (where_true (ltb l G.bounds.insistence) (calls G list P K l μ P)) → Memᴰ y (answers G list K μ P) → ReplyBefore P x y
        across (reply a q) (reply b r) i j =
            let v = allowed_call P law K l μ _ a q i in
            let w = answers_some P law μ K b r j in
            rw (w.2, v.2) order.call_first

    module _ (law : Listed G.meaning list) where
      abbrev PlaysBefore : Position → ℕ → Played → Played → Type 0
      PlaysBefore p t x y = BeforeFrom G list p t (moves_of x) (moves_of y)

      inside_before : (p q : Position) (t : ℕ) → t < G.bounds.steps → G ⊢ p ─ none ⟹ q → (x y : List Move) → BeforeFrom G list q (suc t) x y → BeforeFrom G list p t x y
      inside_before p q t lt h x y b = record {
        trace = b.trace;
        pending = b.pending;
        level = b.level;
        memory = b.memory;
        shown = b.shown;
        taken = b.taken;
        run = play.inside lt h b.run;
        first = b.first;
        second = b.second;
        after_first = b.after_first;
        after_second = b.after_second;
        earlier_is = b.earlier_is;
        later_is = b.later_is;
        ahead = b.ahead;
      }

      with_pass : (a : Pass) (tr : List Pass) (x rest : List Move) → x ≡ host_moves tr ++ rest → first_moves a ++ x ≡ host_moves (a ∷ tr) ++ rest
      with_pass a tr x rest e = ap (λ z. first_moves a ++ z) e ∙ sym (append_assoc (first_moves a) (host_moves tr) rest) ∙ ap (λ z. z ++ rest) (sym (moves_first a tr))

      pass_before : (p q : Position) (t : ℕ) (a : Pass) → t < G.bounds.steps → G ⊢ p ─ some a ⟹ q → (x y : Played) → PlaysBefore q (suc t) x y → PlaysBefore p t (after a x) (after a y)
      pass_before p q t a lt h (played x e s) (played y e' s') b = record {
        trace = a ∷ b.trace;
        pending = b.pending;
        level = b.level;
        memory = b.memory;
        shown = b.shown;
        taken = b.taken;
        run = play.passes lt h b.run;
        first = b.first;
        second = b.second;
        after_first = b.after_first;
        after_second = b.after_second;
        earlier_is = moves_first a x ∙ with_pass a b.trace (host_moves x) _ b.earlier_is;
        later_is = moves_first a y ∙ with_pass a b.trace (host_moves y) _ b.later_is;
        ahead = b.ahead;
      }

      abbrev RestAscends : ℕ → ℕ → Type 0
      RestAscends left t = (q : Position) → Ascending (PlaysBefore q t) (plays_from G list left t q)

      next_ascends : (left t : ℕ) (p : Position) (n : Next) → t < G.bounds.steps → IsSo G p n → RestAscends left (suc t) → Ascending (PlaysBefore p t) (after_next (plays_from G list left (suc t)) t n)
      next_ascends left t p (goes_on q) lt h rest = ascending_weaker (PlaysBefore q (suc t)) (PlaysBefore p t) _ (λ x y b. inside_before p q t lt h _ _ b) (rest q)
      next_ascends left t p (hands a q) lt h rest = ascending_map (PlaysBefore q (suc t)) (PlaysBefore p t) (after a) _ (λ x y b. pass_before p q t a lt h x y b) (rest q)
      next_ascends left t p fails lt h rest = ((λ y i. elim i [ ]), tt)
      next_ascends left t p deep lt h rest = ((λ y i. elim i [ ]), tt)
      next_ascends left t p no_step lt h rest = tt

      -- the move of a reply at the host's turn
      reply_move : (K : List Pending) (l : ℕ) (μ : Memory) (P : List ℕ) (a : Pass) (q : Position) → Memᴰ (reply a q) (replies G list K l μ P) → first_moves a ≡ move_of a ∷ []
      reply_move K l μ P a q i =
          let w = moves_at G (host_turn K l μ P) q (some a) (replies_are G list law K l μ P a q i) in
          let e : w.0 ≡ a = cc in
          rw e at w.2

      -- a play after a reply of a list
      after_some : (plays : Position → List Played) (rs : List Reply) (y : Played) → Memᴰ y (after_each plays rs) → (a : Pass) × (q : Position) × (x : Played) × Memᴰ (reply a q) rs × (y ≡ after a x)
      after_some plays [] y i = elim i [ ]
      after_some plays (reply a q ∷ rs) y i =
          ⊎_elim (λ j. let w = Memᴰ.of_map (after a) (plays q) j in (a, q, w.0, Memᴰ.head refl, sym w.2))
          (λ j. let w = after_some plays rs y j in (w.0, w.1, w.2, Memᴰ.tail w.3, w.4)) (Memᴰ.append_cases (map (after a) (plays q)) i)

      after_moves : (a : Pass) (x : Played) → first_moves a ≡ move_of a ∷ [] → moves_of (after a x) ≡ move_of a ∷ moves_of x
      after_moves a (played x e s) one = moves_first a x ∙ ap (λ z. z ++ host_moves x) one

      each_ascends : (left t : ℕ) (K : List Pending) (l : ℕ) (μ : Memory) (P : List ℕ) → t < G.bounds.steps → RestAscends left (suc t) → (rs : List Reply) → Ascending (ReplyBefore P) rs → ((a : Pass) (q : Position) → Memᴰ (reply a q) rs → Memᴰ (reply a q) (replies G list K l μ P)) → Ascending (PlaysBefore (host_turn K l μ P) t) (after_each (plays_from G list left (suc t)) rs)
      each_ascends left t K l μ P lt rest [] up sub = tt
      each_ascends left t K l μ P lt rest (reply a q ∷ rs) up sub =
          ascending_append (PlaysBefore (host_turn K l μ P) t) (map (after a) (plays_from G list left (suc t) q)) (after_each (plays_from G list left (suc t)) rs)
          (ascending_map (PlaysBefore q (suc t)) (PlaysBefore (host_turn K l μ P) t) (after a) _ (λ x y b. pass_before (host_turn K l μ P) q t a lt (replies_are G list law K l μ P a q (sub a q (Memᴰ.head refl))) x y b) (rest q))
          (each_ascends left t K l μ P lt rest rs up.1 (λ b r i. sub b r (Memᴰ.tail i)))
          across
        where
          across : (x y : Played) → Memᴰ x (map (after a) (plays_from G list left (suc t) q)) → Memᴰ y (after_each (plays_from G list left (suc t)) rs) → PlaysBefore (host_turn K l μ P) t x y
          across x y i j =
              let v = Memᴰ.of_map (after a) (plays_from G list left (suc t) q) i in
              let w = after_some (plays_from G list left (suc t)) rs y j in
              record {
                trace = [];
                pending = K;
                level = l;
                memory = μ;
                shown = P;
                taken = t;
                run = play.stays;
                first = move_of a;
                second = move_of w.0;
                after_first = moves_of v.0;
                after_second = moves_of w.2;
                earlier_is = ap moves_of (sym v.2) ∙ after_moves a v.0 (reply_move K l μ P a q (sub a q (Memᴰ.head refl)));
                later_is = ap moves_of w.4 ∙ after_moves w.0 w.2 (reply_move K l μ P w.0 w.1 (sub w.0 w.1 (Memᴰ.tail w.3)));
                ahead = up.0 (reply w.0 w.1) w.3;
              }

      turn_ascends : (left t : ℕ) (K : List Pending) (l : ℕ) (μ : Memory) (P : List ℕ) → t < G.bounds.steps → RestAscends left (suc t) → (rs : List Reply) → Ascending (ReplyBefore P) rs → ((a : Pass) (q : Position) → Memᴰ (reply a q) rs → Memᴰ (reply a q) (replies G list K l μ P)) → Ascending (PlaysBefore (host_turn K l μ P) t) (at_turn (plays_from G list left (suc t)) t rs)
      turn_ascends left t K l μ P lt rest [] up sub = ((λ y i. elim i [ ]), tt)
      turn_ascends left t K l μ P lt rest (r ∷ rs) up sub = each_ascends left t K l μ P lt rest (r ∷ rs) up sub

      plays_ascend : (left t : ℕ) → left + t ≡ G.bounds.steps → RestAscends left t
      plays_ascend zero t sum p = ((λ y i. elim i [ ]), tt)
      plays_ascend (suc left) t sum (library_runs K M μ P) = next_ascends left t (library_runs K M μ P) (library_next G K M μ P) (omega arith) (next_so G K M μ P) (plays_ascend left (suc t) (omega arith))
      plays_ascend (suc left) t sum (host_turn K l μ P) = turn_ascends left t K l μ P (omega arith) (plays_ascend left (suc t) (omega arith)) (replies G list K l μ P) (replies_ascend law K l μ P) (λ a q i. i)

pub full_plays_ascend : (G : Game) (list : WordList) → Listed G.meaning list → Ascending (Before G list) (map moves_of (full_plays G list))
full_plays_ascend G list law = ascending_map (λ x y. Before G list (moves_of x) (moves_of y)) (Before G list) moves_of (full_plays G list) (λ x y b. b) (plays_ascend list G law G.bounds.steps 0 (omega arith) (start G))

-- the computed list is that of all full plays
pub all_plays : (G : Game) (list : WordList) → Listed G.meaning list → AllPlays G list (full_plays G list)
all_plays G list law =
    let exact = full_plays_are_listed G list law in
    record { each_is_listed = exact.each_is_listed; each_is_full = exact.each_is_full; in_order = full_plays_ascend G list law }

pub full_plays_have_a_list : FullPlaysHaveAList
full_plays_have_a_list G list law = (full_plays G list, all_plays G list law)
