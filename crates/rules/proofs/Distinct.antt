-- No name is shown twice, so no play comes before itself, and the list of full plays is without repetition.
use Rattle.std.proofs.Common.{◌≡◌, ℕ, suc, ◌≤◌, Bool, false, eqb, ◌⊎◌, List, [], ◌∷◌, ◌++◌, map, length, ℤ, sym, refl, subst, inl, inr, arith, eq-eqb}
use Rattle.std.proofs.Math.Logic.{⊎_elim}
use mathlib.Core.List.Memᴰ
use mathlib.Core.List.{Memᴰ}
use mathlib.Core.Option.{Option, some}
use Rattle.std.proofs.lemmas.Bool.{or_parts}
use Rattle.std.proofs.lemmas.List.{append_cancel_left, length-map}
use Rattle.arithmetic.specs.Meaning.{WordList, Listed}
use Rattle.rows.specs.declared.forms.MethodForm.TheVariants.{Abstract, Public, Private}
use Rattle.rows.specs.declared.forms.Row.{Row}
use Rattle.rows.specs.declared.forms.Row.TheVariants.{Method as MethodRow}
use Rattle.rules.specs.Terms.{Value, name, pair}
use Rattle.rules.specs.Memory.{Entry, library_name, at}
use Rattle.rules.specs.Unfolding.{public_from}
use Rattle.rules.specs.Game.{Game, Position, library_runs, host_turn, start, Pass, stands, show_once, shown, ◌⊢◌─◌⟹◌}
use Rattle.rules.specs.Game as rule
use Rattle.rules.specs.Plays.{Run, Move, call, answer, host_moves, FullPlay}
use Rattle.rules.specs.Plays as play
use Rattle.rules.specs.Enumeration.{Played, played, moves_of, full_plays}
use Rattle.rules.specs.Order.{StandsBefore, WordsBefore, Ahead, BeforeFrom, Before, Ascending, WithoutRepetition, Counted}
use Rattle.rules.specs.Order as order
use Rattle.rules.specs.Laws.{FullPlaysAreInOrder}
use Rattle.rules.specs.Ranges.{AllPlays}
use Rattle.rules.proofs.Ordered.{all_plays}

-- no number stands twice in a list
abbrev pub Distinct : List ℕ → Type 0
Distinct P = (m n : ℕ) → StandsBefore m n P → m ≡ n → ⊥

low : (m : ℕ) (rows : List Row) (n : ℕ) → Memᴰ n (public_from m rows) → m ≤ n
low m [] n i = elim i [ ]
low m (MethodRow k (Abstract t) ∷ rows) n i = let h = low (suc m) rows n i in omega arith
low m (MethodRow k (Public t e) ∷ rows) n (Memᴰ.head d) = omega arith
low m (MethodRow k (Public t e) ∷ rows) n (Memᴰ.tail i) = let h = low (suc m) rows n i in omega arith
low m (MethodRow k (Private t e) ∷ rows) n i = let h = low (suc m) rows n i in omega arith
low m (row ∷ rows) n i = low m rows n i

pub public_distinct : (m : ℕ) (rows : List Row) → Distinct (public_from m rows)
public_distinct m [] a b s e = elim s [ ]
public_distinct m (MethodRow k (Abstract t) ∷ rows) a b s e = public_distinct (suc m) rows a b s e
public_distinct m (MethodRow k (Public t x) ∷ rows) a b (order.here d i) e = let h = low (suc m) rows b i in omega arith
public_distinct m (MethodRow k (Public t x) ∷ rows) a b (order.later s) e = public_distinct (suc m) rows a b s e
public_distinct m (MethodRow k (Private t x) ∷ rows) a b s e = public_distinct (suc m) rows a b s e
public_distinct m (row ∷ rows) a b s e = public_distinct m rows a b s e

-- a number in a list stands there
absent : (m : ℕ) (P : List ℕ) → stands m P ≡ false → Memᴰ m P → ⊥
absent m [] e i = elim i [ ]
absent m (n ∷ P) e (Memᴰ.head d) = let y = eq-eqb m n d in cc
absent m (n ∷ P) e (Memᴰ.tail i) = absent m P (or_parts (eqb m n) (stands m P) e).1 i

-- one number more behind a list that lacks it
behind : (P : List ℕ) (k m n : ℕ) → StandsBefore m n (P ++ (k ∷ [])) → StandsBefore m n P ⊎ (Memᴰ m P × (n ≡ k))
behind [] k m n (order.here d i) = elim i [ ]
behind [] k m n (order.later s) = elim s [ ]
behind (j ∷ P) k m n (order.here d i) =
    ⊎_elim (λ x. inl (order.here d x)) (λ x. inr (Memᴰ.head d, Memᴰ.eq_of_singleton x)) (Memᴰ.append_cases P i)
behind (j ∷ P) k m n (order.later s) = ⊎_elim (λ x. inl (order.later x)) (λ x. inr (Memᴰ.tail x.0, x.1)) (behind P k m n s)

show_distinct : (o : Option Entry) (b : Bool) (k : ℕ) (P : List ℕ) → stands k P ≡ b → Distinct P → Distinct (show_once o b k P)
show_distinct (some (library_name x θ M)) false k P d h = λ m n s e.
    ⊎_elim (λ x. h m n x e) (λ x. absent k P d (Memᴰ.cast (cc) x.0)) (behind P k m n s)
show_distinct o b k P d h = h

shown_distinct : (R : List Entry) (v : Value) (P : List ℕ) → Distinct P → Distinct (shown R v P)
shown_distinct R (name m) P h = show_distinct (at R m) (stands m P) m P refl h
shown_distinct R (pair v w) P h = shown_distinct R w (shown R v P) (shown_distinct R v P h)
shown_distinct R v P h = h

abbrev shown_at : Position → List ℕ
shown_at (library_runs K M μ P) = P
shown_at (host_turn K l μ P) = P

module _ (G : Game) where
  step_distinct : (p q : Position) (b : Option Pass) → G ⊢ p ─ b ⟹ q → Distinct (shown_at p) → Distinct (shown_at q)
  step_distinct p q b (rule.library_calls E m v θ θ' {K} {μ} {P} h) x = shown_distinct μ.names v P x
  step_distinct p q b (rule.library_answers m l v {K} {μ} {P}) x = shown_distinct μ.names v P x
  step_distinct p q b h x = x

  pub run_distinct : (p q : Position) (t u : ℕ) (trace : List Pass) → Run G p t trace q u → Distinct (shown_at p) → Distinct (shown_at q)
  run_distinct p q t u trace play.stays x = x
  run_distinct p q t u trace (play.inside {q = r} lt h run) x = run_distinct r q (suc t) u trace run (step_distinct p r _ h x)
  run_distinct p q t u trace (play.passes {q = r} {trace = rest} lt h run) x = run_distinct r q (suc t) u rest run (step_distinct p r _ h x)

  module _ (list : WordList) (law : Listed G.meaning list) where
    -- words do not come before themselves
    words_apart : (vs ws : List ℤ) → WordsBefore list vs ws → vs ≡ ws → ⊥
    words_apart vs ws (order.differ {v} {w} p q lt b d e) same =
        let y = law.once p q (omega arith) b (cc) in
        omega arith
    words_apart vs ws (order.agree {vs = a} {ws = b} d h) same = words_apart a b h (cc)

    pub ahead_apart : (P : List ℕ) (m n : Move) → Distinct P → Ahead list P m n → m ≡ n → ⊥
    ahead_apart P m n x order.call_first e = cc
    ahead_apart P m n x (order.shown_first {m = a} {n = b} s) e = x a b s (cc)
    ahead_apart P m n x (order.called_with {vs = vs} {ws = ws} d h) e = words_apart vs ws h (cc)
    ahead_apart P m n x (order.answered_with {vs = vs} {ws = ws} d h) e = words_apart vs ws h (cc)

    pub before_apart : (x y : List Move) → Before G list x y → x ≡ y → ⊥
    before_apart x y b e =
        ahead_apart b.shown b.first b.second (run_distinct _ _ _ _ _ b.run (public_distinct 0 G.rows)) b.ahead
        (let d = append_cancel_left (host_moves b.trace) (b.first ∷ b.after_first) (b.second ∷ b.after_second) (cc) in cc)

    pub no_repetition : (xs : List (List Move)) → Ascending (Before G list) xs → WithoutRepetition xs
    no_repetition [] h = tt
    no_repetition (x ∷ xs) h = ((λ i. before_apart x x (h.0 x i) refl), no_repetition xs h.1)

    -- the plays of a list of all full plays
    module _ (plays : List Played) (all : AllPlays G list plays) where
      -- a full play stands among the moves of such a list
      pub listed_play : (moves : List Move) → FullPlay G moves → Memᴰ moves (map moves_of plays)
      listed_play moves f = Memᴰ.cast (sym f.moved) (Memᴰ.map moves_of (all.each_is_listed f.trace f.ending f.steps f.full))

      -- a play of such a list is full
      pub full_of : (x : Played) → Memᴰ x plays → FullPlay G (moves_of x)
      full_of (played trace e s) i = record { trace = trace; ending = e; steps = s; full = all.each_is_full trace e s i; moved = refl }

      -- what stands among the moves of such a list is a full play
      pub play_listed : (moves : List Move) → Memᴰ moves (map moves_of plays) → FullPlay G moves
      play_listed moves i = let w = Memᴰ.of_map moves_of plays i in subst (FullPlay G) w.2 (full_of w.0 w.1)

      -- such a list is without repetition, and as long as there are full plays
      pub counted_plays : Counted (FullPlay G) (length plays)
      counted_plays = record {
        those = map moves_of plays;
        no_repetition = no_repetition (map moves_of plays) all.in_order;
        holds_each = listed_play;
        holds_no_other = play_listed;
        as_many = length-map plays moves_of;
      }

pub full_plays_are_in_order : FullPlaysAreInOrder
full_plays_are_in_order G list law =
    let all = all_plays G list law in
    record {
      ascending = all.in_order;
      no_repetition = no_repetition G list law (map moves_of (full_plays G list)) all.in_order;
      counted = counted_plays G list law (full_plays G list) all;
    }
