-- The order of plays goes one way only: no play comes before one that comes before it.
use Rattle.std.proofs.Common.{◌≡◌, ℕ, suc, List, [], ◌∷◌, ◌++◌, ℤ, sym, refl, ap, ◌∙◌, arith}
use mathlib.Core.List.{Memᴰ}
use Rattle.arithmetic.specs.Meaning.{WordList, Listed}
use Rattle.rules.specs.Memory.{Memory}
use Rattle.rules.specs.Game.{Game, Pending, Position, host_turn, Pass}
use Rattle.rules.specs.Plays.{Run, Move, call, answer, host_moves}
use Rattle.rules.specs.Plays as play
use Rattle.rules.specs.Order.{StandsBefore, WordsBefore, Ahead, Before}
use Rattle.rules.specs.Order as order
use Rattle.rules.specs.Ranges.{OrderGoesOneWay}
use Rattle.rules.proofs.Determined.{cancel, one_pass, one_inside, inside_no_pass, pass_moves}
use Rattle.rules.proofs.Distinct.{Distinct, public_distinct, run_distinct, ahead_apart}

-- a number behind another stands in the list
stands_behind : (m n : ℕ) (P : List ℕ) → StandsBefore m n P → Memᴰ n P
stands_behind m n P (order.here e i) = Memᴰ.tail i
stands_behind m n P (order.later s) = Memᴰ.tail (stands_behind m n _ s)

-- of two numbers of a list without repetition, not each stands before the other
stands_one_way : (m n : ℕ) (P : List ℕ) → Distinct P → StandsBefore m n P → StandsBefore n m P → ⊥
stands_one_way m n P once (order.here e i) (order.here d j) = once m n (order.here e i) (cc)
stands_one_way m n P once (order.here e i) (order.later s) = once m m (order.here e (stands_behind n m _ s)) refl
stands_one_way m n P once (order.later s) (order.here d j) = once n n (order.here d (stands_behind m n _ s)) refl
stands_one_way m n P once (order.later s) (order.later r) = stands_one_way m n _ (λ a b x e. once a b (order.later x) e) s r

module _ (G : Game) where
  -- two runs with the same host moves that lead to the host's turn lead to the same one
  same_turn : (p : Position) (K K' : List Pending) (l l' : ℕ) (μ μ' : Memory) (P P' : List ℕ) (t u u' : ℕ) (x x' : List Pass) → Run G p t x (host_turn K l μ P) u → Run G p t x' (host_turn K' l' μ' P') u' → host_moves x ≡ host_moves x' → P ≡ P'
  same_turn p K K' l l' μ μ' P P' t u u' x x' play.stays play.stays e = refl
  same_turn p K K' l l' μ μ' P P' t u u' x x' play.stays (play.inside {q = r} lt h run) e = elim h [ ]
  same_turn p K K' l l' μ μ' P P' t u u' x x' play.stays (play.passes {q = r} {a = a} {trace = y} lt h run) e = absurd (pass_moves G K l μ P r a y h e)
  same_turn p K K' l l' μ μ' P P' t u u' x x' (play.inside {q = r} lt h run) play.stays e = elim h [ ]
  same_turn p K K' l l' μ μ' P P' t u u' x x' (play.passes {q = r} {a = a} {trace = y} lt h run) play.stays e = absurd (pass_moves G K' l' μ' P' r a y h (sym e))
  same_turn p K K' l l' μ μ' P P' t u u' x x' (play.inside {q = r} lt h run) (play.inside {q = r'} lt' h' run') e =
      same_turn r K K' l l' μ μ' P P' (suc t) u u' x x' run (rw (one_inside G p r' r h' h) at run') e
  same_turn p K K' l l' μ μ' P P' t u u' x x' (play.inside {q = r} lt h run) (play.passes {q = r'} {a = a} lt' h' run') e = absurd (inside_no_pass G p r r' a h h')
  same_turn p K K' l l' μ μ' P P' t u u' x x' (play.passes {q = r} {a = a} lt h run) (play.inside {q = r'} lt' h' run') e = absurd (inside_no_pass G p r' r a h' h)
  same_turn p K K' l l' μ μ' P P' t u u' x x' (play.passes {q = r} {a = a} {trace = y} lt h run) (play.passes {q = r'} {a = a'} {trace = y'} lt' h' run') e =
      let one = one_pass G p r r' a a' y y' h h' e in
      same_turn r K K' l l' μ μ' P P' (suc t) u u' y y' run (rw (← one.1) at run')
      (cancel a y y' (e ∙ ap (λ z. host_moves (z ∷ y')) (sym one.0)))

-- two lists first differ at one place
first_difference : (u v : List Move) (a b c d : Move) (p q r s : List Move) → u ++ (a ∷ p) ≡ v ++ (c ∷ r) → u ++ (b ∷ q) ≡ v ++ (d ∷ s) → (a ≡ b → ⊥) → (c ≡ d → ⊥) → (u ≡ v) × (a ≡ c) × (b ≡ d)
first_difference [] [] a b c d p q r s x y f g = (refl, cc, cc)
first_difference [] (m ∷ v) a b c d p q r s x y f g = absurd (f (cc))
first_difference (m ∷ u) [] a b c d p q r s x y f g = absurd (g (cc))
first_difference (m ∷ u) (n ∷ v) a b c d p q r s x y f g =
    let w = first_difference u v a b c d p q r s (cc) (cc) f g in
    (cc, w.1, w.2)

module _ (G : Game) (list : WordList) (law : Listed G.meaning list) where
  -- of two values, not each comes before the other by its words
  words_one_way : (vs ws : List ℤ) → WordsBefore list vs ws → WordsBefore list ws vs → ⊥
  words_one_way vs ws (order.differ p q lt b d e) (order.differ p' q' lt' b' d' e') =
      let x = law.once p q' (omega arith) b' (cc) in
      let y = law.once q p' b (omega arith) (cc) in
      omega arith
  words_one_way vs ws (order.differ p q lt b d e) (order.agree same h) = let x = law.once p q (omega arith) b (cc) in omega arith
  words_one_way vs ws (order.agree same h) (order.differ p q lt b d e) = let x = law.once p q (omega arith) b (cc) in omega arith
  words_one_way vs ws (order.agree same h) (order.agree other k) = words_one_way _ _ h k

  -- of two moves, not each is ahead of the other
  ahead_one_way : (P : List ℕ) (m n : Move) → Distinct P → Ahead list P m n → Ahead list P n m → ⊥
  ahead_one_way P m n once order.call_first k = elim k [ ]
  ahead_one_way P m n once (order.shown_first {m = a} {n = b} s) (order.shown_first r) = stands_one_way a b P once s r
  ahead_one_way P m n once (order.shown_first {m = a} {n = b} s) (order.called_with e h) = once a b s (sym e)
  ahead_one_way P m n once (order.called_with e h) (order.shown_first {m = b} {n = a} r) = once b a r (sym e)
  ahead_one_way P m n once (order.called_with e h) (order.called_with d k) = words_one_way _ _ h k
  ahead_one_way P m n once (order.answered_with e h) (order.answered_with d k) = words_one_way _ _ h k

  -- of two plays, not each comes before the other
  pub before_one_way : (x y : List Move) → Before G list x y → Before G list y x → ⊥
  before_one_way x y b d =
      let once = run_distinct G _ _ _ _ _ b.run (public_distinct 0 G.rows) in
      let other = run_distinct G _ _ _ _ _ d.run (public_distinct 0 G.rows) in
      let w =
      first_difference (host_moves b.trace) (host_moves d.trace) b.first b.second d.second d.first b.after_first b.after_second d.after_second d.after_first
      (cc) (cc)
      (λ e. ahead_apart G list law b.shown b.first b.second once b.ahead e) (λ e. ahead_apart G list law d.shown d.first d.second other d.ahead (sym e))
      in
      let P = same_turn G _ _ _ _ _ _ _ _ _ 0 _ _ b.trace d.trace b.run d.run w.0 in
      ahead_one_way b.shown b.first b.second once b.ahead
      (rw (← w.1, ← w.2, ← P) at d.ahead)

pub order_goes_one_way : OrderGoesOneWay
order_goes_one_way = before_one_way
