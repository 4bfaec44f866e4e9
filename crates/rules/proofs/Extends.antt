-- Every play extends to a full play, where the library is never stuck.
use Rattle.std.proofs.Common.{◌≡◌, ℕ, zero, suc, ◌+◌, ◌-◌, ◌<◌, ◌≤◌, List, [], ◌∷◌, ◌++◌, sym, refl, ap, ◌∙◌, subst, inl, inr, arith}
use mathlib.Core.List.Memᴰ
use mathlib.Core.List.{Memᴰ}
use mathlib.Core.Option.{Option, none, some}
use Rattle.arithmetic.specs.Meaning.{WordList, Listed}
use Rattle.rules.specs.Memory.{Memory}
use Rattle.rules.specs.Game.{Game, Pending, Position, library_runs, host_turn, Pass, host_call, host_answer, library_call, library_answer, ◌⊢◌─◌⟹◌}
use Rattle.rules.specs.Plays.{Run, Ends, Ending, Move, call, answer, words, four, host_moves, Play, FullPlay, FullFrom}
use Rattle.rules.specs.Plays as play
use Rattle.rules.specs.Enumeration.{Next, goes_on, hands, fails, deep, no_step, library_next, Reply, reply, replies, Played, played, after, after_each, after_next, at_turn, plays_from}
use Rattle.rules.specs.Laws.{GoesOn, NeverStuck, PlaysExtend}
use Rattle.rules.proofs.Listed.{only}
use Rattle.rules.proofs.Sayings.{replies_are}
use Rattle.rules.proofs.Nexts.{did, NextIs, step_next, fails_next, deep_next, IsSo, next_so}
use Rattle.rules.proofs.Counts.{within_steps}
use Rattle.rules.proofs.Begun.{playable_is_never_stuck}

pub run_append : (G : Game) (p q r : Position) (t u w : ℕ) (x y : List Pass) → Run G p t x q u → Run G q u y r w → Run G p t (x ++ y) r w
run_append G p q r t u w x y play.stays k = k
run_append G p q r t u w x y (play.inside {q = s} lt h run) k = play.inside lt h (run_append G s q r (suc t) u w x y run k)
run_append G p q r t u w x y (play.passes {q = s} {trace = rest} lt h run) k = play.passes lt h (run_append G s q r (suc t) u w rest y run k)

moves_append : (x y : List Pass) → host_moves (x ++ y) ≡ host_moves x ++ host_moves y
moves_append [] y = refl
moves_append (host_call m v ∷ x) y = ap (λ z. call m (four (words v)) ∷ z) (moves_append x y)
moves_append (host_answer m v ∷ x) y = ap (λ z. answer m (four (words v)) ∷ z) (moves_append x y)
moves_append (library_call m v ∷ x) y = moves_append x y
moves_append (library_answer m v ∷ x) y = moves_append x y

-- what the library does next at a position that is not stuck
abbrev NextSome : Next → Type 0
NextSome no_step = ⊥
NextSome n = Unit {0}

did_some : (a : Option Pass) (q : Position) → NextSome (did a q)
did_some none q = tt
did_some (some a) q = tt

module _ (G : Game) where
  abbrev SomeNext : Position → Type 0
  SomeNext (library_runs K M μ P) = NextSome (library_next G K M μ P)
  SomeNext (host_turn K l μ P) = Unit {0}

  is_some : (p : Position) (n : Next) → NextIs G p n → NextSome n → SomeNext p
  is_some (library_runs K M μ P) n e h = subst NextSome (sym e) h
  is_some (host_turn K l μ P) n e h = tt

  ends_some : (p : Position) (t : ℕ) (e : Ending) (s : ℕ) → t < G.bounds.steps → Ends G p t e s → SomeNext p
  ends_some p t e s lt (play.out_of_steps d) = absurd (omega arith)
  ends_some p t e s lt (play.fails _ f) = is_some p fails (fails_next G p f) tt
  ends_some p t e s lt (play.too_deep _ f) = is_some p deep (deep_next G p f) tt
  ends_some p t e s lt (play.hands_over _) = tt

  next_some : (p : Position) (t : ℕ) → t < G.bounds.steps → GoesOn G p t → SomeNext p
  next_some p t lt (inl x) = ends_some p t x.0 x.1 lt x.2
  next_some p t lt (inr x) = is_some p (did x.0 x.1) (step_next G p x.1 x.0 x.2) (did_some x.0 x.1)

  -- from a position on, nothing is stuck
  abbrev pub FreeFrom : Position → ℕ → Type 0
  FreeFrom p t = (trace : List Pass) (q : Position) (u : ℕ) → Run G p t trace q u → GoesOn G q u

  module _ (list : WordList) (law : Listed G.meaning list) where
    abbrev SomePlay : ℕ → ℕ → Position → Type 0
    SomePlay left t p = (x : Played) × Memᴰ x (plays_from G list left t p)

    by_next : (left t : ℕ) (p : Position) (n : Next) → t < G.bounds.steps → IsSo G p n → NextSome n → FreeFrom p t → ((q : Position) → FreeFrom q (suc t) → SomePlay left (suc t) q) → (x : Played) × Memᴰ x (after_next (plays_from G list left (suc t)) t n)
    by_next left t p (goes_on q) lt h s free rest = rest q (λ tr r u run. free tr r u (play.inside lt h run))
    by_next left t p (hands a q) lt h s free rest = let w = rest q (λ tr r u run. free (a ∷ tr) r u (play.passes lt h run)) in (after a w.0, Memᴰ.map (after a) w.1)
    by_next left t p fails lt h s free rest = (_, Memᴰ.head refl)
    by_next left t p deep lt h s free rest = (_, Memᴰ.head refl)
    by_next left t p no_step lt h s free rest = absurd s

    by_replies : (left t : ℕ) (K : List Pending) (l : ℕ) (μ : Memory) (P : List ℕ) (rs : List Reply) → t < G.bounds.steps → ((a : Pass) (q : Position) → Memᴰ (reply a q) rs → G ⊢ host_turn K l μ P ─ some a ⟹ q) → FreeFrom (host_turn K l μ P) t → ((q : Position) → FreeFrom q (suc t) → SomePlay left (suc t) q) → (x : Played) × Memᴰ x (at_turn (plays_from G list left (suc t)) t rs)
    by_replies left t K l μ P [] lt h free rest = (_, Memᴰ.head refl)
    by_replies left t K l μ P (reply a q ∷ rs) lt h free rest =
        let w = rest q (λ tr r u run. free (a ∷ tr) r u (play.passes lt (h a q (Memᴰ.head refl)) run)) in
        (after a w.0, Memᴰ.append_left (after_each (plays_from G list left (suc t)) rs) (Memᴰ.map (after a) w.1))

    some_play : (left t : ℕ) → left + t ≡ G.bounds.steps → (p : Position) → FreeFrom p t → SomePlay left t p
    some_play zero t sum p free = (_, Memᴰ.head refl)
    some_play (suc left) t sum (library_runs K M μ P) free =
        by_next left t (library_runs K M μ P) (library_next G K M μ P) (omega arith) (next_so G K M μ P) (next_some (library_runs K M μ P) t (omega arith) (free [] _ t play.stays)) free (some_play left (suc t) (omega arith))
    some_play (suc left) t sum (host_turn K l μ P) free =
        by_replies left t K l μ P (replies G list K l μ P) (omega arith) (replies_are G list law K l μ P) free (some_play left (suc t) (omega arith))

    extends : NeverStuck G → (moves : List Move) → Play G moves → (more : List Move) × FullPlay G (moves ++ more)
    extends never moves x = go w.0 w.1
      where
        last : Position
        last = x.play.last

        within : x.play.taken ≤ G.bounds.steps
        within = within_steps G _ _ 0 _ _ (omega arith) x.play.run

        sum : (G.bounds.steps - x.play.taken) + x.play.taken ≡ G.bounds.steps
        sum = let h = within in omega arith

        w : SomePlay (G.bounds.steps - x.play.taken) x.play.taken x.play.last
        w = some_play (G.bounds.steps - x.play.taken) x.play.taken sum x.play.last (λ tr q u run. never (x.trace ++ tr) q u (run_append G _ _ _ _ _ _ _ _ x.play.run run))

        go : (z : Played) → Memᴰ z (plays_from G list (G.bounds.steps - x.play.taken) x.play.taken x.play.last) → (more : List Move) × FullPlay G (moves ++ more)
        go (played tr e s) i =
            let f = only G list law (G.bounds.steps - x.play.taken) x.play.taken sum x.play.last tr e s i in (
              host_moves tr,
              record {
                trace = x.trace ++ tr;
                ending = e;
                steps = s;
                full = record {
                  play = record { last = f.play.last; taken = f.play.taken; run = run_append G _ _ _ _ _ _ _ _ x.play.run f.play.run; ends = f.play.ends };
                  no_more = f.no_more;
                };
                moved = moves_append x.trace tr ∙ ap (λ y. y ++ host_moves tr) x.moved;
              },
            )

pub plays_extend : PlaysExtend
plays_extend G list playable law moves x = extends G list law (playable_is_never_stuck G playable) moves x
