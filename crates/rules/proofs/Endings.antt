-- Every play comes to an end without the host, where the library is never stuck.
use Rattle.std.proofs.Common.{◌≡◌, ℕ, zero, suc, ◌+◌, ◌-◌, ◌<◌, List, [], ◌∷◌, ◌++◌, refl, ◌∙◌, arith}
use Rattle.std.proofs.Math.Logic.{⊎_elim}
use mathlib.Core.Option.{Option, none, some}
use Rattle.rules.specs.Terms.{Term}
use Rattle.rules.specs.Memory.{Memory}
use Rattle.rules.specs.Game.{Game, Pending, Position, library_runs, host_turn, start, Pass, ◌⊢◌─◌⟹◌}
use Rattle.rules.specs.Game as rule
use Rattle.rules.specs.Plays.{Run, Ends, Ending, host_moves}
use Rattle.rules.specs.Plays as play
use Rattle.rules.specs.Endings.{ComesToAnEnd, PlayableComesToAnEnd}
use Rattle.rules.proofs.Counts.{within_steps}
use Rattle.rules.proofs.Begun.{playable_is_never_stuck}
use Rattle.rules.proofs.Extends.{FreeFrom, run_append}

module _ (G : Game) where
  -- a pass of the library's is no host move
  library_pass : (K : List Pending) (M : Term) (μ : Memory) (P : List ℕ) (a : Pass) (q : Position) (x : List Pass) → G ⊢ library_runs K M μ P ─ some a ⟹ q → host_moves (a ∷ x) ≡ host_moves x
  library_pass K M μ P a q x (rule.library_calls E m v θ θ' h) = refl
  library_pass K M μ P a q x (rule.library_answers m l v) = refl

  -- one step more before the end
  step_more : (K : List Pending) (M : Term) (μ : Memory) (P : List ℕ) (t : ℕ) (a : Option Pass) (q : Position) → t < G.bounds.steps → G ⊢ library_runs K M μ P ─ a ⟹ q → ComesToAnEnd G q (suc t) → ComesToAnEnd G (library_runs K M μ P) t
  step_more K M μ P t none q lt h e = record {
    trace = e.trace;
    ending = e.ending;
    steps = e.steps;
    play = record { last = e.play.last; taken = e.play.taken; run = play.inside lt h e.play.run; ends = e.play.ends };
    no_host_move = e.no_host_move;
  }
  step_more K M μ P t (some a) q lt h e = record {
    trace = a ∷ e.trace;
    ending = e.ending;
    steps = e.steps;
    play = record { last = e.play.last; taken = e.play.taken; run = play.passes lt h e.play.run; ends = e.play.ends };
    no_host_move = library_pass K M μ P a q e.trace h ∙ e.no_host_move;
  }

  -- where the play ends, it comes to an end
  at_once : (p : Position) (t : ℕ) (e : Ending) (s : ℕ) → Ends G p t e s → ComesToAnEnd G p t
  at_once p t e s h = record { trace = []; ending = e; steps = s; play = record { last = p; taken = t; run = play.stays; ends = h }; no_host_move = refl }

  -- with so many steps left, the play ends at once or after the library's next step
  comes_to_an_end : (left t : ℕ) → left + t ≡ G.bounds.steps → (p : Position) → FreeFrom G p t → ComesToAnEnd G p t
  comes_to_an_end zero t sum p free = at_once p t play.cut_by_steps t (play.out_of_steps (omega arith))
  comes_to_an_end (suc left) t sum (host_turn K l μ P) free = at_once (host_turn K l μ P) t play.turn t (play.hands_over (omega arith))
  comes_to_an_end (suc left) t sum (library_runs K M μ P) free =
      ⊎_elim (λ x. at_once (library_runs K M μ P) t x.0 x.1 x.2)
      (λ x. step_more K M μ P t x.0 x.1 (omega arith) x.2 (comes_to_an_end left (suc t) (omega arith) x.1 (onward x.0 x.1 x.2))) (free [] (library_runs K M μ P) t play.stays)
    where
      onward : (a : Option Pass) (q : Position) → G ⊢ library_runs K M μ P ─ a ⟹ q → FreeFrom G q (suc t)
      onward none q h tr r u run = free tr r u (play.inside (omega arith) h run)
      onward (some a) q h tr r u run = free (a ∷ tr) r u (play.passes (omega arith) h run)

pub playable_comes_to_an_end : PlayableComesToAnEnd
playable_comes_to_an_end G playable trace p t run =
    let within = within_steps G _ _ 0 t trace (omega arith) run in
    comes_to_an_end G (G.bounds.steps - t) t (omega arith) p (λ tr q u more. playable_is_never_stuck G playable (trace ++ tr) q u (run_append G _ _ _ _ _ _ _ _ run more))
