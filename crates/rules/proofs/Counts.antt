-- How many host moves a play has; a losing play is full.
use Rattle.std.proofs.Common.{ℕ, suc, ◌+◌, ◌≤◌, List, ◌∷◌, length, ap, arith}
use Rattle.rules.specs.Game.{Game, Position, Pass, host_call, host_answer, library_call, library_answer}
use Rattle.rules.specs.Plays.{Run, Ending, failed, turn, Move, host_moves, Play, LosingPlay, FullPlay}
use Rattle.rules.specs.Plays as play
use Rattle.rules.specs.Laws.{AtMostStepsMoves, LosingIsFull}

one_pass : (a : Pass) (trace : List Pass) → length (host_moves (a ∷ trace)) ≤ suc (length (host_moves trace))
one_pass (host_call m v) trace = omega arith
one_pass (host_answer m v) trace = omega arith
one_pass (library_call m v) trace = omega arith
one_pass (library_answer m v) trace = omega arith

module _ (G : Game) where
  counted : (p q : Position) (t u : ℕ) (trace : List Pass) → Run G p t trace q u → length (host_moves trace) + t ≤ u
  counted p q t u trace play.stays = omega arith
  counted p q t u trace (play.inside {q = r} lt h run) = let x = counted r q (suc t) u trace run in omega arith
  counted p q t u trace (play.passes {q = r} {a = a} {trace = rest} lt h run) =
      let x = counted r q (suc t) u rest run in
      let y = one_pass a rest in
      omega arith

  pub within_steps : (p q : Position) (t u : ℕ) (trace : List Pass) → t ≤ G.bounds.steps → Run G p t trace q u → u ≤ G.bounds.steps
  within_steps p q t u trace le play.stays = le
  within_steps p q t u trace le (play.inside {q = r} lt h run) = within_steps r q (suc t) u trace lt run
  within_steps p q t u trace le (play.passes {q = r} {trace = rest} lt h run) = within_steps r q (suc t) u rest lt run

pub at_most_steps_moves : AtMostStepsMoves
at_most_steps_moves G moves x =
    let a = counted G _ _ 0 _ _ x.play.run in
    let b = within_steps G _ _ 0 _ _ (omega arith) x.play.run in
    let c = ap length x.moved in
    omega arith

pub losing_is_full : LosingIsFull
losing_is_full G moves x = record {
  trace = x.play.trace;
  ending = x.play.ending;
  steps = x.play.steps;
  full = record { play = x.play.play; no_more = λ d. cc };
  moved = x.play.moved;
}
