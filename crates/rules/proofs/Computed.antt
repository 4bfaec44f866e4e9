-- The worked plays, by computation.
use Rattle.std.proofs.Common.{◌≡◌, ℕ, zero, suc, ◌≤◌, Bool, true, false, ltb, List, [], ◌++◌, refl, arith}
use Rattle.std.specs.Fmt.{digits}
use Rattle.std.specs.Int.{int_wrap}
use Rattle.arithmetic.specs.Meaning.{WordList}
use Rattle.rules.specs.Enumeration.{at_turn, where_true, plays_from, Played}
use Rattle.rules.specs.Game.{Game, Position, start}
use Rattle.rules.specs.Verdicts.{tried, safe}
use Rattle.rules.specs.Libraries.{empty}
use Rattle.rules.specs.Worked.{Spelled, Worked}

-- without a call and an answer the host has no move, whether or not its insistence is spent
no_move : (plays : Position → List Played) (spent : Bool) → tried (at_turn plays 0 (where_true spent [] ++ [])) 0 false false ≡ safe 1 false false
no_move plays true = refl
no_move plays false = refl

empty_safe : (G : Game) (list : WordList) → G.rows ≡ empty → (steps : ℕ) → 1 ≤ steps → tried (plays_from G list steps 0 (start (record { rows = empty; meaning = G.meaning; bounds = G.bounds }))) 0 false false ≡ safe 1 false false
empty_safe G list e zero h = absurd (omega arith)
empty_safe G list e (suc steps) h = no_move _ (ltb 0 G.bounds.insistence)

pub spelled : Spelled
unfolding digits
spelled = record {
  asserts_and_calls_out_spelled = refl;
  adds_and_subtracts_spelled = refl;
  hands_out_a_function_spelled = refl;
  keeps_a_function_spelled = refl;
  takes_four_leaves_spelled = refl;
  calls_out_spelled = refl;
}

pub worked : Worked
unfolding digits int_wrap
worked = record {
  call_inside_loses = refl;
  loses_at_the_last_step = refl;
  one_step_too_few = refl;
  one_body_too_few = refl;
  no_call_allowed = refl;
  no_body_allowed = refl;
  steps_before_depth = refl;
  words_come_back = refl;
  counter_stops_at_its_top = refl;
  library_answers = refl;
  empty_is_safe = λ meaning list bounds. empty_safe (record { rows = empty; meaning = meaning; bounds = bounds }) list refl bounds.steps bounds.steps_limit.0;
  made_name_is_called = refl;
  kept_name_is_called = refl;
  four_leaves = refl;
  host_name_is_not_shown = refl;
  insistence_is_counted_at_each_level = refl;
  losing_listing = refl;
  listing_of_leaves = refl;
  cut_at_the_turn = refl;
}
