-- Plays worked through, computed from the definitions. Assumes nothing.
use Rattle.std.specs.Prelude.{◌≡◌, ℕ, true, false, T, List, [], ◌∷◌, ℤ, pos, negsuc, codes, nat_le}
use Rattle.std.proofs.Common.{leb→le}
use Rattle.arithmetic.specs.Meaning.{Meaning, WordList}
use Rattle.arithmetic.specs.Kinds.{word_meaning, counter_meaning, ascending}
use Rattle.bounds.specs.declared.limits.Bounds.{Bounds}
use Rattle.rows.specs.declared.forms.Row.{Row}
use Rattle.rows.specs.Printing.{row_lines}
use Rattle.rules.specs.Terms.{Value, unit, word, name, pair}
use Rattle.rules.specs.Game.{Game, Pass, host_call, host_answer, library_call, library_answer}
use Rattle.rules.specs.Plays.{failed, cut_by_depth, cut_by_steps, turn}
use Rattle.rules.specs.Enumeration.{Played, played, full_plays}
use Rattle.rules.specs.Verdicts.{Verdict, lost, safe, verdict}
use Rattle.rules.specs.Listings.{listing}
use Rattle.rules.specs.Libraries.{lines, asserts_and_calls_out, asserts_and_calls_out_text, adds_and_subtracts, adds_and_subtracts_text, empty, hands_out_a_function, hands_out_a_function_text, keeps_a_function, keeps_a_function_text, takes_four_leaves, takes_four_leaves_text, calls_out, calls_out_text}

-- bounds of a depth, an insistence and a number of steps, which are tested to be within their limits
abbrev pub Tested : ℕ → ℕ → ℕ → Type 0
Tested depth insistence steps = T (nat_le depth 16) × T (nat_le insistence 8) × T (nat_le 1 steps) × T (nat_le steps 2048)

abbrev pub bounds : (depth insistence steps : ℕ) → Tested depth insistence steps → Bounds
bounds depth insistence steps tested = record {
  depth = depth;
  insistence = insistence;
  steps = steps;
  depth_limit = leb→le depth 16 tested.0;
  insistence_limit = leb→le insistence 8 tested.1;
  steps_limit = (leb→le 1 steps tested.2, leb→le steps 2048 tested.3);
}

-- the answer to such a test, where it holds
abbrev pub within : Unit {0} × Unit {0} × Unit {0} × Unit {0}
within = (tt, tt, tt, tt)

-- the game over words of which the host says lo to hi, and over a counter up to top of which it says lo to hi
abbrev pub words_game : ℤ → ℤ → List Row → Bounds → Game
words_game lo hi rows bounds = record { rows = rows; meaning = word_meaning lo hi; bounds = bounds }

abbrev pub counter_game : ℕ → ℤ → ℤ → List Row → Bounds → Game
counter_game top lo hi rows bounds = record { rows = rows; meaning = counter_meaning top lo hi; bounds = bounds }

-- the verdict on each, and the full plays of the first
abbrev pub over_words : ℤ → ℤ → List Row → Bounds → Verdict
over_words lo hi rows bounds = verdict (words_game lo hi rows bounds) (ascending lo hi)

abbrev pub plays_over_words : ℤ → ℤ → List Row → Bounds → List Played
plays_over_words lo hi rows bounds = full_plays (words_game lo hi rows bounds) (ascending lo hi)

abbrev pub over_counter : ℕ → ℤ → ℤ → List Row → Bounds → Verdict
over_counter top lo hi rows bounds = verdict (counter_game top lo hi rows bounds) (ascending lo hi)

-- the play in which the host calls again from inside the call that the library makes
abbrev pub call_inside : List Pass
call_inside = host_call 1 unit ∷ library_call 0 unit ∷ host_call 1 unit ∷ []

-- a value of four leaves: a word, a function, a word and unit; and the play that calls with it and is answered it
abbrev pub four_leaves_value : ℤ → ℕ → ℤ → Value
four_leaves_value i m j = pair (pair (word i) (name m)) (pair (word j) unit)

abbrev pub four_leaves_play : ℤ → ℤ → Played
four_leaves_play i j = played (host_call 0 (four_leaves_value i 1 j) ∷ library_answer 0 (four_leaves_value i 1 j) ∷ []) turn 4

-- the rows of the libraries are those that their texts spell
pub record Spelled : Type 0 where
  pub asserts_and_calls_out_spelled : row_lines asserts_and_calls_out ≡ asserts_and_calls_out_text
  pub adds_and_subtracts_spelled : row_lines adds_and_subtracts ≡ adds_and_subtracts_text
  pub hands_out_a_function_spelled : row_lines hands_out_a_function ≡ hands_out_a_function_text
  pub keeps_a_function_spelled : row_lines keeps_a_function ≡ keeps_a_function_text
  pub takes_four_leaves_spelled : row_lines takes_four_leaves ≡ takes_four_leaves_text
  pub calls_out_spelled : row_lines calls_out ≡ calls_out_text

-- bounds are written as depth, insistence and steps; after a verdict stand how many plays were tried, the mark of depth, and
-- the mark of steps
pub record Worked : Type 0 where
  -- the library that asserts, clears and calls out, where the host says only 0
  pub call_inside_loses : over_words (pos 0) (pos 0) asserts_and_calls_out (bounds 2 1 64 within) ≡ lost call_inside 12 1 false false
  pub loses_at_the_last_step : over_words (pos 0) (pos 0) asserts_and_calls_out (bounds 2 1 12 within) ≡ lost call_inside 12 1 false false
  pub one_step_too_few : over_words (pos 0) (pos 0) asserts_and_calls_out (bounds 2 1 11 within) ≡ safe 2 false true
  pub one_body_too_few : over_words (pos 0) (pos 0) asserts_and_calls_out (bounds 1 1 64 within) ≡ safe 2 true false
  pub no_call_allowed : over_words (pos 0) (pos 0) asserts_and_calls_out (bounds 2 0 64 within) ≡ safe 1 false false
  pub no_body_allowed : over_words (pos 0) (pos 0) asserts_and_calls_out (bounds 0 1 64 within) ≡ safe 1 true false
  pub steps_before_depth : over_words (pos 0) (pos 0) asserts_and_calls_out (bounds 0 1 1 within) ≡ safe 1 false true
  -- the library that adds and subtracts
  pub words_come_back : over_words (negsuc 0) (pos 1) adds_and_subtracts (bounds 1 1 64 within) ≡ safe 3 false false
  pub counter_stops_at_its_top : over_counter 3 (pos 0) (pos 3) adds_and_subtracts (bounds 1 1 64 within) ≡ lost (host_call 0 (word (pos 3)) ∷ []) 6 4 false false
  pub library_answers : plays_over_words (pos 0) (pos 0) adds_and_subtracts (bounds 1 1 64 within) ≡ played (host_call 0 (word (pos 0)) ∷ library_answer 0 unit ∷ []) turn 8 ∷ []
  -- the empty library, over every arithmetic and at all bounds
  pub empty_is_safe : (meaning : Meaning) (list : WordList) (bounds : Bounds) → verdict (record { rows = empty; meaning = meaning; bounds = bounds }) list ≡ safe 1 false false
  -- a function made by the library, shown, and called by the host later
  pub made_name_is_called :
      plays_over_words (pos 0) (pos 0) hands_out_a_function (bounds 1 2 64 within) ≡
      played (host_call 0 unit ∷ library_answer 0 (name 1) ∷ host_call 0 unit ∷ library_answer 0 (name 2) ∷ []) turn 10
      ∷ played (host_call 0 unit ∷ library_answer 0 (name 1) ∷ host_call 1 unit ∷ library_answer 1 (word (pos 5)) ∷ []) turn 9
      ∷ []
  -- a function of the host's kept in a global and called later; at first the global holds a function of the library's own
  pub kept_name_is_called :
      plays_over_words (pos 0) (pos 0) keeps_a_function (bounds 1 2 64 within) ≡
      played (host_call 0 (name 3) ∷ library_answer 0 unit ∷ host_call 0 (name 4) ∷ library_answer 0 unit ∷ []) turn 10
      ∷ played (host_call 0 (name 3) ∷ library_answer 0 unit ∷ host_call 1 unit ∷ library_call 3 unit ∷ host_call 0 (name 4) ∷ []) cut_by_depth 10
      ∷ played (host_call 0 (name 3) ∷ library_answer 0 unit ∷ host_call 1 unit ∷ library_call 3 unit ∷ host_call 1 unit ∷ []) cut_by_depth 10
      ∷ played (host_call 0 (name 3) ∷ library_answer 0 unit ∷ host_call 1 unit ∷ library_call 3 unit ∷ host_answer 3 unit ∷ library_answer 1 unit ∷ []) turn 12
      ∷ played (host_call 1 unit ∷ []) cut_by_depth 3
      ∷ []
  -- a pair of four leaves: the left leaf is the heaviest, and a host name that comes back is not shown
  pub four_leaves :
      plays_over_words (pos 0) (pos 1) takes_four_leaves (bounds 1 1 64 within) ≡
      four_leaves_play (pos 0) (pos 0) ∷ four_leaves_play (pos 0) (pos 1) ∷ four_leaves_play (pos 1) (pos 0) ∷ four_leaves_play (pos 1) (pos 1) ∷ []
  pub host_name_is_not_shown :
      plays_over_words (pos 0) (pos 0) takes_four_leaves (bounds 1 2 64 within) ≡
      played (host_call 0 (four_leaves_value (pos 0) 1 (pos 0)) ∷ library_answer 0 (four_leaves_value (pos 0) 1 (pos 0)) ∷ host_call 0 (four_leaves_value (pos 0) 2 (pos 0)) ∷ library_answer 0 (four_leaves_value (pos 0) 2 (pos 0)) ∷ []) turn 8
      ∷ []
  -- an insistence of 2 at two levels
  pub insistence_is_counted_at_each_level : over_words (pos 0) (pos 0) calls_out (bounds 2 2 64 within) ≡ safe 17 true false
  -- listings
  pub losing_listing :
      listing call_inside failed 12 ≡
      lines (codes "H,call,m1,u L,call,m0,u H,call,m1,u end,failed,12 ")
  pub listing_of_leaves :
      listing (host_call 0 (four_leaves_value (negsuc 6) 1 (pos 10)) ∷ library_answer 0 (four_leaves_value (negsuc 6) 1 (pos 10)) ∷ []) turn 4 ≡
      lines (codes "H,call,m0,-7,m1,10,u L,ret,m0,-7,m1,10,u end,turn,4 ")
  -- the step that hands the turn to the host is the last one allowed
  pub cut_at_the_turn : plays_over_words (pos 0) (pos 0) calls_out (bounds 1 1 3 within) ≡ played (host_call 1 unit ∷ library_call 0 unit ∷ []) cut_by_steps 3 ∷ []
