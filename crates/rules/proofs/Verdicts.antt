-- What trying the full plays in order comes to is how the game comes out.
use Rattle.std.proofs.Common.{◌≡◌, ℕ, zero, suc, ◌+◌, ◌<◌, Bool, true, false, ◌||◌, ◌⊎◌, List, [], ◌∷◌, ◌++◌, map, length, take, MatchBool, sym, refl, ap, ◌∙◌, subst, inl, inr, arith}
use Rattle.std.proofs.Math.Logic.{⊎_elim}
use Rattle.std.proofs.Math.Bool.{or-false}
use Rattle.std.proofs.Math.Seq.{take-append-add}
use Rattle.std.proofs.lemmas.List.{take-map}
use mathlib.Core.List.Memᴰ
use mathlib.Core.List.{Memᴰ}
use mathlib.Core.Option.{none, some}
use Rattle.arithmetic.specs.Meaning.{WordList, Listed}
use Rattle.rules.specs.Memory.{at}
use Rattle.rules.specs.Game.{Game, Pass}
use Rattle.rules.specs.Plays.{Ending, failed, cut_by_depth, cut_by_steps, turn, Move, host_moves, Play, FullPlay, LosingPlay}
use Rattle.rules.specs.Enumeration.{Played, played, moves_of, full_plays}
use Rattle.rules.specs.Verdicts.{Verdict, lost, safe, tried, verdict}
use Rattle.rules.specs.Order.{Before, Counted}
use Rattle.rules.specs.Ranges.{FullInRange, AllPlays}
use Rattle.rules.specs.Outcomes.{SomeCut, TriedWith, Safe, Lost, ComesOut, GamesComeOut, Told, VerdictIsRight}
use Rattle.rules.specs.Outcomes as outcome
use Rattle.rules.proofs.Ordered.{all_plays}
use Rattle.rules.proofs.Distinct.{listed_play, full_of}
use Rattle.rules.proofs.Counts.{losing_is_full}
use Rattle.rules.proofs.Determined.{moves_determine_the_play}
use Rattle.rules.proofs.Places.{place, at_here, at_map}
use Rattle.rules.proofs.Ranges.{before_at, in_range, range_in, full_plays_are_counted}

-- whether an ending is a cut by depth
abbrev by_depth : Ending → Bool
by_depth cut_by_depth = true
by_depth ending = false

-- whether an ending is a cut by steps
abbrev by_steps : Ending → Bool
by_steps cut_by_steps = true
by_steps ending = false

-- how a play of a list ends
abbrev ending_of : Played → Ending
ending_of (played trace ending steps) = ending

-- whether a play of a list has such an ending
abbrev some_so : (Ending → Bool) → List Played → Bool
some_so so [] = false
some_so so (x ∷ plays) = so (ending_of x) || some_so so plays

-- none of the plays has failed
abbrev NoneFailed : List Played → Type 0
NoneFailed plays = (x : Played) → Memᴰ x plays → ending_of x ≡ failed → ⊥

-- with a play that has not failed, still none has failed
one_more : (x : Played) (plays : List Played) → (ending_of x ≡ failed → ⊥) → NoneFailed plays → NoneFailed (x ∷ plays)
one_more x plays here rest y (Memᴰ.head e) d = here (cc)
one_more x plays here rest y (Memᴰ.tail i) d = rest y i d

-- trying the plays, after n and with the marks so far, comes to safe with this count and these marks
record FoundSafe (plays : List Played) (n : ℕ) (d s : Bool) (m : ℕ) (e t : Bool) : Type 0 where
  pub none_failed : NoneFailed plays
  pub as_many : m ≡ n + length plays
  pub depth_is : e ≡ d || some_so by_depth plays
  pub steps_is : t ≡ s || some_so by_steps plays

-- it comes to lost with what passes in a play, its steps, this count and these marks
record FoundLost (plays : List Played) (n : ℕ) (d s : Bool) (trace : List Pass) (steps m : ℕ) (e t : Bool) : Type 0 where
  pub before : List Played
  pub after : List Played
  pub parts : plays ≡ before ++ (played trace failed steps ∷ after)
  pub none_failed : NoneFailed before
  pub as_many : m ≡ suc (n + length before)
  pub depth_is : e ≡ d || some_so by_depth before
  pub steps_is : t ≡ s || some_so by_steps before

-- one more play before those that come to safe, by what it does to the marks
safe_more : (x : Played) (plays : List Played) (n : ℕ) (d d' s s' : Bool) (m : ℕ) (e t : Bool) → (ending_of x ≡ failed → ⊥) → ((b : Bool) → d' || b ≡ d || (by_depth (ending_of x) || b)) → ((b : Bool) → s' || b ≡ s || (by_steps (ending_of x) || b)) → FoundSafe plays (suc n) d' s' m e t → FoundSafe (x ∷ plays) n d s m e t
safe_more x plays n d d' s s' m e t here p q h = record {
  none_failed = one_more x plays here h.none_failed;
  as_many = omega arith;
  depth_is = h.depth_is ∙ p (some_so by_depth plays);
  steps_is = h.steps_is ∙ q (some_so by_steps plays);
}

-- one more play before those that come to lost, by what it does to the marks
lost_more : (x : Played) (plays : List Played) (n : ℕ) (d d' s s' : Bool) (trace : List Pass) (steps m : ℕ) (e t : Bool) → (ending_of x ≡ failed → ⊥) → ((b : Bool) → d' || b ≡ d || (by_depth (ending_of x) || b)) → ((b : Bool) → s' || b ≡ s || (by_steps (ending_of x) || b)) → FoundLost plays (suc n) d' s' trace steps m e t → FoundLost (x ∷ plays) n d s trace steps m e t
lost_more x plays n d d' s s' trace steps m e t here p q h = record {
  before = x ∷ h.before;
  after = h.after;
  parts = cc;
  none_failed = one_more x h.before here h.none_failed;
  as_many = omega arith;
  depth_is = h.depth_is ∙ p (some_so by_depth h.before);
  steps_is = h.steps_is ∙ q (some_so by_steps h.before);
}

-- a mark that is set stays set
marks_depth : (d b : Bool) → true || b ≡ d || (true || b)
marks_depth true b = refl
marks_depth false b = refl

-- no other ending is a failed one
apart : (e : Ending) → (e ≡ cut_by_depth) ⊎ ((e ≡ cut_by_steps) ⊎ (e ≡ turn)) → e ≡ failed → ⊥
apart e (inl h) k = cc
apart e (inr (inl h)) k = cc
apart e (inr (inr h)) k = cc

-- where trying comes to safe, the plays tell so
found_safe : (plays : List Played) (n : ℕ) (d s : Bool) (m : ℕ) (e t : Bool) → tried plays n d s ≡ safe m e t → FoundSafe plays n d s m e t
found_safe [] n d s m e t h =
    let x : n ≡ m = cc in
    let y : d ≡ e = cc in
    let z : s ≡ t = cc in
    record { none_failed = λ p i. elim i [ ]; as_many = omega arith; depth_is = sym y ∙ sym (or-false d); steps_is = sym z ∙ sym (or-false s) }
found_safe (played trace failed steps ∷ plays) n d s m e t h = cc
found_safe (played trace cut_by_depth steps ∷ plays) n d s m e t h =
    safe_more (played trace cut_by_depth steps) plays n d true s s m e t (apart cut_by_depth (inl refl)) (marks_depth d) (λ b. refl) (found_safe plays (suc n) true s m e t h)
found_safe (played trace cut_by_steps steps ∷ plays) n d s m e t h =
    safe_more (played trace cut_by_steps steps) plays n d d s true m e t (apart cut_by_steps (inr (inl refl))) (λ b. refl) (marks_depth s) (found_safe plays (suc n) d true m e t h)
found_safe (played trace turn steps ∷ plays) n d s m e t h =
    safe_more (played trace turn steps) plays n d d s s m e t (apart turn (inr (inr refl))) (λ b. refl) (λ b. refl) (found_safe plays (suc n) d s m e t h)

-- where trying comes to lost, the plays tell so
found_lost : (plays : List Played) (n : ℕ) (d s : Bool) (trace : List Pass) (steps m : ℕ) (e t : Bool) → tried plays n d s ≡ lost trace steps m e t → FoundLost plays n d s trace steps m e t
found_lost [] n d s trace steps m e t h = cc
found_lost (played trace' failed steps' ∷ plays) n d s trace steps m e t h =
    let b : steps' ≡ steps = cc in
    let c : suc n ≡ m = cc in
    let y : d ≡ e = cc in
    let z : s ≡ t = cc in
    record {
      before = [];
      after = plays;
      parts = cc;
      none_failed = λ p i. elim i [ ];
      as_many = omega arith;
      depth_is = sym y ∙ sym (or-false d);
      steps_is = sym z ∙ sym (or-false s);
    }
found_lost (played trace' cut_by_depth steps' ∷ plays) n d s trace steps m e t h =
    lost_more (played trace' cut_by_depth steps') plays n d true s s trace steps m e t (apart cut_by_depth (inl refl)) (marks_depth d) (λ b. refl) (found_lost plays (suc n) true s trace steps m e t h)
found_lost (played trace' cut_by_steps steps' ∷ plays) n d s trace steps m e t h =
    lost_more (played trace' cut_by_steps steps') plays n d d s true trace steps m e t (apart cut_by_steps (inr (inl refl))) (λ b. refl) (marks_depth s) (found_lost plays (suc n) d true trace steps m e t h)
found_lost (played trace' turn steps' ∷ plays) n d s trace steps m e t h =
    lost_more (played trace' turn steps') plays n d d s s trace steps m e t (apart turn (inr (inr refl))) (λ b. refl) (λ b. refl) (found_lost plays (suc n) d s trace steps m e t h)

-- where a list has some play with such an ending, this is one
some_found : (so : Ending → Bool) (plays : List Played) → some_so so plays ≡ true → (x : Played) × Memᴰ x plays × (so (ending_of x) ≡ true)
some_found so [] e = cc
some_found so (x ∷ plays) e = go (so (ending_of x)) refl e (some_found so plays)
  where
    go : (b : Bool) → so (ending_of x) ≡ b → (b || some_so so plays) ≡ true → (some_so so plays ≡ true → (y : Played) × Memᴰ y plays × (so (ending_of y) ≡ true)) → (y : Played) × Memᴰ y (x ∷ plays) × (so (ending_of y) ≡ true)
    go true d h more = (x, Memᴰ.head refl, d)
    go false d h more = let w = more h in (w.0, Memᴰ.tail w.1, w.2)

-- a play with such an ending is some play of the list
found_some : (so : Ending → Bool) (plays : List Played) (x : Played) → Memᴰ x plays → so (ending_of x) ≡ true → some_so so plays ≡ true
found_some so [] x i e = elim i [ ]
found_some so (y ∷ plays) x (Memᴰ.head d) e = cc
found_some so (y ∷ plays) x (Memᴰ.tail i) e = go (so (ending_of y)) (found_some so plays x i e)
  where
    go : (b : Bool) → some_so so plays ≡ true → (b || some_so so plays) ≡ true
    go true h = refl
    go false h = h

-- a play with another ending behind the list changes nothing
some_append : (so : Ending → Bool) (xs : List Played) (trace : List Pass) (e : Ending) (steps : ℕ) → so e ≡ false → some_so so (xs ++ (played trace e steps ∷ [])) ≡ some_so so xs
some_append so [] trace e steps h = cc
some_append so (x ∷ xs) trace e steps h = ap (λ (b : Bool). so (ending_of x) || b) (some_append so xs trace e steps h)

-- only one ending is a cut by depth
is_depth : (e : Ending) → by_depth e ≡ true → e ≡ cut_by_depth
is_depth cut_by_depth h = refl
is_depth ending h = cc

-- only one ending is a cut by steps
is_steps : (e : Ending) → by_steps e ≡ true → e ≡ cut_by_steps
is_steps cut_by_steps h = refl
is_steps ending h = cc

module _ (G : Game) (list : WordList) (law : Listed G.meaning list) (plays : List Played) (all : AllPlays G list plays) where
  -- a listed play, by its moves
  abbrev play_at : (trace : List Pass) (e : Ending) (steps : ℕ) → Memᴰ (played trace e steps) plays → Play G (host_moves trace)
  play_at trace e steps i = record { trace = trace; ending = e; steps = steps; play = (all.each_is_full trace e steps i).play; moved = refl }

  -- plays with the same moves as a listed one end as it does
  same_ending : (moves : List Move) (play : Play G moves) (x : Played) → Memᴰ x plays → moves_of x ≡ moves → play.ending ≡ ending_of x
  same_ending moves play (played trace e steps) i d =
      let other : Play G moves = record { trace = trace; ending = e; steps = steps; play = (all.each_is_full trace e steps i).play; moved = d } in
      (moves_determine_the_play G moves play other).same_ending

  -- the marks of plays that were tried
  module _ (part : List Played) (Tried : List Move → Type 0) (sub : (x : Played) → Memᴰ x part → Memᴰ x plays)
      (out : (x : Played) → Memᴰ x part → Tried (moves_of x)) (in_part : (moves : List Move) → Tried moves → Memᴰ moves (map moves_of part)) where
    -- the mark of an ending tells whether a play that was tried ends so
    marked : (so : Ending → Bool) (ending : Ending) → ((e : Ending) → so e ≡ true → e ≡ ending) → so ending ≡ true → (b : Bool) → some_so so part ≡ b → MatchBool b (SomeCut G Tried ending) (SomeCut G Tried ending → ⊥)
    marked so ending only is true e = go (some_found so part e)
      where
        go : (x : Played) × Memᴰ x part × (so (ending_of x) ≡ true) → SomeCut G Tried ending
        go w = here w.0 w.1 w.2
          where
            -- such a play is some play that was tried and ends so
            here : (x : Played) → Memᴰ x part → so (ending_of x) ≡ true → SomeCut G Tried ending
            here (played trace f steps) i h = (host_moves trace, out (played trace f steps) i, play_at trace f steps (sub (played trace f steps) i), only f h)
    marked so ending only is false e = λ c.
        let w = Memᴰ.of_map moves_of part (in_part c.0 c.1) in
        let ends = same_ending c.0 c.2 w.0 (sub w.0 w.1) w.2 in
        let found = found_some so part w.0 w.1 (cc) in
        cc

    -- the count and both marks of the plays that were tried
    tried_with : (n : ℕ) (d s : Bool) → Counted Tried n → d ≡ some_so by_depth part → s ≡ some_so by_steps part → TriedWith G Tried n d s
    tried_with n d s count x y = record {
      count = count;
      depth_mark = marked by_depth cut_by_depth is_depth refl d (sym x);
      steps_mark = marked by_steps cut_by_steps is_steps refl s (sym y);
    }

  -- a losing play is among the full plays
  losing_listed : (moves : List Move) (x : LosingPlay G moves) → Memᴰ (played x.play.trace failed x.play.steps) plays
  losing_listed moves x =
      all.each_is_listed x.play.trace failed x.play.steps
      (record { play = rw x.lost at x.play.play; no_more = λ d. cc })

  -- where trying comes to safe, the game is safe
  safe_by : (n : ℕ) (d s : Bool) → tried plays 0 false false ≡ safe n d s → Safe G n d s
  safe_by n d s e =
      let h = found_safe plays 0 false false n d s e in
      record {
        no_losing_play = λ moves x. h.none_failed _ (losing_listed moves x) refl;
        tried =
            tried_with plays (FullPlay G) (λ x i. i) (full_of G list law plays all) (listed_play G list law plays all) n d s
            (let k : length plays ≡ n = omega arith in subst (Counted (FullPlay G)) k (full_plays_are_counted G list law plays all).counted) h.depth_is h.steps_is;
      }

  module _ (trace : List Pass) (steps n : ℕ) (d s : Bool) (h : FoundLost plays 0 false false trace steps n d s) where
    -- the losing play is among the plays
    here : Memᴰ (played trace failed steps) plays
    here = rw h.parts (Memᴰ.append_right h.before (Memᴰ.head refl))

    -- its place
    abbrev j : ℕ
    j = length h.before

    -- its moves stand at its place
    at_j : at (map moves_of plays) j ≡ some (host_moves trace)
    at_j = at_map moves_of plays j (played trace failed steps) (ap (λ (z : List Played). at z j) h.parts ∙ at_here h.before (played trace failed steps) h.after)

    -- a play that stands before the losing one
    sooner : (xs ys : List Played) (k : ℕ) (moves : List Move) → k < length xs → at (map moves_of (xs ++ ys)) k ≡ some moves → (x : Played) × Memᴰ x xs × (moves_of x ≡ moves)
    sooner [] ys k moves lt e = absurd (omega arith)
    sooner (x ∷ xs) ys zero moves lt e = (x, Memᴰ.head refl, cc)
    sooner (x ∷ xs) ys (suc k) moves lt e = let w = sooner xs ys k moves (omega arith) e in (w.0, Memᴰ.tail w.1, w.2)

    -- a play before it is among the plays
    inside : (x : Played) → Memᴰ x h.before → Memᴰ x plays
    inside x i = rw (← h.parts) at (Memᴰ.append_left (played trace failed steps ∷ h.after) i)

    -- no losing play comes before it
    none_sooner : (moves : List Move) → LosingPlay G moves → Before G list moves (host_moves trace) → ⊥
    none_sooner moves x b =
        let w = place moves (map moves_of plays) (listed_play G list law plays all moves (losing_is_full G moves x)) in
        let lt = before_at G list law plays all w.0 j moves (host_moves trace) w.1 at_j b in
        let y = sooner h.before (played trace failed steps ∷ h.after) w.0 moves lt (ap (λ (z : List Played). at (map moves_of z) w.0) (sym h.parts) ∙ w.1) in
        h.none_failed y.0 y.1 (sym (same_ending moves x.play y.0 (inside y.0 y.1) y.2) ∙ x.lost)

    -- the plays up to it
    abbrev part : List Played
    part = h.before ++ (played trace failed steps ∷ [])

    -- the first moves are those of the plays up to it
    part_is : take (suc j) (map moves_of plays) ≡ map moves_of part
    part_is =
        let e : suc j ≡ length h.before + 1 = omega arith in
        take-map moves_of (suc j) plays ∙ ap (map moves_of) (ap (take (suc j)) h.parts ∙ ap (λ (n : ℕ). take n (h.before ++ (played trace failed steps ∷ h.after))) e ∙ take-append-add h.before (played trace failed steps ∷ h.after) 1)

    -- a play up to it is among the plays
    part_inside : (x : Played) → Memᴰ x part → Memᴰ x plays
    part_inside x i = ⊎_elim (λ k. inside x k) (λ k. Memᴰ.cast (Memᴰ.eq_of_singleton k) here) (Memᴰ.append_cases h.before i)

    -- so the game is lost by it
    lost_so : Lost G list trace steps n d s
    lost_so = record {
      losing = (all.each_is_full trace failed steps here).play;
      first = none_sooner;
      tried =
          tried_with part (FullInRange G list none (host_moves trace)) part_inside
          (λ x i. range_in G list law plays all j (host_moves trace) at_j (moves_of x) (rw (← part_is) at (Memᴰ.map moves_of i)))
          (λ moves r. rw part_is at (in_range G list law plays all j (host_moves trace) at_j moves r)) n d s
          (let k : suc j ≡ n = omega arith in subst (Counted (FullInRange G list none (host_moves trace))) k ((full_plays_are_counted G list law plays all).counted_up_to j (host_moves trace) at_j))
          (h.depth_is ∙ sym (some_append by_depth h.before trace failed steps refl)) (h.steps_is ∙ sym (some_append by_steps h.before trace failed steps refl));
    }

  -- where trying comes to lost, the game is lost
  lost_by : (trace : List Pass) (steps n : ℕ) (d s : Bool) → tried plays 0 false false ≡ lost trace steps n d s → Lost G list trace steps n d s
  lost_by trace steps n d s e = lost_so trace steps n d s (found_lost plays 0 false false trace steps n d s e)

-- what a verdict that is computed tells is so
module _ (G : Game) (list : WordList) (law : Listed G.meaning list) where
  -- for each verdict that it may be
  right : (v : Verdict) → verdict G list ≡ v → Told G list v
  right (lost trace steps n d s) e = lost_by G list law (full_plays G list) (all_plays G list law) trace steps n d s e
  right (safe n d s) e = safe_by G list law (full_plays G list) (all_plays G list law) n d s e

  -- so the game comes out as the verdict tells
  comes_out : (v : Verdict) → Told G list v → ComesOut G list
  comes_out (lost trace steps n d s) h = outcome.by_a_loss trace steps n d s h
  comes_out (safe n d s) h = outcome.safely n d s h

pub verdict_is_right : VerdictIsRight
verdict_is_right G list law = right G list law (verdict G list) refl

pub games_come_out : GamesComeOut
games_come_out G list law = comes_out G list law (verdict G list) (verdict_is_right G list law)
