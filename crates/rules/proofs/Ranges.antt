-- Places in a list of all full plays count the full plays in a range.
use Rattle.std.proofs.Common.{◌≡◌, ℕ, zero, suc, ◌+◌, ◌-◌, ◌<◌, ◌≤◌, ◌⊎◌, List, [], ◌∷◌, map, take, drop, sym, ap, ◌∙◌, inl, inr, arith, length-drop, length-take}
use Rattle.std.proofs.Math.Logic.{⊎_elim}
use mathlib.Core.List.{Memᴰ}
use mathlib.Core.Option.{Option, none, some}
use Rattle.std.proofs.str.Laws.{order}
use Rattle.arithmetic.specs.Meaning.{WordList, Listed}
use Rattle.rules.specs.Memory.{at}
use Rattle.rules.specs.Game.{Game}
use Rattle.rules.specs.Plays.{Move}
use Rattle.rules.specs.Enumeration.{Played, moves_of}
use Rattle.rules.specs.Order.{Before, Ascending, WithoutRepetition, Counted}
use Rattle.rules.specs.Ranges.{After, FullInRange, AllPlays, FullPlaysAreCounted}
use Rattle.rules.proofs.Distinct.{before_apart, no_repetition, listed_play, play_listed, counted_plays}
use Rattle.rules.proofs.Places.{place, there, inside}
use Rattle.rules.proofs.OneWay.{before_one_way}

-- what stands at places of a list, and of a part of it
module _ {X : Type 0} where
  -- in an ascending list the element at an earlier place comes before the one at a later place
  in_order_at : (R : X → X → Type 0) (xs : List X) → Ascending R xs → (i k : ℕ) (x y : X) → i < k → at xs i ≡ some x → at xs k ≡ some y → R x y
  in_order_at R [] up i k x y lt d e = cc
  in_order_at R (w ∷ xs) up zero zero x y lt d e = absurd (omega arith)
  in_order_at R (w ∷ xs) up zero (suc k) x y lt d e = let s : w ≡ x = cc in rw s at (up.0 y (there y xs k e))
  in_order_at R (w ∷ xs) up (suc i) zero x y lt d e = absurd (omega arith)
  in_order_at R (w ∷ xs) up (suc i) (suc k) x y lt d e = in_order_at R xs up.1 i k x y (omega arith) d e

  -- what stands at a place of the first n elements stands there in the list
  at_take : (xs : List X) (n k : ℕ) (x : X) → at (take n xs) k ≡ some x → (k < n) × (at xs k ≡ some x)
  at_take [] zero k x e = cc
  at_take [] (suc n) k x e = cc
  at_take (y ∷ xs) zero k x e = cc
  at_take (y ∷ xs) (suc n) zero x e = (omega arith, e)
  at_take (y ∷ xs) (suc n) (suc k) x e = let h = at_take xs n k x e in (omega (arith, h.0), h.1)

  -- what stands at one of the first n places stands there among the first n elements
  take_at : (xs : List X) (n k : ℕ) (x : X) → k < n → at xs k ≡ some x → at (take n xs) k ≡ some x
  take_at [] n k x lt e = cc
  take_at (y ∷ xs) zero k x lt e = absurd (omega arith)
  take_at (y ∷ xs) (suc n) zero x lt e = e
  take_at (y ∷ xs) (suc n) (suc k) x lt e = take_at xs n k x (omega arith) e

  -- what stands at a place behind the first s elements
  at_drop : (xs : List X) (s k : ℕ) → at (drop s xs) k ≡ at xs (s + k)
  at_drop xs zero k = let e : k ≡ 0 + k = omega arith in ap (at xs) e
  at_drop [] (suc s) k = cc
  at_drop (y ∷ xs) (suc s) k = let e : suc (s + k) ≡ suc s + k = omega arith in at_drop xs s k ∙ ap (at (y ∷ xs)) e

  -- the first n elements of a list without repetition are without repetition
  part_once_take : (n : ℕ) (xs : List X) → WithoutRepetition xs → WithoutRepetition (take n xs)
  part_once_take zero xs h = tt
  part_once_take (suc n) [] h = tt
  part_once_take (suc n) (x ∷ xs) h = ((λ i. let w = place x (take n xs) i in h.0 (there x xs w.0 (at_take xs n w.0 x w.1).1)), part_once_take n xs h.1)

  -- what is behind the first s elements of a list without repetition is without repetition
  part_once_drop : (s : ℕ) (xs : List X) → WithoutRepetition xs → WithoutRepetition (drop s xs)
  part_once_drop zero xs h = h
  part_once_drop (suc s) [] h = tt
  part_once_drop (suc s) (x ∷ xs) h = part_once_drop s xs h.1

module _ (G : Game) (list : WordList) (law : Listed G.meaning list) (plays : List Played) (all : AllPlays G list plays) where
  -- the moves of each play, in the list's order
  abbrev xs : List (List Move)
  xs = map moves_of plays

  -- they ascend
  up : Ascending (Before G list) xs
  up = all.in_order

  -- a play that comes before another stands before it
  pub before_at : (i k : ℕ) (x y : List Move) → at xs i ≡ some x → at xs k ≡ some y → Before G list x y → i < k
  before_at i k x y d e b =
      ⊎_elim (λ lt. lt)
      (λ le.
      ⊎_elim (λ lt. absurd (before_one_way G list law x y b (in_order_at (Before G list) xs up k i y x lt e d)))
      (λ ge.
      let same : i ≡ k = omega arith in
      absurd (before_apart G list law x y b (cc))) (order k i)) (order i k)

  -- the plays from place s up to place j, where s is the first place behind those that the range begins after
  module _ (s j : ℕ) (from : Option (List Move)) (to : List Move) (last : at xs j ≡ some to) (few : s ≤ suc j)
      (behind : (k : ℕ) (m : List Move) → at xs k ≡ some m → s ≤ k → After G list from m)
      (not_behind : (k : ℕ) (m : List Move) → at xs k ≡ some m → After G list from m → s ≤ k) where
    -- the moves of the plays in question
    abbrev part : List (List Move)
    part = drop s (take (suc j) xs)

    -- each full play in the range is one of them
    each : (moves : List Move) → FullInRange G list from to moves → Memᴰ moves part
    each moves h =
        let w = place moves xs (listed_play G list law plays all moves h.0) in
        let low = not_behind w.0 moves w.1 h.1 in
        let high = up_to w.0 w.1 h.2 in
        let e : s + (w.0 - s) ≡ w.0 = omega arith in
        there moves part (w.0 - s) (at_drop (take (suc j) xs) s (w.0 - s) ∙ ap (at (take (suc j) xs)) e ∙ take_at xs (suc j) w.0 moves (omega arith) w.1)
      where
        up_to : (k : ℕ) → at xs k ≡ some moves → (moves ≡ to) ⊎ Before G list moves to → k ≤ j
        up_to k e (inl same) =
            ⊎_elim (λ lt. let b = in_order_at (Before G list) xs up j k to moves lt last e in absurd (before_apart G list law to moves b (sym same)))
            (λ le. le) (order j k)
        up_to k e (inr b) = let lt = before_at k j moves to e last b in omega arith

    -- each of them is a full play in the range
    no_other : (moves : List Move) → Memᴰ moves part → FullInRange G list from to moves
    no_other moves i =
        let w = place moves part i in
        let h = at_take xs (suc j) (s + w.0) moves (sym (at_drop (take (suc j) xs) s w.0) ∙ w.1) in
        (play_listed G list law plays all moves (there moves xs (s + w.0) h.1), behind (s + w.0) moves h.1 (omega arith), end (s + w.0) h.1 (order (s + w.0) j) h.0)
      where
        end : (k : ℕ) → at xs k ≡ some moves → (k < j) ⊎ (j ≤ k) → k < suc j → (moves ≡ to) ⊎ Before G list moves to
        end k e (inl lt) high = inr (in_order_at (Before G list) xs up k j moves to lt e last)
        end k e (inr ge) high =
            let same : k ≡ j = omega arith in
            inl (cc)

    -- so they count the full plays in the range
    counted_part : (n : ℕ) → n + s ≡ suc j → Counted (FullInRange G list from to) n
    counted_part n sum = record {
      those = part;
      no_repetition = part_once_drop s (take (suc j) xs) (part_once_take (suc j) xs (no_repetition G list law xs up));
      holds_each = each;
      holds_no_other = no_other;
      as_many =
          let long = inside to xs j last in
          let a = length-drop s (take (suc j) xs) in
          let b = length-take (suc j) xs in
          omega arith;
    }

  -- the full plays up to the one at place j are the first of the list
  pub in_range : (j : ℕ) (to : List Move) → at xs j ≡ some to → (moves : List Move) → FullInRange G list none to moves → Memᴰ moves (take (suc j) xs)
  in_range j to e moves h = each 0 j none to e (omega arith) (λ k m d le. tt) (λ k m d g. omega arith) moves h

  -- the first of the list are the full plays up to the one at place j
  pub range_in : (j : ℕ) (to : List Move) → at xs j ≡ some to → (moves : List Move) → Memᴰ moves (take (suc j) xs) → FullInRange G list none to moves
  range_in j to e moves i = no_other 0 j none to e (omega arith) (λ k m d le. tt) (λ k m d g. omega arith) moves i

  -- place j counts the full plays up to the one there
  up_to_counted : (j : ℕ) (to : List Move) → at xs j ≡ some to → Counted (FullInRange G list none to) (suc j)
  up_to_counted j to e = counted_part 0 j none to e (omega arith) (λ k m d le. tt) (λ k m d h. omega arith) (suc j) (omega arith)

  -- two places count the full plays after the one at the first, up to the one at the second
  between_counted : (i j : ℕ) (from to : List Move) → i ≤ j → at xs i ≡ some from → at xs j ≡ some to → Counted (FullInRange G list (some from) to) (j - i)
  between_counted i j from to le d e =
      counted_part (suc i) j (some from) to e (omega arith)
      (λ k m h low. in_order_at (Before G list) xs up i k from m (omega arith) d h) (λ k m h b. let lt = before_at i k from m d h b in omega arith) (j - i) (omega arith)

pub full_plays_are_counted : FullPlaysAreCounted
full_plays_are_counted G list law plays all = record {
  no_repetition = no_repetition G list law (map moves_of plays) all.in_order;
  counted = counted_plays G list law plays all;
  counted_up_to = up_to_counted G list law plays all;
  counted_between = between_counted G list law plays all;
}
