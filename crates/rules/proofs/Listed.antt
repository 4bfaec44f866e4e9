-- The list of full plays holds exactly the full plays.
use Rattle.std.proofs.Common.{◌≡◌, ℕ, zero, suc, ◌+◌, ◌<◌, List, [], ◌∷◌, map, refl, arith}
use Rattle.std.proofs.Math.Logic.{⊎_elim}
use mathlib.Core.List.Memᴰ
use mathlib.Core.List.{Memᴰ}
use mathlib.Core.Option.{none, some}
use Rattle.arithmetic.specs.Meaning.{WordList, Listed}
use Rattle.rules.specs.Memory.{Memory}
use Rattle.rules.specs.Game.{Game, Pending, Position, library_runs, host_turn, start, Pass, ◌⊢◌─◌⟹◌}
use Rattle.rules.specs.Plays.{Run, Ending, failed, cut_by_depth, cut_by_steps, turn, Ends, PlayFrom, FullFrom, NoMove}
use Rattle.rules.specs.Plays as play
use Rattle.rules.specs.Enumeration.{Next, goes_on, hands, fails, deep, no_step, library_next, Reply, reply, replies, Played, played, after, after_each, after_next, at_turn, plays_from}
use Rattle.rules.specs.Laws.{FullPlaysAreListed}
use Rattle.rules.proofs.Sayings.{replies_are, move_listed}
use Rattle.rules.proofs.Nexts.{step_next, fails_next, deep_next, IsSo, next_so}

-- a play after a reply of the list
among : (plays : Position → List Played) (rs : List Reply) (a : Pass) (q : Position) (trace : List Pass) (e : Ending) (s : ℕ) → Memᴰ (reply a q) rs → Memᴰ (played trace e s) (plays q) → Memᴰ (played (a ∷ trace) e s) (after_each plays rs)
among plays [] a q trace e s i j = elim i [ ]
among plays (reply b r ∷ rs) a q trace e s (Memᴰ.head d) j =
    let x : a ≡ b = cc in
    let y : q ≡ r = cc in
    rw (← x, ← y) (Memᴰ.append_left (after_each plays rs) (Memᴰ.map (after a) j))
among plays (reply b r ∷ rs) a q trace e s (Memᴰ.tail i) j = Memᴰ.append_right (map (after b) (plays r)) (among plays rs a q trace e s i j)

-- a play of `after_each` is a reply and a play after it
apart : (plays : Position → List Played) (rs : List Reply) (trace : List Pass) (e : Ending) (s : ℕ) → Memᴰ (played trace e s) (after_each plays rs) → (a : Pass) × (q : Position) × (rest : List Pass) × Memᴰ (reply a q) rs × (trace ≡ a ∷ rest) × Memᴰ (played rest e s) (plays q)
apart plays [] trace e s i = elim i [ ]
apart plays (reply a q ∷ rs) trace e s i =
    ⊎_elim (λ j. let w = Memᴰ.of_map (after a) (plays q) j in first w.0 w.1 w.2)
    (λ j. let w = apart plays rs trace e s j in (w.0, w.1, w.2, Memᴰ.tail w.3, w.4, w.5)) (Memᴰ.append_cases (map (after a) (plays q)) i)
  where
    first : (x : Played) → Memᴰ x (plays q) → after a x ≡ played trace e s → (b : Pass) × (r : Position) × (rest : List Pass) × Memᴰ (reply b r) (reply a q ∷ rs) × (trace ≡ b ∷ rest) × Memᴰ (played rest e s) (plays r)
    first (played rest e' s') j d =
        let y : e' ≡ e = cc in
        let z : s' ≡ s = cc in
        (a, q, rest, Memᴰ.head refl, cc, rw (y, z) at j)

-- where there is a reply, the plays are those after the replies
with_reply : (plays : Position → List Played) (t : ℕ) (rs : List Reply) (a : Pass) (q : Position) (x : Played) → Memᴰ (reply a q) rs → Memᴰ x (after_each plays rs) → Memᴰ x (at_turn plays t rs)
with_reply plays t [] a q x i j = elim i [ ]
with_reply plays t (r ∷ rs) a q x i j = j

no_reply : (plays : Position → List Played) (t : ℕ) (rs : List Reply) → ((a : Pass) (q : Position) → Memᴰ (reply a q) rs → ⊥) → Memᴰ (played [] turn t) (at_turn plays t rs)
no_reply plays t [] h = Memᴰ.head refl
no_reply plays t (reply a q ∷ rs) h = absurd (h a q (Memᴰ.head refl))

module _ (G : Game) where
  -- a full play with a step before it
  inside_first : (p q : Position) (t : ℕ) (trace : List Pass) (e : Ending) (s : ℕ) → t < G.bounds.steps → G ⊢ p ─ none ⟹ q → FullFrom G q (suc t) trace e s → FullFrom G p t trace e s
  inside_first p q t trace e s lt h f =
      record { play = record { last = f.play.last; taken = f.play.taken; run = play.inside lt h f.play.run; ends = f.play.ends }; no_more = f.no_more }

  pass_first : (p q : Position) (t : ℕ) (a : Pass) (trace : List Pass) (e : Ending) (s : ℕ) → t < G.bounds.steps → G ⊢ p ─ some a ⟹ q → FullFrom G q (suc t) trace e s → FullFrom G p t (a ∷ trace) e s
  pass_first p q t a trace e s lt h f =
      record { play = record { last = f.play.last; taken = f.play.taken; run = play.passes lt h f.play.run; ends = f.play.ends }; no_more = f.no_more }

  -- a play that ends here
  here : (p : Position) (t : ℕ) (e : Ending) (s : ℕ) → Ends G p t e s → (e ≡ turn → NoMove G p) → FullFrom G p t [] e s
  here p t e s h more = record { play = record { last = p; taken = t; run = play.stays; ends = h }; no_more = more }

  -- the one play of a list with one
  lone : (p : Position) (t : ℕ) (e₀ : Ending) (s₀ : ℕ) → FullFrom G p t [] e₀ s₀ → (trace : List Pass) (e : Ending) (s : ℕ) → Memᴰ (played trace e s) (played [] e₀ s₀ ∷ []) → FullFrom G p t trace e s
  lone p t e₀ s₀ f trace e s i =
      let d = Memᴰ.eq_of_singleton i in
      let a : trace ≡ [] = cc in
      let b : e ≡ e₀ = cc in
      let c : s ≡ s₀ = cc in
      rw (a, b, c) f

  module _ (list : WordList) (law : Listed G.meaning list) where
    -- a play that ends here is listed
    end_listed : (left t : ℕ) (p : Position) (e : Ending) (s : ℕ) → left + t ≡ G.bounds.steps → Ends G p t e s → (e ≡ turn → NoMove G p) → Memᴰ (played [] e s) (plays_from G list left t p)
    end_listed zero t p e s sum (play.out_of_steps d) more = Memᴰ.head refl
    end_listed zero t p e s sum (play.fails lt h) more = absurd (omega arith)
    end_listed zero t p e s sum (play.too_deep lt h) more = absurd (omega arith)
    end_listed zero t p e s sum (play.hands_over lt) more = absurd (omega arith)
    end_listed (suc left) t p e s sum (play.out_of_steps d) more = absurd (omega arith)
    end_listed (suc left) t (library_runs K M μ P) e s sum (play.fails lt h) more = rw (fails_next G (library_runs K M μ P) h) (Memᴰ.head refl)
    end_listed (suc left) t (host_turn K l μ P) e s sum (play.fails lt h) more = elim h [ ]
    end_listed (suc left) t (library_runs K M μ P) e s sum (play.too_deep lt h) more = rw (deep_next G (library_runs K M μ P) h) (Memᴰ.head refl)
    end_listed (suc left) t (host_turn K l μ P) e s sum (play.too_deep lt h) more = elim h [ ]
    end_listed (suc left) t p e s sum (play.hands_over {K} {l} {t = u} {μ} {P} lt) more =
        no_reply (plays_from G list left (suc t)) t (replies G list K l μ P) (λ a q i. more refl a q (replies_are G list law K l μ P a q i))

    inside_listed : (left t : ℕ) (p q : Position) (trace : List Pass) (e : Ending) (s : ℕ) → left + t ≡ G.bounds.steps → t < G.bounds.steps → G ⊢ p ─ none ⟹ q → ((k : ℕ) → k + suc t ≡ G.bounds.steps → Memᴰ (played trace e s) (plays_from G list k (suc t) q)) → Memᴰ (played trace e s) (plays_from G list left t p)
    inside_listed zero t p q trace e s sum lt h rest = absurd (omega arith)
    inside_listed (suc left) t (library_runs K M μ P) q trace e s sum lt h rest = rw (step_next G (library_runs K M μ P) q none h) (rest left (omega arith))
    inside_listed (suc left) t (host_turn K l μ P) q trace e s sum lt h rest = elim h [ ]

    pass_listed : (left t : ℕ) (p q : Position) (a : Pass) (trace : List Pass) (e : Ending) (s : ℕ) → left + t ≡ G.bounds.steps → t < G.bounds.steps → G ⊢ p ─ some a ⟹ q → ((k : ℕ) → k + suc t ≡ G.bounds.steps → Memᴰ (played trace e s) (plays_from G list k (suc t) q)) → Memᴰ (played (a ∷ trace) e s) (plays_from G list left t p)
    pass_listed zero t p q a trace e s sum lt h rest = absurd (omega arith)
    pass_listed (suc left) t (library_runs K M μ P) q a trace e s sum lt h rest = rw (step_next G (library_runs K M μ P) q (some a) h) (Memᴰ.map (after a) (rest left (omega arith)))
    pass_listed (suc left) t (host_turn K l μ P) q a trace e s sum lt h rest =
        let listed : Memᴰ (reply a q) (replies G list K l μ P) = move_listed G list law (host_turn K l μ P) q (some a) a h refl in
        with_reply (plays_from G list left (suc t)) t (replies G list K l μ P) a q _ listed (among (plays_from G list left (suc t)) (replies G list K l μ P) a q trace e s listed (rest left (omega arith)))

    every : (left t : ℕ) (p : Position) (trace : List Pass) (last : Position) (u : ℕ) (e : Ending) (s : ℕ) → left + t ≡ G.bounds.steps → Run G p t trace last u → Ends G last u e s → (e ≡ turn → NoMove G last) → Memᴰ (played trace e s) (plays_from G list left t p)
    every left t p trace last u e s sum play.stays ends more = end_listed left t p e s sum ends more
    every left t p trace last u e s sum (play.inside {q = q} lt h run) ends more = inside_listed left t p q trace e s sum lt h (λ k d. every k (suc t) q trace last u e s d run ends more)
    every left t p trace last u e s sum (play.passes {q = q} {a = a} {trace = rest} lt h run) ends more = pass_listed left t p q a rest e s sum lt h (λ k d. every k (suc t) q rest last u e s d run ends more)

    abbrev pub Rest : ℕ → ℕ → Type 0
    Rest left t = (q : Position) (trace : List Pass) (e : Ending) (s : ℕ) → Memᴰ (played trace e s) (plays_from G list left t q) → FullFrom G q t trace e s

    by_next : (left t : ℕ) (p : Position) (n : Next) → t < G.bounds.steps → IsSo G p n → Rest left (suc t) → (trace : List Pass) (e : Ending) (s : ℕ) → Memᴰ (played trace e s) (after_next (plays_from G list left (suc t)) t n) → FullFrom G p t trace e s
    by_next left t p (goes_on q) lt h rest trace e s i = inside_first p q t trace e s lt h (rest q trace e s i)
    by_next left t p (hands a q) lt h rest trace e s i =
        let w = Memᴰ.of_map (after a) (plays_from G list left (suc t) q) i in
        go w.0 w.1 w.2
      where
        go : (x : Played) → Memᴰ x (plays_from G list left (suc t) q) → after a x ≡ played trace e s → FullFrom G p t trace e s
        go (played tail e' s') j d =
            let x : trace ≡ a ∷ tail = cc in
            let y : e ≡ e' = cc in
            let z : s ≡ s' = cc in
            rw (x, y, z) (pass_first p q t a tail e' s' lt h (rest q tail e' s' j))
    by_next left t p fails lt h rest trace e s i = lone p t failed (suc t) (here p t failed (suc t) (play.fails lt h) (λ d. cc)) trace e s i
    by_next left t p deep lt h rest trace e s i = lone p t cut_by_depth t (here p t cut_by_depth t (play.too_deep lt h) (λ d. cc)) trace e s i
    by_next left t p no_step lt h rest trace e s i = elim i [ ]

    by_replies : (left t : ℕ) (K : List Pending) (l : ℕ) (μ : Memory) (P : List ℕ) (rs : List Reply) → replies G list K l μ P ≡ rs → t < G.bounds.steps → Rest left (suc t) → (trace : List Pass) (e : Ending) (s : ℕ) → Memᴰ (played trace e s) (at_turn (plays_from G list left (suc t)) t rs) → FullFrom G (host_turn K l μ P) t trace e s
    by_replies left t K l μ P [] d lt rest trace e s i =
        lone (host_turn K l μ P) t turn t (here (host_turn K l μ P) t turn t (play.hands_over lt) (λ x a q h. nothing a q (rw d at (move_listed G list law (host_turn K l μ P) q (some a) a h refl)))) trace e s i
      where
        nothing : (a : Pass) (q : Position) → Memᴰ (reply a q) [] → ⊥
        nothing a q j = elim j [ ]
    by_replies left t K l μ P (r ∷ rs) d lt rest trace e s i =
        let x = apart (plays_from G list left (suc t)) (r ∷ rs) trace e s i in
        let listed : Memᴰ (reply x.0 x.1) (replies G list K l μ P) = rw d x.3 in
        rw x.4
        (pass_first (host_turn K l μ P) x.1 t x.0 x.2 e s lt (replies_are G list law K l μ P x.0 x.1 listed) (rest x.1 x.2 e s x.5))

    pub only : (left t : ℕ) → left + t ≡ G.bounds.steps → Rest left t
    only zero t sum p trace e s i =
        lone p t cut_by_steps t (here p t cut_by_steps t (play.out_of_steps (omega arith)) (λ d. cc)) trace e s i
    only (suc left) t sum (library_runs K M μ P) trace e s i =
        by_next left t (library_runs K M μ P) (library_next G K M μ P) (omega arith) (next_so G K M μ P) (only left (suc t) (omega arith)) trace e s i
    only (suc left) t sum (host_turn K l μ P) trace e s i =
        by_replies left t K l μ P (replies G list K l μ P) refl (omega arith) (only left (suc t) (omega arith)) trace e s i

pub full_plays_are_listed : FullPlaysAreListed
full_plays_are_listed G list law = record {
  each_is_listed = λ trace e s f. every G list law G.bounds.steps 0 (start G) trace f.play.last f.play.taken e s (omega arith) f.play.run f.play.ends f.no_more;
  each_is_full = λ trace e s i. only G list law G.bounds.steps 0 (omega arith) (start G) trace e s i;
}
