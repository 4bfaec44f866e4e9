-- What stands at a place of a list, and what stands there in another list whose elements correspond.
use Rattle.std.proofs.Common.{◌≡◌, ℕ, zero, suc, ◌<◌, List, [], ◌∷◌, ◌++◌, map, length, set, sym, refl, ap, arith}
use mathlib.Core.List.{Memᴰ}
use mathlib.Core.Option.{some}
use Rattle.std.specs.List.{AllZip}
use Rattle.rules.specs.Memory.{at}

module _ {X : Type 0} where
  -- what stands in a list stands at a place
  pub place : (x : X) (xs : List X) → Memᴰ x xs → (k : ℕ) × (at xs k ≡ some x)
  place x [] i = elim i [ ]
  place x (y ∷ xs) (Memᴰ.head e) = (0, ap some (sym e))
  place x (y ∷ xs) (Memᴰ.tail i) = let w = place x xs i in (suc w.0, w.1)

  -- what stands at a place stands in the list
  pub there : (x : X) (xs : List X) (k : ℕ) → at xs k ≡ some x → Memᴰ x xs
  there x [] k e = cc
  there x (y ∷ xs) zero e = Memᴰ.head (cc)
  there x (y ∷ xs) (suc k) e = Memᴰ.tail (there x xs k e)

  -- where something stands, the list has a place
  pub inside : (x : X) (xs : List X) (k : ℕ) → at xs k ≡ some x → k < length xs
  inside x [] k e = cc
  inside x (y ∷ xs) zero e = omega arith
  inside x (y ∷ xs) (suc k) e = let h = inside x xs k e in omega arith

  -- what stands behind the first elements
  pub at_here : (xs : List X) (x : X) (ys : List X) → at (xs ++ (x ∷ ys)) (length xs) ≡ some x
  at_here [] x ys = refl
  at_here (y ∷ xs) x ys = at_here xs x ys

  -- what stands at a place stands there with more behind it
  pub at_more : (xs ys : List X) (k : ℕ) (x : X) → at xs k ≡ some x → at (xs ++ ys) k ≡ some x
  at_more [] ys k x e = cc
  at_more (y ∷ xs) ys zero x e = e
  at_more (y ∷ xs) ys (suc k) x e = at_more xs ys k x e

module _ {X : Type 0} {Y : Type 0} where
  -- what stands at a place of a list whose elements are mapped
  pub at_map : (f : X → Y) (xs : List X) (k : ℕ) (x : X) → at xs k ≡ some x → at (map f xs) k ≡ some (f x)
  at_map f [] k x e = cc
  at_map f (y ∷ xs) zero x e = cc
  at_map f (y ∷ xs) (suc k) x e = at_map f xs k x e

module _ {X : Type 0} {Y : Type 0} (R : X → Y → Type 0) where
  -- at the place of an element there is one that corresponds
  pub across : (xs : List X) (ys : List Y) (k : ℕ) (x : X) → AllZip R xs ys → at xs k ≡ some x → (y : Y) × (at ys k ≡ some y) × R x y
  across [] ys k x h e = cc
  across (w ∷ xs) [] k x h e = absurd h
  across (w ∷ xs) (y ∷ ys) zero x h e = let same : w ≡ x = cc in (y, refl, rw same at h.0)
  across (w ∷ xs) (y ∷ ys) (suc k) x h e = across xs ys k x h.1 e

  -- and the other way
  pub back : (xs : List X) (ys : List Y) (k : ℕ) (y : Y) → AllZip R xs ys → at ys k ≡ some y → (x : X) × (at xs k ≡ some x) × R x y
  back xs [] k y h e = cc
  back [] (w ∷ ys) k y h e = absurd h
  back (x ∷ xs) (w ∷ ys) zero y h e = let same : w ≡ y = cc in (x, refl, rw same at h.0)
  back (x ∷ xs) (w ∷ ys) (suc k) y h e = back xs ys k y h.1 e

  -- another element that corresponds may be set in a place
  pub set_at : (xs : List X) (ys : List Y) (k : ℕ) (x : X) (y : Y) → AllZip R xs ys → at ys k ≡ some y → R x y → AllZip R (set xs k x) ys
  set_at xs [] k x y h e r = cc
  set_at [] (w ∷ ys) k x y h e r = absurd h
  set_at (z ∷ xs) (w ∷ ys) zero x y h e r = let same : w ≡ y = cc in (rw (← same) at r, h.1)
  set_at (z ∷ xs) (w ∷ ys) (suc k) x y h e r = (h.0, set_at xs ys k x y h.1 e r)

  -- one more on each side
  pub push : (xs : List X) (ys : List Y) (x : X) (y : Y) → AllZip R xs ys → R x y → AllZip R (xs ++ (x ∷ [])) (ys ++ (y ∷ []))
  push [] [] x y h r = (r, tt)
  push [] (w ∷ ys) x y h r = absurd h
  push (z ∷ xs) [] x y h r = absurd h
  push (z ∷ xs) (w ∷ ys) x y h r = (h.0, push xs ys x y h.1 r)

  -- both are as long
  pub as_long : (xs : List X) (ys : List Y) → AllZip R xs ys → length xs ≡ length ys
  as_long [] [] h = refl
  as_long [] (y ∷ ys) h = absurd h
  as_long (x ∷ xs) [] h = absurd h
  as_long (x ∷ xs) (y ∷ ys) h = ap suc (as_long xs ys h.1)

  -- what corresponds one way corresponds another way that is weaker
  pub weaker : (S : X → Y → Type 0) → ((x : X) (y : Y) → R x y → S x y) → (xs : List X) (ys : List Y) → AllZip R xs ys → AllZip S xs ys
  weaker S f [] [] h = tt
  weaker S f [] (y ∷ ys) h = h
  weaker S f (x ∷ xs) [] h = h
  weaker S f (x ∷ xs) (y ∷ ys) h = (f x y h.0, weaker S f xs ys h.1)
