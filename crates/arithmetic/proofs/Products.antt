-- The product of two lawful words of a counter, computed in 64 bits: it is the product, and stops at the top. Assumes nothing.
use Rattle.std.proofs.Common.{◌≡◌, ℕ, ◌*◌, ◌^◌, ◌<◌, ◌≤◌, true, false, ℤ, pos, ◌*ℤ◌, Some, SFits, ap, ◌∙◌, sym, arith, mul-le-mul, to_z, of_z, w32, w64}
use Rattle.std.specs.Prelude.{int_lt}
use Rattle.std.specs.Int.{int_min}
use Rattle.std.proofs.lemmas.Int.{ints, to_z-of_z}
use Rattle.arithmetic.specs.declared.Operation.{Operation}
use Rattle.arithmetic.specs.declared.Operation.TheVariants.{Mul}
use Rattle.arithmetic.specs.Kinds.{between, counter_meaning}
use Rattle.arithmetic.specs.Meaning.{operated}
use Rattle.arithmetic.proofs.Lawful.{counts, counts_fit}

-- a word, widened to 64 bits
abbrev wide : ℤ → ℤ
wide x = to_z w64 (of_z w64 (to_z w32 (of_z w32 x)))

wide_is : (x : ℤ) → SFits w32 x → wide x ≡ x
wide_is x f = omega (arith, ints)

-- the product of two lawful words, computed in 64 bits
abbrev pub wide_product : ℤ → ℤ → ℤ
wide_product x y = to_z w64 (of_z w64 (wide x *ℤ wide y))

module _ (top : ℕ) (x y : ℤ) (small : top ≤ 65535) (lx : between (pos 0) (pos top) x ≡ true) (ly : between (pos 0) (pos top) y ≡ true) where
  product : (k : ℕ) × (x *ℤ y ≡ pos k) × (k < 2 ^ 33)
  product =
      let n = counts top x lx in
      let m = counts top y ly in
      let u : n.0 ≤ 65535 = omega (arith, n.2) in
      let v : m.0 ≤ 65535 = omega (arith, m.2) in
      let b : n.0 * m.0 ≤ 65535 * 65535 = mul-le-mul u v in
      (n.0 * m.0, times n.1 m.1, omega (arith, b))
    where
      times : {a b : ℕ} → x ≡ pos a → y ≡ pos b → x *ℤ y ≡ pos (a * b)
      times {a} {b} p q = rw (p, q)

  product_fits : SFits w64 (x *ℤ y)
  product_fits = let p = product in rw p.1 (record { sfits = omega (arith, p.2) })

  wide_product_is : wide_product x y ≡ x *ℤ y
  wide_product_is =
      let f = product_fits in
      let fx = counts_fit top x small lx in
      let fy = counts_fit top y small ly in
      rw (wide_is x fx, wide_is y fy) (to_z-of_z w64 (x *ℤ y) f)

  over : int_lt (to_z w64 (of_z w64 (to_z w32 top))) (wide_product x y) ≡ true → to_z w32 top ≡ int_min (x *ℤ y) (pos top)
  over h =
      let p = product in
      let e = wide_product_is ∙ p.1 in
      let k = rw e at h in
      rw p.1 (grind (arith, ints))

  under : int_lt (to_z w64 (of_z w64 (to_z w32 top))) (wide_product x y) ≡ false → to_z w32 (of_z w32 (wide_product x y)) ≡ int_min (x *ℤ y) (pos top)
  under h =
      let p = product in
      let e = wide_product_is ∙ p.1 in
      let k = rw e at h in
      rw (e, p.1) (grind (arith, ints))

  under_fits : int_lt (to_z w64 (of_z w64 (to_z w32 top))) (wide_product x y) ≡ false → SFits w32 (wide_product x y)
  under_fits h =
      let p = product in
      let e = wide_product_is ∙ p.1 in
      let k = rw e at h in
      let b : p.0 < 2 ^ 31 = grind (arith, ints) in
      rw e (record { sfits = b })

-- the same of a multiplication that has found both words lawful
module _ (top : ℕ) (lo hi x y : ℤ) (o : Operation) (small : top ≤ 65535) (fx : SFits w32 x) (fy : SFits w32 y) (is : o ≡ Mul) (lx : true ≡ between (pos 0) (pos top) (to_z w32 (of_z w32 x))) (ly : true ≡ between (pos 0) (pos top) (to_z w32 (of_z w32 y))) where
  lawful : (z : ℤ) → SFits w32 z → true ≡ between (pos 0) (pos top) (to_z w32 (of_z w32 z)) → between (pos 0) (pos top) z ≡ true
  lawful z f h = let e : to_z w32 (of_z w32 z) ≡ z = to_z-of_z w32 z f in sym (rw e at h)

  pub product_below_top : int_lt (to_z w64 (of_z w64 (to_z w32 top))) (wide_product x y) ≡ false → SFits w32 (wide_product x y)
  product_below_top h = under_fits top x y small (lawful x fx lx) (lawful y fy ly) h

  pub product_stopped : int_lt (to_z w64 (of_z w64 (to_z w32 top))) (wide_product x y) ≡ true → Some (to_z w32 top) ≡ operated (counter_meaning top lo hi) o x y
  product_stopped h =
      rw (is, lawful x fx lx, lawful y fy ly) (ap Some (over top x y small (lawful x fx lx) (lawful y fy ly) h))

  pub product_kept : int_lt (to_z w64 (of_z w64 (to_z w32 top))) (wide_product x y) ≡ false → Some (to_z w32 (of_z w32 (wide_product x y))) ≡ operated (counter_meaning top lo hi) o x y
  product_kept h =
      rw (is, lawful x fx lx, lawful y fy ly) (ap Some (under top x y small (lawful x fx lx) (lawful y fy ly) h))
