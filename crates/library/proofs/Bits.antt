-- Sets of variables as the bits of a word. Assumes nothing.
use Rattle.std.proofs.Common.{◌≡◌, ℕ, ◌^◌, ◌<◌, Bool, true, false, cond, ltb, ◌⊎◌, sym, ap, subst, inl, inr, ⊎_elim, arith, lt-ltb}
use lib.Bits.{bit_and, bit_or}
use Rattle.std.specs.Int.{bit_at}
use Rattle.std.proofs.lemmas.Nat.Bits.{bit_at-lt, bit_at-pow_other, bit_at-pow_same, bit_at-zero, bit_at_and, bit_at_or, bit_at_xor, same_from_bits_below}
use Rattle.std.proofs.lemmas.Nat.{pow_pos}
use Rattle.std.proofs.lemmas.Bool.{cases_eq, cases_lt}
use Rattle.library.specs.Scopes.{only, without}

-- a number stands in a set
abbrev pub In : ℕ → ℕ → Type 0
In x set = bit_at set x ≡ 1

-- one bit of a union
pub or_left : (x a b : ℕ) → In x a → In x (bit_or a b)
or_left x a b i = omega (arith, bit_at_or a b x)

pub or_right : (x a b : ℕ) → In x b → In x (bit_or a b)
or_right x a b i = omega (arith, bit_at_or a b x)

pub or_out : (x a b : ℕ) → In x (bit_or a b) → In x a ⊎ In x b
or_out x a b i = ⊎_elim (λ none. inr (omega (arith, bit_at_or a b x))) (λ one. inl (omega arith)) (cases_lt (bit_at a x) 1)

-- one bit of the set of one variable
pub nothing_in : (x : ℕ) → In x 0 → ⊥
nothing_in x i = omega (arith, bit_at-zero x)

pub in_only : (x : ℕ) → x < 64 → In x (only x)
in_only x lt = subst (In x) (ap (λ b. cond b (2 ^ x) 0) (sym (lt-ltb x 64 lt))) (bit_at-pow_same x)

pub out_only : (x y : ℕ) → In x (only y) → y ≡ x
out_only x y i = step (ltb y 64) i
  where
    apart : (x ≡ y → ⊥) → In x (2 ^ y) → ⊥
    apart ne h = omega (arith, bit_at-pow_other y x ne)

    step : (b : Bool) → In x (cond b (2 ^ y) 0) → y ≡ x
    step true h = ⊎_elim (λ e. e) (λ ne. absurd (apart (λ e. ne (sym e)) h)) (cases_eq y x)
    step false h = absurd (nothing_in x h)

-- a set without a variable
pub in_without : (x y set : ℕ) → (y ≡ x → ⊥) → In x set → In x (without set y)
in_without x y set ne i =
    let none : bit_at (only y) x ≡ 0 = ⊎_elim (λ lt. omega arith) (λ le. absurd (ne (out_only x y (omega (arith, bit_at-lt (only y) x))))) (cases_lt (bit_at (only y) x) 1) in
    omega (arith, bit_at_xor set (bit_and set (only y)) x, bit_at_and set (only y) x)

pub out_without : (x y set : ℕ) → x < 64 → In x (without set y) → (y ≡ x → ⊥) × In x set
out_without x y set small i = (
  λ e.
      let here : In x (only y) = subst (λ k. In x (only k)) (sym e) (in_only x small) in
      omega (arith, bit_at_xor set (bit_and set (only y)) x, bit_at_and set (only y) x),
  omega (arith, bit_at_xor set (bit_and set (only y)) x, bit_at_and set (only y) x),
)

-- a set in which nothing stands is empty
pub empty_set : (k n : ℕ) → n < 2 ^ k → ((x : ℕ) → x < k → In x n → ⊥) → n ≡ 0
empty_set k n lt none =
    same_from_bits_below k n 0 lt (pow_pos k) (λ x small. ⊎_elim (λ zero. omega (arith, bit_at-zero x)) (λ one. absurd (none x small (omega (arith, bit_at-lt n x)))) (cases_lt (bit_at n x) 1))
