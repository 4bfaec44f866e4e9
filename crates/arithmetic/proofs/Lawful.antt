-- What holds of the words of each kind, besides the laws that the kinds prove. Assumes nothing.
use Rattle.std.proofs.Common.{◌≡◌, ℕ, ◌<◌, ◌≤◌, Bool, true, false, ◌⊎◌, ℤ, pos, negsuc, ◌+ℤ◌, ◌-ℤ◌, ◌≤ℤ◌, Some, SFits, refl, ap, inl, inr, arith, w32}
use Rattle.std.specs.Prelude.{unsigned_abs}
use Rattle.std.specs.Ordering.{int_eq}
use Rattle.std.proofs.lemmas.Int.{ints}
use Rattle.arithmetic.specs.declared.Operation.{Operation}
use Rattle.arithmetic.specs.Kinds.{between, ascending, least_word, greatest_word, word_result, word_meaning, one_or_zero}
use Rattle.arithmetic.specs.Meaning.{operated}
use Rattle.arithmetic.specs.Settings.{host_range}
use Rattle.arithmetic.specs.Wraps.{fits_word}

-- a word fits 32 bits
pub word_fits : (z : ℤ) → between least_word greatest_word z ≡ true → SFits w32 z
word_fits z h = grind (arith, ints)

-- the two answers to a question, which are words
pub one_or_zero_word : (b : Bool) → between least_word greatest_word (one_or_zero b) ≡ true
one_or_zero_word true = refl
one_or_zero_word false = refl

pub one_or_zero_is : (b : Bool) → (one_or_zero b ≡ pos 1) ⊎ (one_or_zero b ≡ pos 0)
one_or_zero_is true = inl refl
one_or_zero_is false = inr refl

-- and lawful words of every counter
pub one_or_zero_counts : (top : ℕ) (b : Bool) → 1 ≤ top → between (pos 0) (pos top) (one_or_zero b) ≡ true
one_or_zero_counts top b some = grind (arith, ints)

-- only 0 is zero
pub zero_is : (z : ℤ) → int_eq z (pos 0) ≡ true → z ≡ pos 0
zero_is z h = grind (arith, ints)

-- every two words that fit have their result
pub word_operated : (lo hi x y v : ℤ) (o : Operation) → SFits w32 x → SFits w32 y → v ≡ word_result o x y → Some v ≡ operated (word_meaning lo hi) o x y
word_operated lo hi x y v o fx fy e = rw (fits_word x fx, fits_word y fy) (ap Some e)

-- a word of a range lies between its ends
pub within : (lo hi z : ℤ) → between lo hi z ≡ true → (lo ≤ℤ z) × (z ≤ℤ hi)
within lo hi z h = (grind (arith, ints), grind (arith, ints))

-- a word of a range stands at some place of its list
pub stands : (lo hi : ℤ) → host_range lo hi → (z : ℤ) → between lo hi z ≡ true → (p : ℕ) × (p < (ascending lo hi).length) × (lo +ℤ pos p ≡ z)
stands lo hi limits z h = (unsigned_abs (z -ℤ lo), grind (arith, ints), grind (arith, ints))

-- only words of the range stand there
pub only : (lo hi : ℤ) → host_range lo hi → (p : ℕ) → p < (ascending lo hi).length → between lo hi (lo +ℤ pos p) ≡ true
only lo hi limits p h = grind (arith, ints)

-- a lawful word of a counter is a natural number, and fits 32 bits
pub counts : (top : ℕ) (z : ℤ) → between (pos 0) (pos top) z ≡ true → (n : ℕ) × (z ≡ pos n) × (n ≤ top)
counts top (pos n) h = (n, refl, grind arith)
counts top (negsuc n) h = absurd (grind arith)

pub counts_fit : (top : ℕ) (z : ℤ) → top ≤ 65535 → between (pos 0) (pos top) z ≡ true → SFits w32 z
counts_fit top z small h = grind (arith, ints)
