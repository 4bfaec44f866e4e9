-- A word arithmetic wraps its results, so that each is a word again. Assumes nothing.
use Rattle.std.specs.Prelude.{◌≡◌, true, ℤ, FitsSigned}
use Rattle.std.proofs.Common.{arith}
use Rattle.std.specs.Int.{int_wrap, w32}
use Rattle.std.proofs.lemmas.Int.{ints, SFits-int_wrap}
use Rattle.arithmetic.specs.declared.Operation.{Operation}
use Rattle.arithmetic.specs.Kinds.{between, least_word, greatest_word, word_result}

-- each integer that fits 32 bits is a word
pub fits_word : (z : ℤ) → FitsSigned w32 z → between least_word greatest_word z ≡ true
fits_word z fits = grind (arith, ints)

wrapped_word : (z : ℤ) → between least_word greatest_word (int_wrap w32 z) ≡ true
wrapped_word z = fits_word _ (SFits-int_wrap w32 z)

-- a word arithmetic's operations give words
pub word_result_stays : (o : Operation) (x y : ℤ) → between least_word greatest_word (word_result o x y) ≡ true
word_result_stays o x y = grind (arith, ints, wrapped_word)
