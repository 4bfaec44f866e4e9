-- The kinds of arithmetic, as mathematics on the integers. Assumes nothing.
use Rattle.std.specs.Prelude.{ℕ, ◌+◌, ◌-◌, ◌^◌, Bool, cond, ◌&&◌, ℤ, pos, negsuc, ◌+ℤ◌, ◌-ℤ◌, ◌*ℤ◌, int_le, int_lt, unsigned_abs}
use Rattle.std.specs.Ordering.{int_eq}
use Rattle.std.specs.Int.{int_max, int_min, int_wrap, w32}
use Rattle.arithmetic.specs.declared.Operation.{Operation}
use Rattle.arithmetic.specs.declared.Operation.TheVariants.{Add, Sub, Mul, Less, Equal}
use Rattle.arithmetic.specs.Meaning.{Meaning, WordList}

-- whether z is one of the integers from lo to hi
abbrev pub between : ℤ → ℤ → ℤ → Bool
between lo hi z = int_le lo z && int_le z hi

-- the answer to a question as a word
abbrev pub one_or_zero : Bool → ℤ
one_or_zero b = cond b (pos 1) (pos 0)

-- the integers from lo to hi, ascending
abbrev pub ascending : ℤ → ℤ → WordList
ascending lo hi = record { length = unsigned_abs (hi -ℤ lo) + 1; word = λ p. lo +ℤ pos p }

-- the least and the greatest word, −2³¹ and 2³¹ − 1
abbrev pub least_word : ℤ
least_word = negsuc (2 ^ 31 - 1)

abbrev pub greatest_word : ℤ
greatest_word = pos (2 ^ 31 - 1)

-- the operations of a word arithmetic: of a sum, a difference and a product the low 32 bits are kept, in two's complement
abbrev pub word_result : Operation → ℤ → ℤ → ℤ
word_result Add x y = int_wrap w32 (x +ℤ y)
word_result Sub x y = int_wrap w32 (x -ℤ y)
word_result Mul x y = int_wrap w32 (x *ℤ y)
word_result Less x y = one_or_zero (int_lt x y)
word_result Equal x y = one_or_zero (int_eq x y)

-- a word arithmetic whose host may say lo to hi
abbrev pub word_meaning : ℤ → ℤ → Meaning
word_meaning lo hi = record {
  lawful = between least_word greatest_word;
  result = word_result;
  zero = λ z. int_eq z (pos 0);
  may_say = between lo hi;
}

-- the operations of a counter: a sum and a product stop at top, and a difference stops at 0
abbrev pub counter_result : ℤ → Operation → ℤ → ℤ → ℤ
counter_result top Add x y = int_min (x +ℤ y) top
counter_result top Sub x y = int_max (x -ℤ y) (pos 0)
counter_result top Mul x y = int_min (x *ℤ y) top
counter_result top Less x y = one_or_zero (int_lt x y)
counter_result top Equal x y = one_or_zero (int_eq x y)

-- a counter from 0 to top whose host may say lo to hi
abbrev pub counter_meaning : ℕ → ℤ → ℤ → Meaning
counter_meaning top lo hi = record {
  lawful = between (pos 0) (pos top);
  result = counter_result (pos top);
  zero = λ z. int_eq z (pos 0);
  may_say = between lo hi;
}
