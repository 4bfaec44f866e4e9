-- What an arithmetic means: its lawful words, and the list of the words that the host may say. Assumes nothing.
-- A word is an integer here, and a number of 32 bits with a sign in the code.
use Rattle.std.specs.Prelude.{◌≡◌, ℕ, ◌<◌, ◌≤◌, Bool, true, cond, ◌&&◌, ◌⊎◌, ℤ, pos, Some, None, Option, FitsSigned, nat_lt}
use Rattle.std.specs.Int.{w32}
use Rattle.arithmetic.specs.declared.Operation.{Operation}
use Rattle.arithmetic.specs.declared.Operation.TheVariants.{Less, Equal}

-- which words are lawful, what each operation gives, which words are zero, and which the host may say
pub record Meaning : Type 0 where
  pub lawful : ℤ → Bool
  pub result : Operation → ℤ → ℤ → ℤ
  pub zero : ℤ → Bool
  pub may_say : ℤ → Bool

-- the laws of a meaning: nothing leads out of the lawful words
pub record Closed (m : Meaning) : Type 0 where
  -- a lawful word fits 32 bits with a sign
  pub lawful_fits : (z : ℤ) → m.lawful z ≡ true → FitsSigned w32 z
  -- an operation on lawful words gives a lawful word
  pub result_lawful : (o : Operation) (x y : ℤ) → m.lawful x ≡ true → m.lawful y ≡ true → m.lawful (m.result o x y) ≡ true
  -- on lawful words less and equal give 1 or 0
  pub less_one_or_zero : (x y : ℤ) → m.lawful x ≡ true → m.lawful y ≡ true → (m.result Less x y ≡ pos 1) ⊎ (m.result Less x y ≡ pos 0)
  pub equal_one_or_zero : (x y : ℤ) → m.lawful x ≡ true → m.lawful y ≡ true → (m.result Equal x y ≡ pos 1) ⊎ (m.result Equal x y ≡ pos 0)
  -- a zero word is lawful, and so is a word that the host may say
  pub zero_lawful : (z : ℤ) → m.zero z ≡ true → m.lawful z ≡ true
  pub may_say_lawful : (z : ℤ) → m.may_say z ≡ true → m.lawful z ≡ true

-- a list of words: its length, and the word at each place below it
pub record WordList : Type 0 where
  pub length : ℕ
  pub word : ℕ → ℤ

-- the law of the host's list: each word that the host may say stands at exactly one place, and no other word stands there
pub record Listed (m : Meaning) (l : WordList) : Type 0 where
  -- there are 1 to 4,096 places
  pub some : 1 ≤ l.length
  pub few : l.length ≤ 4096
  -- a word that the host may say stands at some place
  pub stands : (z : ℤ) → m.may_say z ≡ true → (p : ℕ) × (p < l.length) × (l.word p ≡ z)
  -- no word stands at two places
  pub once : (p q : ℕ) → p < l.length → q < l.length → l.word p ≡ l.word q → p ≡ q
  -- the host may say each word that stands there
  pub only : (p : ℕ) → p < l.length → m.may_say (l.word p) ≡ true

-- what an operation answers: none where a word is unlawful
abbrev pub operated : Meaning → Operation → ℤ → ℤ → Option ℤ
operated m o x y = cond (m.lawful x && m.lawful y) (Some (m.result o x y)) None

-- what a list answers at a place: none past its end
abbrev pub word_at_place : WordList → ℕ → Option ℤ
word_at_place l p = cond (nat_lt p l.length) (Some (l.word p)) None
