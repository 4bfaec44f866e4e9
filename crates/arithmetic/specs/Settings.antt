-- The limits of the settings of each kind of arithmetic. Assumes nothing.
use Rattle.std.specs.Prelude.{ℕ, ◌≤◌, ℤ, pos, ◌+ℤ◌, ◌≤ℤ◌, ◌<ℤ◌}
use Rattle.arithmetic.specs.Kinds.{least_word, greatest_word}

-- there are 1 to 4,096 integers from lo to hi
abbrev pub host_range : ℤ → ℤ → Type 0
host_range lo hi = (lo ≤ℤ hi) × (hi <ℤ (lo +ℤ pos 4096))

-- the settings of a word arithmetic: lo to hi is such a range of words
abbrev pub word_settings : ℤ → ℤ → Type 0
word_settings lo hi = (least_word ≤ℤ lo) × (hi ≤ℤ greatest_word) × host_range lo hi

-- the settings of a counter: its top is 1 to 65,535, and lo to hi is such a range of the integers from 0 to the top
abbrev pub counter_settings : ℕ → ℤ → ℤ → Type 0
counter_settings top lo hi = (1 ≤ top) × (top ≤ 65535) × (pos 0 ≤ℤ lo) × (hi ≤ℤ pos top) × host_range lo hi
