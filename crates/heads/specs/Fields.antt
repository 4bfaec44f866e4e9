-- What the fields of a head line spell, worked out field by field. The laws that tie this to the printing of head lines are
-- in proofs/, and the contracts of the public functions speak of the printing alone.
use Rattle.std.specs.Prelude.{ℕ, Bool, false, cond, List, [], ◌∷◌, length, ℤ, Some, None, Option, ◌==◌}
use Rattle.std.specs.Str.{bytes_eq}
use Rattle.text.specs.Reading.{keyword_of, number_of, word_of, two_values, three_values, three_numbers}
use Rattle.heads.specs.declared.keywords.KindWord.{KindWord}
use Rattle.heads.specs.declared.keywords.KindWord.TheVariants.{Word, Counter}
use Rattle.heads.specs.declared.settings.PlayNumbers.{PlayNumbers}
use Rattle.heads.specs.declared.settings.Settings.{Settings}
use Rattle.heads.specs.declared.settings.Settings.TheVariants.{Word as WordNumbers, Counter as CounterNumbers}
use Rattle.heads.specs.Words.{arithmetic_word, play_word, kind_word, kind_table}

-- the fields after a first field that is the word
abbrev pub after_word : List ℕ → List (List ℕ) → Option (List (List ℕ))
after_word w [] = None
after_word w (f ∷ fs) = cond (bytes_eq w f) (Some fs) None

-- the words that the only two fields are
abbrev pub two_words : List (List ℕ) → Option (ℤ × ℤ)
two_words = two_values word_of word_of

-- the number and the two words that the only three fields are
abbrev pub number_and_two_words : List (List ℕ) → Option (ℕ × ℤ × ℤ)
number_and_two_words = three_values number_of word_of word_of

-- settings made of numbers that are there
abbrev pub word_of_range : Option (ℤ × ℤ) → Option Settings
word_of_range None = None
word_of_range (Some p) = Some (WordNumbers p.0 p.1)

abbrev pub counter_of_range : Option (ℕ × ℤ × ℤ) → Option Settings
counter_of_range None = None
counter_of_range (Some p) = Some (CounterNumbers p.0 p.1 p.2)

-- settings by the fields after the kind
abbrev pub settings_by : Option KindWord → List (List ℕ) → Option Settings
settings_by None fs = None
settings_by (Some Word) fs = word_of_range (two_words fs)
settings_by (Some Counter) fs = counter_of_range (number_and_two_words fs)

abbrev pub settings_after : Option (List (List ℕ)) → Option Settings
settings_after None = None
settings_after (Some []) = None
settings_after (Some (k ∷ fs)) = settings_by (keyword_of kind_word kind_table k) fs

-- the settings that the fields of a first line spell
abbrev pub settings_in : List (List ℕ) → Option Settings
settings_in fs = settings_after (after_word arithmetic_word fs)

-- whether the fields after the kind are as many as it has numbers
abbrev pub settings_formed_by : Option KindWord → List (List ℕ) → Bool
settings_formed_by None fs = false
settings_formed_by (Some Word) fs = length fs == 2
settings_formed_by (Some Counter) fs = length fs == 3

abbrev pub settings_formed_after : Option (List (List ℕ)) → Bool
settings_formed_after None = false
settings_formed_after (Some []) = false
settings_formed_after (Some (k ∷ fs)) = settings_formed_by (keyword_of kind_word kind_table k) fs

-- whether the fields of a line have the form of a first line
abbrev pub settings_formed : List (List ℕ) → Bool
settings_formed fs = settings_formed_after (after_word arithmetic_word fs)

-- the numbers of a second line, where they are there: the depth, the insistence and the steps
abbrev pub play_of : Option (ℕ × ℕ × ℕ) → Option PlayNumbers
play_of None = None
play_of (Some p) = Some (record { depth = p.0; insistence = p.1; steps = p.2 })

abbrev pub play_after : Option (List (List ℕ)) → Option PlayNumbers
play_after None = None
play_after (Some fs) = play_of (three_numbers fs)

-- the numbers that the fields of a second line spell
abbrev pub play_in : List (List ℕ) → Option PlayNumbers
play_in fs = play_after (after_word play_word fs)

abbrev pub play_formed_after : Option (List (List ℕ)) → Bool
play_formed_after None = false
play_formed_after (Some fs) = length fs == 3

-- whether the fields of a line have the form of a second line
abbrev pub play_formed : List (List ℕ) → Bool
play_formed fs = play_formed_after (after_word play_word fs)
