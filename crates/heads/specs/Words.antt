-- The words of the head lines, each as the bytes of its letters. Assumes nothing.
use Rattle.std.specs.Prelude.{ℕ, List, [], ◌∷◌, codes}
use Rattle.heads.specs.declared.keywords.KindWord.{KindWord}
use Rattle.heads.specs.declared.keywords.KindWord.TheVariants.{Word, Counter}

-- the first field of each line
abbrev pub arithmetic_word : List ℕ
arithmetic_word = codes "arith"

abbrev pub play_word : List ℕ
play_word = codes "play"

-- the second field of a first line names a kind of arithmetic
abbrev pub kind_word : KindWord → List ℕ
kind_word Word = codes "word"
kind_word Counter = codes "counter"

abbrev pub kind_table : List KindWord
kind_table = Word ∷ Counter ∷ []
