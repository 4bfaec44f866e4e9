-- The first line of an input, `arith,word,LO,HI` or `arith,counter,TOP,LO,HI`: what it names, and how it is answered. LO and
-- HI are the ends of the range of words that the host may say. Assumes nothing.
use Rattle.std.specs.Prelude.{◌≡◌, ℕ, List, [], ◌∷◌, Ok, Err, Result}
use Rattle.faults.specs.declared.PlayFault.{PlayFault}
use Rattle.faults.specs.declared.PlayFault.TheVariants.{Text, Typing, Bounds, Settings as SettingsFault}
use Rattle.arithmetic.specs.Settings.{word_settings, counter_settings}
use Rattle.text.specs.Slots.{Slot, literal, number, word}
use Rattle.heads.specs.declared.keywords.KindWord.TheVariants.{Word as WordKind, Counter as CounterKind}
use Rattle.heads.specs.declared.settings.Kind.{Kind}
use Rattle.heads.specs.declared.settings.Kind.TheVariants.{Word, Counter}
use Rattle.heads.specs.declared.settings.Settings.{Settings}
use Rattle.heads.specs.declared.settings.Settings.TheVariants.{Word as WordNumbers, Counter as CounterNumbers}
use Rattle.heads.specs.Words.{arithmetic_word, kind_word}
use Rattle.heads.specs.Lines.{SpellsWithin, HasTextFault, SpellsOutside, Answers}

-- the fields of the line that names settings
abbrev pub settings_slots : Settings → List Slot
settings_slots (WordNumbers lo hi) = literal arithmetic_word ∷ literal (kind_word WordKind) ∷ word lo ∷ word hi ∷ []
settings_slots (CounterNumbers top lo hi) = literal arithmetic_word ∷ literal (kind_word CounterKind) ∷ number top ∷ word lo ∷ word hi ∷ []

-- settings are within the limits of their kind
abbrev pub SettingsWithinLimits : Settings → Type 0
SettingsWithinLimits (WordNumbers lo hi) = word_settings lo hi
SettingsWithinLimits (CounterNumbers top lo hi) = counter_settings top lo hi

-- the settings of an arithmetic
abbrev pub settings_of : Kind → Settings
settings_of (Word arithmetic) = WordNumbers arithmetic.host.lo arithmetic.host.hi
settings_of (Counter arithmetic) = CounterNumbers arithmetic.top arithmetic.host.lo arithmetic.host.hi

-- the arithmetic of just these settings where they are within their limits, and else the fault
abbrev pub Made : Settings → Result Kind PlayFault → Type 0
Made settings (Ok kind) = SettingsWithinLimits settings × (settings_of kind ≡ settings)
Made settings (Err fault) = (SettingsWithinLimits settings → ⊥) × (fault ≡ SettingsFault)

-- a fault holds of the line
abbrev pub ArithmeticLineFault : List ℕ → PlayFault → Type 0
ArithmeticLineFault line (Text fault) = HasTextFault settings_slots line fault
ArithmeticLineFault line (Typing fault) = ⊥
ArithmeticLineFault line Bounds = ⊥
ArithmeticLineFault line SettingsFault = SpellsOutside settings_slots SettingsWithinLimits line

-- the answer to the line: the arithmetic whose settings it spells, within their limits, or its least fault
abbrev pub ArithmeticAnswer : List ℕ → Result Kind PlayFault → Type 0
ArithmeticAnswer line = Answers (λ kind. SpellsWithin settings_slots SettingsWithinLimits line (settings_of kind)) (ArithmeticLineFault line)
