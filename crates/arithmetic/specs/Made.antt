-- What making an arithmetic from its settings answers. Assumes nothing.
use Rattle.std.specs.Prelude.{◌≡◌, ℕ, ℤ, Ok, Err, Result}
use Rattle.faults.specs.declared.PlayFault.{PlayFault}
use Rattle.faults.specs.declared.PlayFault.TheVariants.{Settings}
use Rattle.arithmetic.specs.declared.range.HostRange.{HostRange}
use Rattle.arithmetic.specs.declared.kinds.Word.{Word}
use Rattle.arithmetic.specs.declared.kinds.Counter.{Counter}
use Rattle.arithmetic.specs.Settings.{host_range, word_settings, counter_settings}

-- the words from lo to hi where they are within their limits, and else the fault
abbrev pub range_made : ℤ → ℤ → Result HostRange PlayFault → Type 0
range_made lo hi (Ok r) = host_range lo hi × (r.lo ≡ lo) × (r.hi ≡ hi)
range_made lo hi (Err f) = (host_range lo hi → ⊥) × (f ≡ Settings)

-- a word arithmetic with just these settings where they are within their limits, and else the fault
abbrev pub word_made : ℤ → ℤ → Result Word PlayFault → Type 0
word_made lo hi (Ok w) = word_settings lo hi × (w.host.lo ≡ lo) × (w.host.hi ≡ hi)
word_made lo hi (Err f) = (word_settings lo hi → ⊥) × (f ≡ Settings)

-- a counter with just these settings where they are within their limits, and else the fault
abbrev pub counter_made : ℕ → ℤ → ℤ → Result Counter PlayFault → Type 0
counter_made top lo hi (Ok k) = counter_settings top lo hi × (k.top ≡ top) × (k.host.lo ≡ lo) × (k.host.hi ≡ hi)
counter_made top lo hi (Err f) = (counter_settings top lo hi → ⊥) × (f ≡ Settings)
