-- The number that a user is told for each fault, and how a fault of the text or of a library becomes a fault of play.
-- Assumes nothing.
use Rattle.std.specs.Prelude.{ℕ}
use Rattle.faults.specs.declared.TextFault.{TextFault}
use Rattle.faults.specs.declared.TextFault.TheVariants.{Form, Number, Order, Reference, Limit, Repeat}
use Rattle.faults.specs.declared.PlayFault.{PlayFault}
use Rattle.faults.specs.declared.PlayFault.TheVariants.{Text, Typing, Bounds, Settings}
use Rattle.faults.specs.declared.TypingFault.{TypingFault}
use Rattle.faults.specs.declared.TypingFault.TheVariants.{Parts, Unlisted, Definition}
use Rattle.faults.specs.declared.LibraryFault.{LibraryFault}
use Rattle.faults.specs.declared.LibraryFault.TheVariants.{Text as LibraryText, Typing as LibraryTyping}
use Rattle.faults.specs.declared.Placed.{Placed}

-- faults of the text have the numbers from 10
abbrev pub text_number : TextFault → ℕ
text_number Form = 10
text_number Number = 11
text_number Order = 12
text_number Reference = 13
text_number Limit = 14
text_number Repeat = 15

-- faults of typing have the numbers from 16
abbrev pub typing_number : TypingFault → ℕ
typing_number Parts = 16
typing_number Unlisted = 17
typing_number Definition = 18

-- a fault of a library has the number that it has in the text or in typing
abbrev pub library_number : LibraryFault → ℕ
library_number (LibraryText f) = text_number f
library_number (LibraryTyping f) = typing_number f

-- faults of play have the numbers from 20, and a fault of the library keeps its number among them
abbrev pub play_number : PlayFault → ℕ
play_number (Text f) = text_number f
play_number (Typing f) = typing_number f
play_number Bounds = 20
play_number Settings = 22

-- a fault of the text, taken in as a fault of play, keeps its place
abbrev pub taken_in : Placed TextFault → Placed PlayFault
taken_in p = record { place = p.place; fault = Text p.fault }

-- a fault of the text, taken in as a fault of a library, keeps its place
abbrev pub in_library : Placed TextFault → Placed LibraryFault
in_library p = record { place = p.place; fault = LibraryText p.fault }

-- a fault of a library as a fault of play
abbrev pub as_play : LibraryFault → PlayFault
as_play (LibraryText f) = Text f
as_play (LibraryTyping f) = Typing f

-- a fault of a library, taken in as a fault of play, keeps its place
abbrev pub in_play : Placed LibraryFault → Placed PlayFault
in_play p = record { place = p.place; fault = as_play p.fault }
