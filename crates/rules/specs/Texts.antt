-- The texts of the worked libraries as they are read and mounted. Assumes nothing.
use Rattle.std.specs.Prelude.{ℕ, List, [], length, Ok}
use Rattle.rows.specs.declared.forms.Row.{Row}
use Rattle.rows.specs.declared.tally.Counts.{Counts}
use Rattle.reader.specs.Text.{Reads}
use Rattle.library.specs.Mounting.{Mounts}
use Rattle.rules.specs.Libraries.{asserts_and_calls_out, asserts_and_calls_out_text, adds_and_subtracts, adds_and_subtracts_text, empty, hands_out_a_function, hands_out_a_function_text, keeps_a_function, keeps_a_function_text, takes_four_leaves, takes_four_leaves_text, calls_out, calls_out_text}

-- the text is read as these rows, and they mount
pub record ReadsAndMounts (text : List ℕ) (rows : List Row) : Type 0 where
  pub counts : Counts
  pub reads : Reads (length rows) text (Ok counts) rows
  pub mounts : Mounts rows (Ok tt)

-- the text of each worked library is read as its rows, which mount
pub record WorkedLibrariesMount : Type 0 where
  pub asserts_and_calls_out_mounts : ReadsAndMounts asserts_and_calls_out_text asserts_and_calls_out
  pub adds_and_subtracts_mounts : ReadsAndMounts adds_and_subtracts_text adds_and_subtracts
  pub empty_mounts : ReadsAndMounts [] empty
  pub hands_out_a_function_mounts : ReadsAndMounts hands_out_a_function_text hands_out_a_function
  pub keeps_a_function_mounts : ReadsAndMounts keeps_a_function_text keeps_a_function
  pub takes_four_leaves_mounts : ReadsAndMounts takes_four_leaves_text takes_four_leaves
  pub calls_out_mounts : ReadsAndMounts calls_out_text calls_out
