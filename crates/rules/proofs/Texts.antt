-- The texts of the worked libraries are read, and their rows mount, by computation.
use Rattle.std.proofs.Common.{◌≡◌, true, [], refl}
use Rattle.rules.specs.Libraries.{asserts_and_calls_out, asserts_and_calls_out_text, adds_and_subtracts, adds_and_subtracts_text, empty, hands_out_a_function, hands_out_a_function_text, keeps_a_function, keeps_a_function_text, takes_four_leaves, takes_four_leaves_text, calls_out, calls_out_text}
use Rattle.rules.specs.Texts.{WorkedLibrariesMount}
use Rattle.rules.proofs.Computed.{spelled}
use Rattle.rules.proofs.Tested.{text_test, text_tested}

-- each text passes the test of reading and mounting
asserts_and_calls_out_passes : text_test asserts_and_calls_out_text asserts_and_calls_out ≡ true
asserts_and_calls_out_passes = refl

adds_and_subtracts_passes : text_test adds_and_subtracts_text adds_and_subtracts ≡ true
adds_and_subtracts_passes = refl

empty_passes : text_test [] empty ≡ true
empty_passes = refl

hands_out_a_function_passes : text_test hands_out_a_function_text hands_out_a_function ≡ true
hands_out_a_function_passes = refl

keeps_a_function_passes : text_test keeps_a_function_text keeps_a_function ≡ true
keeps_a_function_passes = refl

takes_four_leaves_passes : text_test takes_four_leaves_text takes_four_leaves ≡ true
takes_four_leaves_passes = refl

calls_out_passes : text_test calls_out_text calls_out ≡ true
calls_out_passes = refl

pub worked_libraries_mount : WorkedLibrariesMount
worked_libraries_mount = record {
  asserts_and_calls_out_mounts = text_tested asserts_and_calls_out_text asserts_and_calls_out asserts_and_calls_out_passes spelled.asserts_and_calls_out_spelled;
  adds_and_subtracts_mounts = text_tested adds_and_subtracts_text adds_and_subtracts adds_and_subtracts_passes spelled.adds_and_subtracts_spelled;
  empty_mounts = text_tested [] empty empty_passes refl;
  hands_out_a_function_mounts = text_tested hands_out_a_function_text hands_out_a_function hands_out_a_function_passes spelled.hands_out_a_function_spelled;
  keeps_a_function_mounts = text_tested keeps_a_function_text keeps_a_function keeps_a_function_passes spelled.keeps_a_function_spelled;
  takes_four_leaves_mounts = text_tested takes_four_leaves_text takes_four_leaves takes_four_leaves_passes spelled.takes_four_leaves_spelled;
  calls_out_mounts = text_tested calls_out_text calls_out calls_out_passes spelled.calls_out_spelled;
}
