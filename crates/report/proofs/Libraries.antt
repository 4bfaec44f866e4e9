-- The text of a library has one answer, and what mounting says of its rows is said of it. Assumes nothing.
use Rattle.std.proofs.Math.Seq.{take-append_seam}
use Rattle.std.proofs.Common.{◌≡◌, ℕ, ◌+◌, List, ◌++◌, length, take, drop, Ok, Err, sym, refl, ap, ◌∙◌, subst, inl, inr, arith, rules}
use Rattle.faults.specs.declared.Placed.{Placed}
use Rattle.faults.specs.declared.LibraryFault.{LibraryFault}
use Rattle.faults.specs.declared.LibraryFault.TheVariants.{Text, Typing}
use Rattle.faults.specs.declared.TypingFault.{TypingFault}
use Rattle.faults.specs.declared.TextFault.{TextFault}
use Rattle.faults.specs.Numbers.{in_library}
use Rattle.rows.specs.declared.forms.Row.{Row}
use Rattle.rows.specs.declared.tally.Counts.{Counts}
use Rattle.rows.specs.Faults.{Faultless}
use Rattle.reader.specs.Text.{Reads}
use Rattle.reader.proofs.Unique.{one_answer}
use Rattle.library.specs.declared.refusal.MountFault.{MountFault}
use Rattle.library.specs.declared.refusal.MountFault.TheVariants.{Refused as MountRefused, Memory as MountMemory}
use Rattle.library.specs.Mounting.{FaultAt, Mounts}
use Rattle.library.proofs.Lists.{nth_inside}
use Rattle.library.proofs.Sorted.{good_at}
use Rattle.library.proofs.Trials.{one_first}
use Rattle.report.specs.Input.{Answer, LibraryAnswer, Only, in_input, most_rows}
use Rattle.report.specs.Results.{NearRows, TextOutcome}

-- a text is read as one list of rows
read_once : (text : List ℕ) (c d : Counts) (rs ss : List Row) → Reads most_rows text (Ok c) rs → Reads most_rows text (Ok d) ss → (c ≡ d) × (rs ≡ ss)
read_once text c d rs ss h k =
    let same = one_answer most_rows text (Ok c) (Ok d) rs ss h k in
    let alike = same.0 in
    (cc, same.1)

-- a text that is read as rows is not refused by reading
read_or_refused : {A : Type 0} (text : List ℕ) (counts : Counts) (told : Placed TextFault) (rs ss : List Row) → Reads most_rows text (Ok counts) rs → Reads most_rows text (Err told) ss → A
read_or_refused text counts told rs ss h k = let same = (one_answer most_rows text (Ok counts) (Err told) rs ss h k).0 in cc

placed_same : (p q : Placed LibraryFault) → p.place ≡ q.place → p.fault ≡ q.fault → p ≡ q
placed_same = search rules

-- rows are refused by mounting for one fault, at one place
refused_once : (rows : List Row) (p q : Placed LibraryFault) → Mounts rows (Err (MountRefused p)) → Mounts rows (Err (MountRefused q)) → p ≡ q
refused_once rows p q h k =
    let same = one_first rows h.0 k.0 p.fault q.fault h.2 k.2 in
    placed_same p q (h.1 ∙ ap (λ i. i + 1) same.0 ∙ sym k.1) same.1

-- rows that mount are not refused
mounts_or_refused : {A : Type 0} (rows : List Row) (p : Placed LibraryFault) → Mounts rows (Ok tt) → Mounts rows (Err (MountRefused p)) → A
mounts_or_refused rows p h k = absurd (h k.0 p.fault k.2.holds)

-- the text of a library has one first fault
one_fault : (text : List ℕ) (p q : Placed LibraryFault) → TextOutcome text (Err (MountRefused p)) → TextOutcome text (Err (MountRefused q)) → p ≡ q
one_fault text p q (inl h) (inl k) =
    let same = (one_answer most_rows text (Err h.0) (Err k.0) h.1 k.1 h.2 k.2).0 in
    let one : h.0 ≡ k.0 = cc in
    h.3 ∙ ap in_library one ∙ sym k.3
one_fault text p q (inl h) (inr k) = read_or_refused text k.0 h.0 k.1 h.1 k.2 h.2
one_fault text p q (inr h) (inl k) = read_or_refused text h.0 k.0 h.1 k.1 h.2 k.2
one_fault text p q (inr h) (inr k) =
    let same = (read_once text h.0 k.0 h.1 k.1 h.2 k.2).1 in
    refused_once k.1 p q (subst (λ rows. Mounts rows (Err (MountRefused p))) same h.3) k.3

-- the text of a library that mounts has no fault
no_fault : {A : Type 0} (text : List ℕ) (counts : Counts) (p : Placed LibraryFault) → TextOutcome text (Ok counts) → TextOutcome text (Err (MountRefused p)) → A
no_fault text counts p h (inl k) = read_or_refused text counts k.0 h.0 k.1 h.1 k.2
no_fault text counts p h (inr k) =
    let same = (read_once text counts k.0 h.0 k.1 h.1 k.2).1 in
    mounts_or_refused k.1 p (subst (λ rows. Mounts rows (Ok tt)) same h.2) k.3

-- the library has one answer
pub only_library : (text : List ℕ) (answer : Answer) → LibraryAnswer text answer → Only (LibraryAnswer text) answer
only_library text (Ok counts) h (Ok other) k = ap Ok (read_once text other counts k.0 h.0 k.1 h.1).0
only_library text (Ok counts) h (Err other) k = no_fault text counts k.0 h k.1
only_library text (Err placed) h (Ok other) k = no_fault text other h.0 k h.1
only_library text (Err placed) h (Err other) k = ap Err (k.2 ∙ ap in_input (one_fault text k.0 h.0 k.1 h.1) ∙ sym h.2)

-- the rows that were read stand first among the rows handed in, as many as their counts say
rows_first : (text : List ℕ) (counts : Counts) (filled rows old : List Row) (n : ℕ) → Reads most_rows text (Ok counts) filled → rows ≡ filled ++ drop (length filled) old → n ≡ counts.types + counts.variables + counts.methods + counts.globals + counts.terms → take n rows ≡ filled
rows_first text counts filled rows old n reads is total = ap (λ k. take k rows) (total ∙ reads.2) ∙ ap (take (length filled)) is ∙ take-append_seam filled (drop (length filled) old)

-- a fault of rows that have none of the text is one of typing
typing_fault : (rows : List Row) (i : ℕ) (fault : LibraryFault) → Faultless rows → FaultAt rows i fault → (told : TypingFault) × (fault ≡ Typing told)
typing_fault rows i (Text fault) fine h = absurd (good_at rows fine i h.0 h.1 fault h.2)
typing_fault rows i (Typing fault) fine h = (fault, refl)

-- what mounting says of rows that were read, said of their text
pub refused_by_mounting : (text : List ℕ) (counts : Counts) (filled rows old : List Row) (n : ℕ) (fault : MountFault) → Reads most_rows text (Ok counts) filled → rows ≡ filled ++ drop (length filled) old → n ≡ counts.types + counts.variables + counts.methods + counts.globals + counts.terms → Mounts (take n rows) (Err fault) → TextOutcome text (Err fault) × NearRows fault
refused_by_mounting text counts filled rows old n (MountRefused found) reads is total mounts =
    let told = subst (λ rs. Mounts rs (Err (MountRefused found))) (rows_first text counts filled rows old n reads is total) mounts in
    let inside = nth_inside filled told.0 told.2.holds.0 told.2.holds.1 in
    let typing = typing_fault filled told.0 found.fault reads.0.faultless told.2.holds in
    (inr (counts, filled, reads, told, typing.0, typing.1), omega (arith, told.1, inside, reads.0.fits))
refused_by_mounting text counts filled rows old n MountMemory reads is total mounts = (tt, tt)
