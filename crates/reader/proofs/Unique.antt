-- A text has one answer. Assumes nothing.
use Rattle.std.proofs.lemmas.Grind.{common_steps}
use Rattle.std.proofs.Math.Seq.{take-append_seam}
use Rattle.std.proofs.Common.{◌≡◌, ℕ, ◌+◌, ◌≤◌, true, ltb, List, [], ◌∷◌, ◌++◌, length, drop, Some, None, Ok, Err, Option, Result, sym, refl, ap, ◌∙◌, subst, ⊎_elim, append_assoc, append-nil, arith, length-append, lt-ltb, rules}
use Rattle.std.proofs.lemmas.List.{get_or_at}
use Rattle.faults.specs.declared.Placed.{Placed}
use Rattle.faults.specs.declared.TextFault.{TextFault}
use Rattle.faults.specs.Numbers.{text_number}
use Rattle.faults.proofs.Once.{least_once}
use Rattle.text.specs.Slots.{Lacks}
use Rattle.rows.specs.declared.forms.Row.{Row}
use Rattle.rows.specs.declared.forms.Section.TheVariants.{Types, Variables, Methods, Globals, Terms}
use Rattle.rows.specs.declared.tally.Counts.{Counts}
use Rattle.rows.specs.Printing.{row_line, row_lines}
use Rattle.rows.specs.Faults.{Faultless, Least, NoneOf, RowFault}
use Rattle.rows.specs.Tallies.{CountsOf}
use Rattle.reader.specs.Text.{LineFault, FirstLine, Granted, RefusedAfter, Reads}
use Rattle.reader.proofs.Lines.{line_body, spells_one, no_line_fault}

-- a fault is told by its number
same_fault : (f g : TextFault) → text_number f ≡ text_number g → f ≡ g
same_fault = search rules

-- bytes up to the first line feed
pub first_feed : (xs ys t u : List ℕ) → Lacks 10 xs → Lacks 10 ys → xs ++ (10 ∷ t) ≡ ys ++ (10 ∷ u) → (xs ≡ ys) × (t ≡ u)
first_feed [] [] t u h k e = (refl, cc)
first_feed [] (y ∷ ys) t u h k e = let z : y ≡ 10 = cc in absurd (k.0 z)
first_feed (x ∷ xs) [] t u h k e = let z : x ≡ 10 = cc in absurd (h.0 z)
first_feed (x ∷ xs) (y ∷ ys) t u h k e =
    let heads : x ≡ y = cc in
    let tails : xs ++ (10 ∷ t) ≡ ys ++ (10 ∷ u) = cc in
    let p = first_feed xs ys t u h.1 k.1 tails in
    ((λ i. heads i ∷ p.0 i), p.1)

pub has_feed : (xs t : List ℕ) → Lacks 10 (xs ++ (10 ∷ t)) → ⊥
has_feed [] t h = h.0 refl
has_feed (x ∷ xs) t h = has_feed xs t h.1

-- a line feed behind bytes, and more bytes behind it
feed_then : (body more : List ℕ) → (body ++ (10 ∷ [])) ++ more ≡ body ++ (10 ∷ more)
feed_then body more = append_assoc body (10 ∷ []) more

-- the first line of a text that begins with a printed line is that line
first_printed : (text line later body more : List ℕ) → Lacks 10 body → text ≡ body ++ (10 ∷ more) → FirstLine text line later → line ≡ body ++ (10 ∷ [])
first_printed = grind (arith, common_steps, first_feed, has_feed)

first_same : (text line later other rest : List ℕ) → FirstLine text line later → FirstLine text other rest → line ≡ other
first_same = grind (arith, common_steps, first_feed, has_feed)

first_some : (line later : List ℕ) → FirstLine [] line later → ⊥
first_some line later f = let none : 0 ≡ length (line ++ later) = ap length f.parts in grind (arith, common_steps, length-append)

-- each of the rows has no fault after the rows b and those of them before it
abbrev EachGood : List Row → List Row → Type 0
EachGood b [] = Unit {0}
EachGood b (r ∷ rs) = NoneOf (RowFault true b r) × EachGood (b ++ (r ∷ [])) rs

good_from : (b rs : List Row) → Faultless (b ++ rs) → EachGood b rs
good_from b [] h = tt
good_from b (r ∷ rs) h = (here, good_from (b ++ (r ∷ [])) rs (subst Faultless (sym (append_assoc b (r ∷ []) rs)) h))
  where
    here : NoneOf (RowFault true b r)
    here = rw (take-append_seam b (r ∷ rs)) at (h (length b) r (omega (arith, length-append b (r ∷ rs))) (get_or_at b r rs r (length b) refl))

-- where reading stops after the rows: at the end of the text, or at a line with a fault
abbrev Stops : ℕ → List Row → List ℕ → Option TextFault → Type 0
Stops room rows rest None = (rest ≡ []) × (length rows ≤ room)
Stops room rows rest (Some fault) = (line : List ℕ) × (later : List ℕ) × FirstLine rest line later × Least (LineFault (ltb (length rows) room) rows line) fault × (length rows ≤ room)

stops_room : (room : ℕ) (rows : List Row) (rest : List ℕ) (o : Option TextFault) → Stops room rows rest o → length rows ≤ room
stops_room room rows rest None h = h.1
stops_room room rows rest (Some f) h = h.4

-- a row without fault stops nothing
passes : (room : ℕ) (b : List Row) (r : Row) (rs : List Row) (t : List ℕ) (o : Option TextFault) → NoneOf (RowFault true b r) → length (b ++ (r ∷ rs)) ≤ room → Stops room b (row_line r ++ t) o → ⊥
passes room b r rs t None good fits h =
    let body = line_body {before = b} r good in
    let none = h.0 in let is = body.1 in grind (arith, common_steps)
passes room b r rs t (Some f) good fits h =
    let body = line_body {before = b} r good in
    let line = first_printed (row_line r ++ t) h.0 h.1 body.0 t body.2 (ap (λ l. l ++ t) body.1 ∙ feed_then body.0 t) h.2 ∙ sym body.1 in
    let room_left : ltb (length b) room ≡ true = lt-ltb (length b) room (omega (arith, length-append b (r ∷ rs))) in
    no_line_fault {before = b} r good f (subst (λ x. LineFault x b (row_line r) f) room_left (subst (λ l. LineFault (ltb (length b) room) b l f) line h.3.here))

one_stop : (room : ℕ) (b rs ss : List Row) (t u : List ℕ) (o p : Option TextFault) → EachGood b rs → EachGood b ss → row_lines rs ++ t ≡ row_lines ss ++ u → Stops room (b ++ rs) t o → Stops room (b ++ ss) u p → (o ≡ p) × (rs ≡ ss)
one_stop room b [] [] t u None None g k e h j = (refl, refl)
one_stop room b [] [] t u None (Some f) g k e h j = absurd (first_some j.0 j.1 (subst (λ x. FirstLine x j.0 j.1) (sym e ∙ h.0) j.2))
one_stop room b [] [] t u (Some f) None g k e h j = absurd (first_some h.0 h.1 (subst (λ x. FirstLine x h.0 h.1) (e ∙ j.0) h.2))
one_stop room b [] [] t u (Some f) (Some x) g k e h j =
    let line = first_same u h.0 h.1 j.0 j.1 (subst (λ v. FirstLine v h.0 h.1) e h.2) j.2 in
    (ap Some (least_once text_number same_fault (LineFault (ltb (length (b ++ [])) room) (b ++ []) j.0) f x (subst (λ l. Least (LineFault (ltb (length (b ++ [])) room) (b ++ []) l) f) line h.3) j.3), refl)
one_stop room b [] (r ∷ ss) t u o p g k e h j =
    absurd (passes room b r ss (row_lines ss ++ u) o k.0 (stops_room room (b ++ (r ∷ ss)) u p j) (subst (λ x. Stops room x (row_line r ++ (row_lines ss ++ u)) o) (append-nil b) (subst (λ x. Stops room (b ++ []) x o) (e ∙ append_assoc (row_line r) (row_lines ss) u) h)))
one_stop room b (r ∷ rs) [] t u o p g k e h j =
    absurd (passes room b r rs (row_lines rs ++ t) p g.0 (stops_room room (b ++ (r ∷ rs)) t o h) (subst (λ x. Stops room x (row_line r ++ (row_lines rs ++ t)) p) (append-nil b) (subst (λ x. Stops room (b ++ []) x p) (sym e ∙ append_assoc (row_line r) (row_lines rs) t) j)))
one_stop room b (r ∷ rs) (s ∷ ss) t u o p g k e h j =
    let x = line_body {before = b} r g.0 in
    let y = line_body {before = b} s k.0 in
    let split : x.0 ++ (10 ∷ (row_lines rs ++ t)) ≡ y.0 ++ (10 ∷ (row_lines ss ++ u)) =
    sym (feed_then x.0 _) ∙ ap (λ l. l ++ (row_lines rs ++ t)) (sym x.1) ∙ sym (append_assoc (row_line r) (row_lines rs) t) ∙ e ∙ append_assoc (row_line s) (row_lines ss) u ∙ ap (λ l. l ++ (row_lines ss ++ u)) y.1 ∙ feed_then y.0 _
    in
    let parts = first_feed x.0 y.0 (row_lines rs ++ t) (row_lines ss ++ u) x.2 y.2 split in
    let same : s ≡ r = spells_one {before = b} r s g.0 k.0 (x.1 ∙ ap (λ l. l ++ (10 ∷ [])) parts.0 ∙ sym y.1) in
    let more = one_stop room (b ++ (r ∷ [])) rs ss t u o p g.1 (subst (λ v. EachGood (b ++ (v ∷ [])) ss) same k.1) parts.1
    (subst (λ v. Stops room v t o) (sym (append_assoc b (r ∷ []) rs)) h)
    (subst (λ v. Stops room v u p) (ap (λ v. b ++ (v ∷ ss)) same ∙ sym (append_assoc b (r ∷ []) ss)) j)
    in
    (more.0, ap (λ v. v ∷ rs) (sym same) ∙ ap (λ v. s ∷ v) more.1)

-- the counts of rows are told by the rows
counts_same : (rows : List Row) (c d : Counts) → CountsOf rows c → CountsOf rows d → c ≡ d
counts_same rows c d h k = λ i. record {
  types = (h Types ∙ sym (k Types)) i;
  variables = (h Variables ∙ sym (k Variables)) i;
  methods = (h Methods ∙ sym (k Methods)) i;
  globals = (h Globals ∙ sym (k Globals)) i;
  terms = (h Terms ∙ sym (k Terms)) i;
}

placed_same : (p q : Placed TextFault) → p.place ≡ q.place → p.fault ≡ q.fault → p ≡ q
placed_same = search rules

granted_stops : (room : ℕ) (text : List ℕ) (rows : List Row) → Granted room text rows → Stops room ([] ++ rows) [] None × EachGood [] rows × (row_lines rows ++ [] ≡ text)
granted_stops room text rows g = ((refl, g.fits), good_from [] rows g.faultless, append-nil (row_lines rows) ∙ sym g.printing)

refused_stops : (room : ℕ) (text : List ℕ) (rows : List Row) (fault : TextFault) (r : RefusedAfter room text rows fault) → Stops room ([] ++ rows) r.rest (Some fault) × EachGood [] rows × (row_lines rows ++ r.rest ≡ text)
refused_stops room text rows fault r = ((r.line, r.later, r.next_line, r.least, r.fits), good_from [] rows r.faultless, sym r.printing)

-- a text has one answer, and one list of rows that are filled
pub one_answer : (room : ℕ) (text : List ℕ) (a b : Result Counts (Placed TextFault)) (rs ss : List Row) → Reads room text a rs → Reads room text b ss → (a ≡ b) × (rs ≡ ss)
one_answer room text (Ok c) (Ok d) rs ss h k =
    let x = granted_stops room text rs h.0 in
    let y = granted_stops room text ss k.0 in
    let same = one_stop room [] rs ss [] [] None None x.1 y.1 (x.2 ∙ sym y.2) x.0 y.0 in
    (ap Ok (counts_same rs c d h.1 (subst (λ r. CountsOf r d) (sym same.1) k.1)), same.1)
one_answer room text (Ok c) (Err p) rs ss h k =
    let x = granted_stops room text rs h.0 in
    ⊎_elim
    (λ r.
    let y = refused_stops room text ss p.fault r.0 in
    let same = one_stop room [] rs ss [] r.0.rest None (Some p.fault) x.1 y.1 (x.2 ∙ sym y.2) x.0 y.0 in
    let e = same.0 in cc)
    (λ r. let short = h.0.short in absurd (omega (arith, r.0)))
    k
one_answer room text (Err p) (Ok d) rs ss h k =
    let y = granted_stops room text ss k.0 in
    ⊎_elim
    (λ r.
    let x = refused_stops room text rs p.fault r.0 in
    let same = one_stop room [] rs ss r.0.rest [] (Some p.fault) None x.1 y.1 (x.2 ∙ sym y.2) x.0 y.0 in
    let e = same.0 in cc)
    (λ r. let short = k.0.short in absurd (omega (arith, r.0)))
    h
one_answer room text (Err p) (Err q) rs ss h k =
    ⊎_elim
    (λ r.
    ⊎_elim
    (λ s.
    let x = refused_stops room text rs p.fault r.0 in
    let y = refused_stops room text ss q.fault s.0 in
    let same = one_stop room [] rs ss r.0.rest s.0.rest (Some p.fault) (Some q.fault) x.1 y.1 (x.2 ∙ sym y.2) x.0 y.0 in
    let fault : p.fault ≡ q.fault = let e = same.0 in cc in
    (ap Err (placed_same p q (r.1 ∙ ap (λ l. length l + 1) same.1 ∙ sym s.1) fault), same.1))
    (λ s. let short = r.0.short in absurd (omega (arith, s.0)))
    k)
    (λ r. ⊎_elim (λ s. let short = s.0.short in absurd (omega (arith, r.0))) (λ s. (ap Err (r.1 ∙ sym s.1), r.2 ∙ sym s.2)) k)
    h

-- an answer that is told of a text with the rows that are filled, and that no other answer is told
pub only_answer : (room : ℕ) (text : List ℕ) (a : Result Counts (Placed TextFault)) (rs old rows : List Row) → Reads room text a rs → rows ≡ rs ++ drop (length rs) old → ((filled : List Row) × Reads room text a filled × (rows ≡ filled ++ drop (length filled) old)) × ((answer : Result Counts (Placed TextFault)) (filled : List Row) → Reads room text answer filled → (answer ≡ a) × (rows ≡ filled ++ drop (length filled) old))
only_answer room text a rs old rows h is = ((rs, h, is), every)
  where
    every : (answer : Result Counts (Placed TextFault)) (filled : List Row) → Reads room text answer filled → (answer ≡ a) × (rows ≡ filled ++ drop (length filled) old)
    every answer filled k =
        let same = one_answer room text answer a filled rs k h in
        (same.0, is ∙ ap (λ l. l ++ drop (length l) old) (sym same.1))
