-- A report is no longer than the room that is asked for, and never empty.
use Prim.Native.Nat.{ℕ, ◌*◌, ◌≤◌, ◌<◌}
use mathlib.Core.List.{List, [], ◌∷◌, ◌++◌}
use mathlib.Core.Logic.{inl, inr}
use native.Mathlib.Omega.{arith}
use lib.Dec.{ltb, leb, eqb}
use lib.ListN.{length, drop, length-append, length-take}
use borrow.Author.Tests.{ltb-false, leb-true}
use Rattle.lists.proofs.Choice.{if_both, and_true}
use Rattle.lists.proofs.Every.{All}
use Rattle.lists.proofs.Puts.{put_length}
use Rattle.standard.specs.declared.Context.{Context}
use Rattle.standard.specs.declared.Context.TheVariants.{Text, Attribute}
use Rattle.standard.specs.Utf8.{bytes}
use Rattle.standard.specs.Answers.{done, context_end}
use Rattle.standard.specs.Errors.{Error}
use Rattle.standard.specs.Names.{stands}
use Rattle.standard.specs.NameList.{builtin}
use Rattle.standard.specs.Reading.{Stop, stop_of, covered, readable, Reading, decode}
use Rattle.standard.proofs.Bounds.{text_fits, errors_fit}
use Rattle.standard.proofs.Computing.{computing_parts}
use Rattle.standard.proofs.Narrow.{builtin_narrow}
use Rattle.standard.proofs.Stops.{stop-place, OneOf, stops_with}
use Rattle.reporting.specs.Report.{
  decimal,
  pair,
  line,
  error_lines,
  closing_line,
  reading_lines,
  source_report,
  longest_source,
  for_source,
  for_input,
  report_of,
  report_room,
  roomy,
  Reports,
}
use Rattle.standard.proofs.Codes.{Placed, errors-placed}
use Rattle.reporting.proofs.Decimals.{one-digit, four_digits}

-- A line of a code and a place of four digits has at most seven bytes.
pair_bound : (a b : ℕ) → a < 10 → b < 10000 → length (line (pair a b)) ≤ 7
pair_bound a b h k = simp length-append (omega (arith, one-digit a h, four_digits b k))

-- The lines of errors.
lines_bound : (end : ℕ) (errors : List Error) → end ≤ 10000 → All (Placed end) errors → length (error_lines errors) ≤ 7 * length errors
unfolding error_lines
lines_bound end [] h all = omega arith
lines_bound end (e ∷ errors) h all =
    let p : List ℕ = line (pair e.code e.place) in
    let first = pair_bound e.code e.place all.0.0 (omega (arith, all.0.1)) in
    omega (arith, length-append p (error_lines errors), lines_bound end errors h all.1)

-- An answer has one digit.
answer-short : {a : ℕ} → OneOf a → a < 10
answer-short (inl e) = omega arith
answer-short (inr (inl e)) = omega arith
answer-short (inr (inr (inl e))) = omega arith
answer-short (inr (inr (inr e))) = omega arith

-- The last line.
closing_bound : (stop : Stop) (n : ℕ) → stop.answer < 10 → stop.place < 10000 → n < 10000 → length (closing_line stop n) ≤ 15
unfolding closing_line computing_parts
closing_bound stop n a p l =
    if_both (λ (u : List ℕ). length u ≤ 15) (eqb stop.answer done) _ _ (λ t. simp length-append (omega (arith, four_digits n l)))
    (λ f. if_both (λ (u : List ℕ). length u ≤ 15) (eqb stop.answer context_end) _ _
    (λ t. simp length-append (omega (arith, four_digits stop.place p)))
    (λ f. omega (arith, pair_bound stop.answer stop.place a p)))

-- What stands before it.
reading_bound : (context : Context) (s : List ℕ) → length s ≤ 4096 → length (reading_lines (decode builtin context s)) ≤ 32769
reading_bound context s h =
    let r : Reading = decode builtin context s in
    simp length-append
    (omega (
      arith,
      text_fits builtin context s builtin_narrow,
      errors_fit builtin context s,
      lines_bound (length s) r.errors (omega arith) (errors-placed builtin context s),
    ))

-- The report of a source.
pub source_bound : (context : Context) (s : List ℕ) → length s ≤ 4096 → length (source_report context s) ≤ report_room
unfolding source_report
source_bound context s h =
    let within = stop-place context s in
    let last = closing_bound (stop_of context s) (length s) (answer-short (stops_with context s)) (omega arith) (omega arith) in
    let few : length (covered context s) ≤ 4096 = simp length-take (omega arith) in
    let before = reading_bound context (covered context s) few in
    if_both (λ (u : List ℕ). length u ≤ report_room) (readable context s) _ _
    (λ t. omega (arith, length-append (reading_lines (decode builtin context (covered context s))) (closing_line (stop_of context s) (length s))))
    (λ f. omega arith)

-- The report of a source that may be longer.
long_bound : (context : Context) (s : List ℕ) → length (for_source (line (bytes "too long")) source_report context s) ≤ report_room
unfolding computing_parts
long_bound context s =
    if_both (λ (u : List ℕ). length u ≤ report_room) (ltb longest_source (length s)) _ _ (λ t. omega arith)
    (λ f. source_bound context s (ltb-false longest_source (length s) f))

-- The report of an input.
pub report_bound : (input : List ℕ) → length (report_of input) ≤ report_room
unfolding for_input computing_parts
report_bound input =
    if_both (λ (u : List ℕ). length u ≤ report_room) (stands (bytes "T\n") input) _ _ (λ t. long_bound Text (drop 2 input))
    (λ f. if_both (λ (u : List ℕ). length u ≤ report_room) (stands (bytes "A\n") input) _ _ (λ t. long_bound Attribute (drop 2 input))
    (λ f. omega arith))

-- So what a call writes fits its room, before and after.
pub written-fits : {input out errors out' errors' : List ℕ} {r : ℕ} → Reports input out errors r out' errors' → (r ≤ length out) × (r ≤ length out')
written-fits {input} {out} {errors} h =
    let fits = if_both (λ (u : List ℕ). length u ≤ length out) (roomy (length out) (length errors)) (report_of input) []
    (λ t. omega (arith, report_bound input, leb-true report_room (length out) (and_true (leb report_room (length out)) _ t).0))
    (λ f. omega arith) in
    omega (arith, h.written.next_is, put_length h.written)

-- A line has at least its LF.
line-some : (words : List ℕ) → 0 < length (line words)
line-some words = simp length-append (omega arith)

-- So has a last line.
closing-some : (stop : Stop) (n : ℕ) → 0 < length (closing_line stop n)
unfolding closing_line
closing-some stop n =
    if_both (λ (u : List ℕ). 0 < length u) (eqb stop.answer done) _ _ (λ t. line-some (bytes "end " ++ decimal n))
    (λ f. if_both (λ (u : List ℕ). 0 < length u) (eqb stop.answer context_end) _ _ (λ t. line-some (bytes "left " ++ decimal stop.place))
    (λ f. line-some (bytes "refused " ++ pair stop.answer stop.place)))

-- So has the report of a source.
source-some : (context : Context) (s : List ℕ) → 0 < length (for_source (line (bytes "too long")) source_report context s)
unfolding source_report
source-some context s =
    let last = closing-some (stop_of context s) (length s) in
    if_both (λ (u : List ℕ). 0 < length u) (ltb longest_source (length s)) _ _ (λ t. line-some (bytes "too long"))
    (λ f. if_both (λ (u : List ℕ). 0 < length u) (readable context s) _ _
    (λ t. omega (arith, length-append (reading_lines (decode builtin context (covered context s))) (closing_line (stop_of context s) (length s))))
    (λ f. last))

-- So no report is empty.
pub report-some : (input : List ℕ) → 0 < length (report_of input)
unfolding for_input
report-some input =
    if_both (λ (u : List ℕ). 0 < length u) (stands (bytes "T\n") input) _ _ (λ t. source-some Text (drop 2 input))
    (λ f. if_both (λ (u : List ℕ). 0 < length u) (stands (bytes "A\n") input) _ _ (λ t. source-some Attribute (drop 2 input))
    (λ f. line-some (bytes "bad context")))
