-- Document 01, 'The bench program': what is written for what stands on standard input.
use Rattle.std.specs.Prelude.{ℕ, zero, suc, ◌+◌, ◌*◌, ◌/◌, ◌%◌, ◌≡◌, List, [], ◌∷◌, ◌++◌, Bool, ◌&&◌, ltb, leb, eqb, length, drop, if◌then◌else◌}
use Prim.Native.Char.{code}
use Rattle.std.proofs.lemmas.List.Edits.{sets}
use Rattle.lists.specs.Rooms.{Put}
use Rattle.standard.specs.declared.Context.{Context}
use Rattle.standard.specs.declared.Context.TheVariants.{Text, Attribute}
use Rattle.standard.specs.Utf8.{bytes}
use Rattle.standard.specs.Answers.{done, context_end}
use Rattle.standard.specs.Errors.{Error, numbers}
use Rattle.standard.specs.Names.{stands}
use Rattle.standard.specs.NameList.{builtin}
use Rattle.standard.specs.Reading.{Stop, stop_of, covered, readable, Reading, decode}
use Rattle.decoder.specs.Whole.{error_room_for}

-- A digit in ASCII.
abbrev pub digit : ℕ → ℕ
digit n = code "0" + n

-- The decimal digits of a number that has at most so many of them.
unfoldable pub decimal_by : (most n : ℕ) → List ℕ
decimal_by zero n = []
decimal_by (suc most) n =
    let before : List ℕ = decimal_by most (n / 10) in if ltb n 10 then digit n ∷ [] else before ++ (digit (n % 10) ∷ [])

-- A number in decimal, without zeros in front. It has no more digits than its value and one.
unfoldable pub decimal : ℕ → List ℕ
decimal n = decimal_by (suc n) n

-- Two numbers, with a space between them.
abbrev pub pair : ℕ → ℕ → List ℕ
pair a b = decimal a ++ (code " " ∷ decimal b)

-- A line: words and LF.
abbrev pub line : List ℕ → List ℕ
line words = words ++ (code "\n" ∷ [])

-- 'One `code place` line per error.'
unfoldable pub error_lines : List Error → List ℕ
error_lines [] = []
error_lines (e ∷ errors) = line (pair e.code e.place) ++ error_lines errors

-- '`end P`, `left P` or `refused N P`. P is the place, for `end` the source length.'
unfoldable pub closing_line : Stop → (length : ℕ) → List ℕ
closing_line stop length =
    if eqb stop.answer done then line (bytes "end " ++ decimal length)
    else if eqb stop.answer context_end then line (bytes "left " ++ decimal stop.place)
    else line (bytes "refused " ++ pair stop.answer stop.place)

-- 'Otherwise decoded text and LF, one `code place` line per error, and ..': what stands before the last line.
abbrev pub reading_lines : Reading → List ℕ
reading_lines r = line r.text ++ error_lines r.errors

-- 'For 1 and 2 only that last line.'
unfoldable pub source_report : Context → List ℕ → List ℕ
source_report context s =
    let last : List ℕ = closing_line (stop_of context s) (length s) in
    if readable context s then reading_lines (decode builtin context (covered context s)) ++ last else last

-- The errors that are read of a source.
unfoldable pub source_errors : Context → List ℕ → List Error
source_errors context s = if readable context s then (decode builtin context (covered context s)).errors else []

-- 'At most 4,096 source bytes.'
abbrev pub longest_source : ℕ
longest_source = 4096

-- As many bytes of an input tell its report: one more than it may have.
abbrev pub input_room : ℕ
input_room = 2 + longest_source + 1

-- What there is for a source of a context, or for a longer one.
abbrev pub for_source : {A : Type 0} (long : A) → (Context → List ℕ → A) → Context → List ℕ → A
for_source long of context s = if ltb longest_source (length s) then long else of context s

-- '`T` or `A`, LF, then ..': what there is for an input, for one with another start and for one with a longer source.
unfoldable pub for_input : {A : Type 0} (bad long : A) → (Context → List ℕ → A) → List ℕ → A
for_input bad long of input =
    if stands (bytes "T\n") input then for_source long of Text (drop 2 input)
    else if stands (bytes "A\n") input then for_source long of Attribute (drop 2 input)
    else bad

-- 'Another start writes `bad context`, else a longer source `too long`, each one line.'
abbrev pub report_of : List ℕ → List ℕ
report_of input = for_input (line (bytes "bad context")) (line (bytes "too long")) source_report input

-- The errors that are read of an input.
abbrev pub errors_of : List ℕ → List Error
errors_of input = for_input [] [] source_errors input

-- The room that is asked for a report: for the longest text and LF, as many lines like `5 4095`, and a last line like `refused 1 4095`.
abbrev pub report_room : ℕ
report_room = longest_source + 1 + 7 * longest_source + 15

-- And for errors: what `decode_whole` asks for.
abbrev pub numbers_room : ℕ
numbers_room = error_room_for longest_source

-- The rooms have these lengths.
abbrev pub roomy : (out errors : ℕ) → Bool
roomy out errors = leb report_room out && leb numbers_room errors

-- What a call gives for an input and two rooms: the length of the report, and what the rooms then hold. Into smaller rooms nothing is written.
pub record Reports (input out errors : List ℕ) (r : ℕ) (out' errors' : List ℕ) : Type 0 where
  pub written : Put out 0 (if roomy (length out) (length errors) then report_of input else []) out' r
  pub numbers_of : errors' ≡ sets errors 0 (numbers (if roomy (length out) (length errors) then errors_of input else []))
