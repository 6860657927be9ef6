-- Document 01, 'Whole-slice calls', on 'decode whole, escape and check are also exported': what the exports return and write.
use Rattle.std.specs.Prelude.{ℕ, ◌/◌, ◌≡◌, List, [], ◌∷◌, eqb, length, if◌then◌else◌}
use Rattle.std.proofs.Math.Option.{Option, some, none}
use Rattle.std.proofs.lemmas.List.Edits.{sets}
use Rattle.lists.specs.Bytes.{fours}
use Rattle.standard.specs.declared.Context.{Context}
use Rattle.standard.specs.declared.Context.TheVariants.{Text, Attribute}
use Rattle.standard.specs.Answers.{no_room}
use Rattle.standard.specs.Errors.{numbers}
use Rattle.standard.specs.NameList.{builtin}
use Rattle.standard.specs.Reading.{Reading}
use Rattle.decoder.specs.declared.whole.Decoded.{Decoded}
use Rattle.decoder.specs.Whole.{decoded_of, written_of}
use Rattle.escaper.specs.declared.Mode.{Mode}
use Rattle.escaper.specs.declared.Mode.TheVariants as mode
use Rattle.escaper.specs.declared.Escaped.{Escaped}
use Rattle.escaper.specs.Escape.{escaped_of, escape_written}
use Rattle.checker.specs.declared.checking.Checked.{Checked}
use Rattle.checker.specs.Transcript.{checked_bytes}

-- What an export returns, and what it writes into its report, its text room and its error room.
pub record Given : Type 0 where
  pub returned : ℕ
  pub report : List ℕ
  pub text : List ℕ
  pub errors : List ℕ

-- 'A 16-byte report gets the answer, text bytes (or verdict), errors (or row) and place .., and the answer is returned as well.'
abbrev pub reported : (answer text errors place : ℕ) (written_text written_errors : List ℕ) → Given
reported answer text errors place written_text written_errors = record {
  returned = answer;
  report = fours (answer ∷ text ∷ errors ∷ place ∷ []);
  text = written_text;
  errors = written_errors;
}

-- 'Returns 5 first and touches nothing.'
abbrev pub untouched : Given
untouched = record { returned = no_room; report = []; text = []; errors = [] }

-- '0 (text) and 1 (attribute)': what a number means.
unfoldable pub meant : {A : Type 0} (text attribute : A) → ℕ → Option A
meant text attribute number = if eqb number 0 then some text else if eqb number 1 then some attribute else none

abbrev pub context_of : ℕ → Option Context
context_of = meant Text Attribute

abbrev pub mode_of : ℕ → Option Mode
mode_of = meant mode.Text mode.Attribute

-- What is given for what was meant.
abbrev pub given_for : {A : Type 0} → (A → Given) → Option A → Given
given_for gives none = untouched
given_for gives (some a) = gives a

-- A report is four numbers of four bytes.
abbrev pub report_length : ℕ
report_length = 16

-- 'Another report length, or a context or escape mode other than 0 (text) and 1 (attribute), returns 5 first and touches nothing.'
unfoldable pub asked : {A : Type 0} (report : List ℕ) → Option A → (A → Given) → Given
asked report meaning gives = if eqb (length report) report_length then given_for gives meaning else untouched

-- Decode whole, in a context: 'odd last bytes of an error room don't count as room'.
unfoldable pub decodes : (source text errors : List ℕ) → Context → Given
decodes source text errors context =
    let d : Decoded = decoded_of context source (length text) (length errors / 4) in
    let read : Reading = written_of context source (length text) (length errors / 4) in
    reported d.answer d.text d.errors d.place read.text (fours (numbers read.errors))

-- Escape, in a mode.
unfoldable pub escapes : (input out : List ℕ) → Mode → Given
escapes input out mode =
    let e : Escaped = escaped_of mode input (length out) in
    reported e.answer e.text 0 e.place (escape_written mode input (length out)) []

-- Check, in a context.
unfoldable pub checks : (source rows text errors : List ℕ) → Context → Given
checks source rows text errors context =
    let c : Checked = checked_bytes builtin context source rows text errors in
    reported c.answer c.verdict c.row c.place [] []

-- What a call gives: its result, and what the report and the rooms then hold; [] stands for a room that an export has not.
pub record Gives (given : Given) (text errors report : List ℕ) (r : ℕ) (text' errors' report' : List ℕ) : Type 0 where
  pub answered : r ≡ given.returned
  pub texts : text' ≡ sets text 0 given.text
  pub numbers_of : errors' ≡ sets errors 0 given.errors
  pub reports : report' ≡ sets report 0 given.report
